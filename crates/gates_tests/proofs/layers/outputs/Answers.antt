use Rattle.std.proofs.Common.{sym, ap, subst, ◌<◌, ◌≤◌, ◌*◌, map, List, arith}
use Rattle.std.specs.List.{AllByRecursion}
use Rattle.netlist_spec.specs.Covers.{Linear}
use Rattle.netlist_spec.specs.Size.{linear_cost}
use Rattle.gate_net.specs.declared.gate.NetId.{NetId}
use Rattle.gate_net.specs.Gate.{net_number}
use Rattle.gate_net.specs.GateNet.{net_count}
use Rattle.reduction.proofs.Outputs.{are_nets}
use Rattle.linear_layer.proofs.Widths.{cost_within}
use Rattle.gates_tests.proofs.layers.outputs.Goals as goal

pub lower-requires-clause-room : goal.lower-requires-clause-room
lower-requires-clause-room c =
    let P : Linear → Type 0 = λ l. linear_cost l ≤ 128 * 129 in
    let cost : linear_cost c.args.layer.now ≤ 128 * 129 = subst P c.layer.view_is (cost_within _ c.layer.invariant) in
    let e = ap net_count c.in_ok-net.ensures in
    let width = c.layer.invariant.width.1 in
    let same = c.from.ensures in
    omega arith

pub bits_of-requires-clause-nets : goal.bits_of-requires-clause-nets
bits_of-requires-clause-nets c =
    let P : List NetId → Type 0 = λ nets. AllByRecursion (λ n. n < net_count c.lower.new.net) (map net_number nets) in
    subst P (sym c.deref-2.ensures.value) (are_nets c.in_ok-net.net c.lower.new.net c.in_ok-outs.outs.items c.in_ok-outs.ensures.appended)
