use Rattle.std.proofs.Common.{sym, ap, subst, ◌<◌, ◌≤◌, map, List, arith}
use Rattle.std.specs.List.{AllByRecursion}
use Rattle.netlist_spec.specs.Covers.{Table}
use Rattle.netlist_spec.specs.Size.{table_cost}
use Rattle.gate_net.specs.declared.gate.NetId.{NetId}
use Rattle.gate_net.specs.Gate.{net_number}
use Rattle.gate_net.specs.GateNet.{net_count}
use Rattle.reduction.proofs.Outputs.{are_nets}
use Rattle.sbox_table.proofs.Widths.{cost_within}
use Rattle.gates_tests.proofs.tables.outputs.Goals as goal

pub lower-requires-clause-room : goal.lower-requires-clause-room
lower-requires-clause-room c =
    let P : Table → Type 0 = λ t. table_cost t ≤ 8192 in
    let cost : table_cost c.args.table.now ≤ 8192 = subst P c.table.view_is (cost_within _ c.table.invariant) in
    let e = ap net_count c.in_ok-net.ensures in
    let ins = c.table.invariant.ins.1 in
    let same = c.from.ensures in
    omega arith

pub bits_of-requires-clause-nets : goal.bits_of-requires-clause-nets
bits_of-requires-clause-nets c =
    let P : List NetId → Type 0 = λ nets. AllByRecursion (λ n. n < net_count c.lower.new.net) (map net_number nets) in
    subst P (sym c.deref-3.ensures.value) (are_nets c.in_ok-net.net c.lower.new.net c.in_ok-outs.outs.items c.in_ok-outs.ensures.appended)
