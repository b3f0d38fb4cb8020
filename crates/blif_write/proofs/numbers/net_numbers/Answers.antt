use Rattle.std.proofs.Common.{◌+◌, ◌≤◌, length, map, take, arith, get_or}
use Rattle.netlist_spec.specs.Written.{net_name}
use Rattle.gate_net.specs.declared.gate.NetId.{NetId}
use Rattle.gate_net.specs.Gate.{net_number}
use Rattle.blif_read.proofs.SpelledLemmas.{map-step_of, numbers-next}
use Rattle.blif_write.proofs.numbers.net_numbers.Goals as goal

pub loop-n-preserved : goal.loop-n-preserved
loop-n-preserved c =
    let none : NetId = record { 0 = 0 } in
    let i = c.loop-n.n-index in
    let name = net_name c.args.g.now in
    let more = map-step_of name net_number c.args.nets.now i none c.loop-n-test.true in
    let next = numbers-next c.args.names.now c.loop-n.names c.net_number.new.names c.loop-n.numbers.items (map name (map net_number (take i c.args.nets.now))) (map name (map net_number (take (i + 1) c.args.nets.now))) c.in_ok-number.number (name (net_number (get_or c.args.nets.now i none))) more c.loop-n.invariant.names c.loop-n.invariant.numbers c.in_ok-number.ensures.names c.in_ok-number.ensures.place in
    let few : length c.net_number.new.names ≤ length c.args.names.now + (i + 1) = omega (arith, next.2, c.loop-n.invariant.few) in
    record { names = next.0; numbers = rw c.in_ok-push.ensures.items next.1; few = few }
