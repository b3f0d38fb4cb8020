use Rattle.std.proofs.Common.{ap, map, arith}
use Rattle.std.proofs.lemmas.List.{length-map}
use Rattle.gate_net.specs.Gate.{net_number}
use Rattle.gate_net.specs.GateNet.{net_count}
use Rattle.predictor.proofs.Checks.{chosen_length}
use Rattle.gates_tests.proofs.check_bits.bit.Goals as goal

pub check_bit-requires-clause-room : goal.check_bit-requires-clause-room
check_bit-requires-clause-room c = λ size is_size.
    let within = c.cones_have_one_size.ensures.within c.args.src.now _ size is_size in
    let few = chosen_length c.args.code.now.rows c.args.j (map net_number c.args.roots.now) in
    let long = length-map c.args.roots.now net_number in
    let most = c.requires.few in
    let leaves = c.requires.leaves in
    let nets = c.requires.nets in
    let empty = ap net_count c.in_ok-dst.ensures in
    omega arith
