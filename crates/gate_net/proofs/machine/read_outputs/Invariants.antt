use Rattle.std.proofs.Common.{◌≡◌, map, take}
use Rattle.gate_net.specs.Gate.{net_number}
use Rattle.gate_net.specs.GateNet.{net_bit}
use Rattle.gate_net.proofs.machine.read_outputs.Given as goal

abbrev pub invariant-loop-i : goal.invariant-loop-i
invariant-loop-i l = take l.i l.out ≡ map (net_bit l.row) (map net_number (take l.i l.outputs))
