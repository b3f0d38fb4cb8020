use Rattle.std.proofs.Common.{map, take}
use Rattle.gate_net.specs.Gate.{net_number}
use Rattle.cone_split.specs.Copies.{GainsGates}
use Rattle.cone_split.proofs.cone.add_gates.Given as goal

abbrev pub invariant-loop-n : goal.invariant-loop-n
invariant-loop-n l = GainsGates l.leaves l.fn.pending.keys l.pending.keys (map net_number (take l.n-index l.nets))
