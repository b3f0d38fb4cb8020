use Rattle.std.proofs.Common.{map, take}
use Rattle.gate_net.specs.Gate.{net_number}
use Rattle.joined_net.specs.Marks.{GainsMarks}
use Rattle.joined_net.proofs.marks.mark_all.Given as goal

abbrev pub invariant-loop-n : goal.invariant-loop-n
invariant-loop-n l = GainsMarks l.initial.marks l.marks (map net_number (take l.n-index l.nets))
