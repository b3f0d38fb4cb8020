use Rattle.joined_net.specs.Marks.{GainsReads}
use Rattle.joined_net.proofs.marks.mark_cones.Given as goal

abbrev pub invariant-loop-n : goal.invariant-loop-n
invariant-loop-n l = GainsReads l.m l.n l.initial.marks l.marks
