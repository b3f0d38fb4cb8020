-- The lines so far are the cycles so far, and the others are left.
use Rattle.std.proofs.Common.{length}
use Rattle.sim_text.proofs.StimulusLemmas.{IsSoFar}
use Rattle.sim_text.proofs.stimulus.Stimulus.read.Given as goal

abbrev pub invariant-lines : goal.invariant-lines
invariant-lines l = IsSoFar l.fn.bytes l.fn.inputs l.lines l.cycles l.bits

abbrev pub decreases-lines : goal.decreases-lines
decreases-lines l = length l.lines.left
