-- The lines so far are the faults so far, and the others are left.
use Rattle.std.proofs.Common.{length}
use Rattle.fault_script.proofs.ReadLemmas.{IsSoFar}
use Rattle.fault_script.proofs.script.Script.read.Given as goal

abbrev pub invariant-lines : goal.invariant-lines
invariant-lines l = IsSoFar l.fn.sim.cells l.fn.bytes l.lines l.script

abbrev pub decreases-lines : goal.decreases-lines
decreases-lines l = length l.lines.left
