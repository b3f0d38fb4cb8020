-- The lines so far have no fault, the summary knows of them and the file gathers them; the others are left.
use Rattle.std.proofs.Common.{length}
use Rattle.blif_read.proofs.FileLemmas.{IsReadSoFar}
use Rattle.blif_read.proofs.reader.read.Given as goal

abbrev pub invariant-lines : goal.invariant-lines
invariant-lines l = IsReadSoFar l.fn.bytes l.lines l.summary l.file

abbrev pub decreases-lines : goal.decreases-lines
decreases-lines l = length l.lines.left
