-- No latch so far is at fault.
use Rattle.std.proofs.Common.{◌≡◌, drop}
use Rattle.blif_read.specs.declared.file.Located.{Located}
use Rattle.blif_read.specs.View.{model_of, statement_of}
use Rattle.main_check.specs.Clocking.{odd_output, odd_among}
use Rattle.main_check.proofs.Firsts.{first_some}
use Rattle.main_check.proofs.clocking.odd_latch.Given as goal

abbrev pub invariant-loop-s : goal.invariant-loop-s
invariant-loop-s l =
    first_some (λ (s : Located). odd_output (model_of l.m) (statement_of l.m.names s.what)) (drop l.s-index l.s-items) ≡ odd_among (model_of l.m) (model_of l.m).statements
