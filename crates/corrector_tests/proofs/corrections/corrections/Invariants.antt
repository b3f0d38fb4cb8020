-- As many words as states so far.
use Rattle.std.proofs.Common.{◌≡◌, vec_len}
use Rattle.corrector_tests.proofs.corrections.corrections.Given as goal

abbrev pub invariant-loop-s : goal.invariant-loop-s
invariant-loop-s l = vec_len l.found ≡ l.s
