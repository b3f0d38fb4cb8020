use Rattle.std.proofs.Common.{◌≡◌, vec_len}
use Rattle.gates_tests.proofs.rails.alarms.Given as goal

abbrev pub invariant-loop-s : goal.invariant-loop-s
invariant-loop-s l = vec_len l.found ≡ l.s
