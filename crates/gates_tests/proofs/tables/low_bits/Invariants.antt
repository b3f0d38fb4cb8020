use Rattle.std.proofs.Common.{◌≡◌, length}
use Rattle.gates_tests.proofs.tables.low_bits.Given as goal

abbrev pub invariant-loop-i : goal.invariant-loop-i
invariant-loop-i l = length l.bits.items ≡ l.i
