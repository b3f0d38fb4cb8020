-- The ones in the rows so far.
use Rattle.std.proofs.Common.{◌≡◌, ◌≤◌, ◌*◌}
use Rattle.guard_spec.specs.Plain.{ones}
use Rattle.plain_size.proofs.prices.ones.Given as goal

abbrev pub invariant-loop-i : goal.invariant-loop-i
invariant-loop-i l = record { ones : l.sum ≡ ones l.code l.i; few : l.sum ≤ 32 * l.i }
