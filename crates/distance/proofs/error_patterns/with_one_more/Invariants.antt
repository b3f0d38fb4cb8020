use Rattle.std.proofs.Common.{ℕ, ◌+◌}
use Rattle.distance.specs.Levels.{IsLevel}
use Rattle.distance.proofs.error_patterns.with_one_more.Given as goal

abbrev pub invariant-loop-place : goal.invariant-loop-place
invariant-loop-place l = (n : ℕ) → IsLevel l.places n l.words → IsLevel l.place (n + 1) l.raised.items
