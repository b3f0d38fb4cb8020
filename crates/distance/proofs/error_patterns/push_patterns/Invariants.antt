use Rattle.std.proofs.Common.{◌≡◌, ◌++◌, map, take}
use Rattle.distance.specs.Patterns.{pattern_at}
use Rattle.distance.proofs.error_patterns.push_patterns.Given as goal

abbrev pub invariant-loop-error : goal.invariant-loop-error
invariant-loop-error l = l.found.items ≡ l.initial.found.items ++ map (pattern_at l.c l.m) (take l.error-index l.errors)
