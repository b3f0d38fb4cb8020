use Rattle.std.proofs.Common.{◌≡◌, ℕ, ◌+◌, List, map}
use Rattle.distance.specs.Levels.{IsLevel}
use Rattle.distance.specs.Patterns.{pattern_at}
use Rattle.distance.proofs.PatternLemmas.{AreErrors}
use Rattle.distance.proofs.error_patterns.patterns.Given as goal

abbrev pub invariant-loop : goal.invariant-loop
invariant-loop l = record {
  level : IsLevel (l.m + l.c.columns) l.counter l.errors.items;
  found : (xs : List ℕ) × (l.found.items ≡ map (pattern_at l.c l.m) xs) × AreErrors (l.m + l.c.columns) l.counter xs;
}
