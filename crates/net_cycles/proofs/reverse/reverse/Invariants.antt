-- The lists so far.
use Rattle.std.proofs.Common.{◌≡◌, map, take}
use Rattle.net_cycles.proofs.reverse.reverse.Given as goal

abbrev pub invariant-loop-end : goal.invariant-loop-end
invariant-loop-end l = l.back ≡ take l.end (map (λ v. v.items) l.starts-inside.lists.items)
