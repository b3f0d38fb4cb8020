-- No earlier end has the root.
use Rattle.std.proofs.Common.{◌≡◌, ℕ, get_or, take, Contains}
use Rattle.net_cycles.proofs.cycles.has_root.Given as goal

abbrev pub invariant-loop-end : goal.invariant-loop-end
invariant-loop-end l = (b : ℕ) → Contains (take l.end-index l.ends) b → get_or l.roots b 0 ≡ l.root → ⊥
