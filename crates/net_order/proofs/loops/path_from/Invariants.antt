-- None of the nets so far is the one that is looked for.
use Rattle.std.proofs.Common.{◌≡◌, ℕ, ◌<◌, ◌-◌, get_or, length}
use Rattle.net_order.proofs.loops.path_from.Given as goal

abbrev pub invariant-loop-at : goal.invariant-loop-at
invariant-loop-at l = (k : ℕ) → k < l.at → get_or l.path k 0 ≡ l.net → ⊥

abbrev pub decreases-loop-at : goal.decreases-loop-at
decreases-loop-at l = length l.path - l.at
