-- None of the nets so far is left over.
use Rattle.std.proofs.Common.{◌≡◌, ℕ, ◌<◌, ◌-◌, false, get_or, length, drop}
use Rattle.net_order.specs.Walks.{first_left}
use Rattle.net_order.proofs.loops.next_left.Given as goal

abbrev pub invariant-loop-place : goal.invariant-loop-place
invariant-loop-place l =
    record { before : (k : ℕ) → k < l.place → get_or l.left (get_or l.nets k 0) false ≡ false; rest : first_left l.left (drop l.place l.nets) ≡ first_left l.left l.nets }

abbrev pub decreases-loop-place : goal.decreases-loop-place
decreases-loop-place l = length l.nets - l.place
