-- The nets so far are settled.
use Rattle.std.proofs.Common.{ℕ, ◌<◌, ◌≤◌, get_or}
use Rattle.net_graph.specs.Chains.{IsMarked}
use Rattle.net_order.proofs.state.next_unsettled.Given as goal

abbrev pub invariant-loop-place : goal.invariant-loop-place
invariant-loop-place l = (k : ℕ) → l.from ≤ k → k < l.place → IsMarked l.settled (get_or l.nets k 0)
