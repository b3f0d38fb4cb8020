-- The ends so far are marked.
use Rattle.std.proofs.Common.{◌↔◌, ℕ, take}
use Rattle.net_graph.specs.Chains.{IsMarked, IsMarkedOr}
use Rattle.net_graph.proofs.chains.mark_ends.Given as goal

abbrev pub invariant-loop-end : goal.invariant-loop-end
invariant-loop-end l = (k : ℕ) → IsMarked l.marks k ↔ IsMarkedOr l.initial.marks (take l.end-index l.ends) k
