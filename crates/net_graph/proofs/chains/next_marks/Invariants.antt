-- What an edge leads to from one of the nodes so far is marked.
use Rattle.std.proofs.Common.{◌≡◌, ◌↔◌, ℕ, length}
use Rattle.net_graph.specs.Chains.{IsMarked}
use Rattle.net_graph.proofs.MarkLemmas.{IsNextBelow}
use Rattle.net_graph.proofs.chains.next_marks.Given as goal

abbrev pub invariant-loop-node : goal.invariant-loop-node
invariant-loop-node l = record { size : length l.next.items ≡ length l.graph; exact : (k : ℕ) → IsMarked l.next.items k ↔ IsNextBelow l.graph l.marks l.node k }
