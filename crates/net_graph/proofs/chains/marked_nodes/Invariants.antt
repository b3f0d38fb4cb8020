-- The marked ones so far.
use Rattle.std.proofs.Common.{◌↔◌, ℕ, ◌<◌, Contains}
use Rattle.net_graph.specs.Chains.{IsMarked}
use Rattle.net_graph.proofs.chains.marked_nodes.Given as goal

abbrev pub invariant-loop-node : goal.invariant-loop-node
invariant-loop-node l = (k : ℕ) → Contains l.nodes.items k ↔ ((k < l.node) × IsMarked l.marks k)
