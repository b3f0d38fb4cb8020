-- No earlier node is such.
use Rattle.std.proofs.Common.{ℕ, ◌<◌}
use Rattle.net_cycles.specs.Roots.{HasRootedEdge}
use Rattle.net_cycles.proofs.cycles.first_rooted.Given as goal

abbrev pub invariant-loop-node : goal.invariant-loop-node
invariant-loop-node l = (k : ℕ) → k < l.node → HasRootedEdge l.graph l.roots k → ⊥
