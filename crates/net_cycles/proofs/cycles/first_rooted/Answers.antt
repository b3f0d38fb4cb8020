use Rattle.std.proofs.Common.{sym, subst, ℕ, List, below_more, arith, Contains}
use Rattle.std.proofs.lemmas.Bool.{iff_false}
use Rattle.net_cycles.specs.Roots.{HasRootedEdge}
use Rattle.net_cycles.proofs.cycles.first_rooted.Goals as goal

pub loop-node-preserved : goal.loop-node-preserved
loop-node-preserved c =
    below_more (λ (k : ℕ). HasRootedEdge c.args.graph.now c.args.roots.now k → ⊥) c.loop-node.node c.loop-node.invariant
    (λ (w : HasRootedEdge c.args.graph.now c.args.roots.now c.loop-node.node). iff_false c.has_root.ensures c.if-has_root.false (w.0, subst (λ (l : List ℕ). Contains l w.0) (sym c.row.ensures) w.1, w.2))

pub returns-clause-none : goal.returns-clause-none
returns-clause-none c = λ n h. c.loop-node.invariant n (omega (arith, h))
