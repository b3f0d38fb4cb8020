use Rattle.std.proofs.Common.{◌≡◌, ◌∙◌, ◌↔◌, sym, ap, subst, ℕ, ◌<◌, List, Bool, Contains, arith}
use Rattle.net_graph.specs.Chains.{IsMarked}
use Rattle.net_graph.proofs.MarkLemmas.{below_kept, below_more, marked_within}
use Rattle.net_graph.proofs.chains.marked_nodes.Goals as goal
use Rattle.net_graph.proofs.chains.marked_nodes.Goals.{then-is_marked+in_ok-push, else-is_marked}

same_nodes : (marks : List Bool) (nodes after : List ℕ) (i : ℕ) → after ≡ nodes → ((k : ℕ) → Contains nodes k ↔ ((k < i) × IsMarked marks k)) → (k : ℕ) → Contains after k ↔ ((k < i) × IsMarked marks k)
same_nodes marks nodes after i e h = subst (λ (l : List ℕ). (k : ℕ) → Contains l k ↔ ((k < i) × IsMarked marks k)) (sym e) h

pub loop-node-preserved : goal.loop-node-preserved
loop-node-preserved c =
    elim c.if-is_marked.branch [
      | then-is_marked+in_ok-push w ↦
          same_nodes c.args.marks.now _ c.if-is_marked.nodes.items _ (ap (λ v. v.items) w.nodes-is ∙ w.in_ok-push.ensures.items)
          (below_more c.args.marks.now c.loop-node.nodes.items c.loop-node.node w.if-is_marked.true c.loop-node.invariant)
      | else-is_marked w ↦
          same_nodes c.args.marks.now _ c.if-is_marked.nodes.items _ (ap (λ v. v.items) w.nodes-is)
          (below_kept c.args.marks.now c.loop-node.nodes.items c.loop-node.node w.if-is_marked.false c.loop-node.invariant)
    ]

pub returns : goal.returns
returns c =
    λ k. (λ m. ((c.loop-node.invariant k).0 m).1, λ m. (c.loop-node.invariant k).1 (omega (arith, marked_within c.args.marks.now k m), m))
