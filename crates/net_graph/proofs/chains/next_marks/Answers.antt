use Rattle.std.proofs.Common.{◌≡◌, ◌∙◌, ◌↔◌, sym, ap, subst, ℕ, ◌+◌, Bool, List, length, arith}
use Rattle.std.proofs.lemmas.List.{with_items_is}
use Rattle.net_graph.specs.Chains.{IsMarked, IsMarkedOr, ends_of}
use Rattle.net_graph.proofs.MarkLemmas.{IsNextBelow, next_kept, next_more}
use Rattle.net_graph.proofs.chains.next_marks.Goals as goal
use Rattle.net_graph.proofs.chains.next_marks.Goals.{then-is_marked, else-is_marked}

kept_list : (graph : List (List ℕ)) (marks next after : List Bool) (i : ℕ) → after ≡ next → ((k : ℕ) → IsMarked next k ↔ IsNextBelow graph marks i k) → (k : ℕ) → IsMarked after k ↔ IsNextBelow graph marks i k
kept_list graph marks next after i e h = subst (λ (l : List Bool). (k : ℕ) → IsMarked l k ↔ IsNextBelow graph marks i k) (sym e) h

marked_row : (first after : List Bool) (row other : List ℕ) (seen : List Bool) → seen ≡ first → row ≡ other → ((k : ℕ) → IsMarked after k ↔ IsMarkedOr seen row k) → (k : ℕ) → IsMarked after k ↔ IsMarkedOr first other k
marked_row first after row other seen same is h =
    subst (λ (l : List Bool). (k : ℕ) → IsMarked after k ↔ IsMarkedOr l other k) same (subst (λ (l : List ℕ). (k : ℕ) → IsMarked after k ↔ IsMarkedOr seen l k) is h)

pub loop-node-preserved : goal.loop-node-preserved
loop-node-preserved c =
    elim c.if-is_marked.branch [
      | then-is_marked w ↦
          let size : length w.mark_ends.new.marks ≡ c.loop-node.next.len = omega (arith, w.mark_ends.auto.marks, ap length w.deref_mut.ensures.value, c.loop-node.next.ok.0) in
          let is = ap (λ v. v.items) w.next-is ∙ with_items_is c.loop-node.next w.mark_ends.new.marks size in
          record {
            size = omega (arith, ap length is, size, c.loop-node.next.ok.0, c.loop-node.invariant.size);
            exact = kept_list c.args.graph.now c.args.marks.now w.mark_ends.new.marks c.if-is_marked.next.items (c.loop-node.node + 1) is
                (next_more c.args.graph.now c.args.marks.now c.loop-node.next.items w.mark_ends.new.marks c.loop-node.node w.if-is_marked.true c.loop-node.invariant.exact
                (marked_row c.loop-node.next.items w.mark_ends.new.marks w.row.result.now (ends_of c.args.graph.now c.loop-node.node) w.deref_mut.result.now w.deref_mut.ensures.value w.row.ensures w.mark_ends.ensures));
          }
      | else-is_marked w ↦
          let is = ap (λ v. v.items) w.next-is in
          record {
            size = ap length is ∙ c.loop-node.invariant.size;
            exact = kept_list c.args.graph.now c.args.marks.now c.loop-node.next.items c.if-is_marked.next.items (c.loop-node.node + 1) is
                (next_kept c.args.graph.now c.args.marks.now c.loop-node.next.items c.loop-node.node w.if-is_marked.false c.loop-node.invariant.exact);
          }
    ]
