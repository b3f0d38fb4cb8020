use Rattle.std.proofs.Common.{◌≡◌, ◌<◌, sym, ◌∙◌, ap, subst, ℕ, ◌+◌, List, length, Option, Some, slice_get, arith}
use Rattle.plain_size.specs.Nodes.{ArePointed, AreNodes}
use Rattle.plain_size.proofs.NodeLemmas.{nodes_more, nodes_kept, driven_at, driven_nowhere, item_at}
use Rattle.plain_size.proofs.nodes.point_driven.Goals as goal
use Rattle.plain_size.proofs.nodes.point_driven.Goals.{then-combines, else-combines}

pub loop-j-preserved : goal.loop-j-preserved
loop-j-preserved c =
    let ss = c.args.m.now.statements.items in
    let rows = c.args.survey.now.drives in
    let names = length c.args.m.now.names in
    let j = c.loop-j.j in
    let s = c.s-item.result in
    let inside : j < length ss = (let t = c.loop-j-test.true in let d = ap length c.deref-s-items.ensures.value in omega arith) in
    let is : slice_get ss j ≡ Some s = item_at c.deref-s-items.result.now ss j s c.loop-j-test.true c.s-item.is c.deref-s-items.ensures.value in
    elim c.if-combines.branch [
      | then-combines w ↦
          record {
            size = ap length w.nodes-is ∙ (w.point.ensures.each ∙ c.loop-j.invariant.size);
            nodes = λ lead says begins.
                let driven = driven_at ss rows j s w.row.result.now is w.row.ensures (sym c.combines.ensures ∙ w.if-combines.true) in
                subst (λ (l : List (Option ℕ)). AreNodes names (j + 1) lead l) (sym w.nodes-is)
                (nodes_more names j lead c.loop-j.nodes w.point.new.nodes (c.loop-j.invariant.nodes lead says begins)
                (subst (λ (l : List ℕ). ArePointed l j c.loop-j.nodes w.point.new.nodes) (sym (says j inside ∙ driven)) w.point.ensures));
          }
      | else-combines w ↦
          record {
            size = ap length w.nodes-is ∙ c.loop-j.invariant.size;
            nodes = λ lead says begins.
                let nowhere = driven_nowhere ss rows j s is (sym c.combines.ensures ∙ w.if-combines.false) in
                subst (λ (l : List (Option ℕ)). AreNodes names (j + 1) lead l) (sym w.nodes-is)
                (nodes_kept names j lead c.loop-j.nodes (says j inside ∙ nowhere) (c.loop-j.invariant.nodes lead says begins));
          }
    ]

pub returns : goal.returns
returns c = λ lead says begins.
    let end : c.loop-j.j ≡ length c.args.m.now.statements.items = (let t = c.loop-j-test.false in let e = c.loop-j.auto.j-end in let d = ap length c.deref-s-items.ensures.value in omega arith) in
    subst (λ (k : ℕ). AreNodes (length c.args.m.now.names) k lead c.loop-j.nodes) end (c.loop-j.invariant.nodes lead says begins)
