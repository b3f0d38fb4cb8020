use Rattle.std.proofs.Common.{sym, subst, ℕ, List, get_or, take}
use Rattle.std.proofs.lemmas.List.{take_more}
use Rattle.net_graph.specs.Search.{Visits}
use Rattle.net_graph.proofs.VisitLemmas.{visit_more, visit_none}
use Rattle.net_graph.proofs.chains.visit.Goals as goal

pub loop-end-init : goal.loop-end-init
loop-end-init c = visit_none c.args.marks.now c.args.waiting.now.items

pub loop-end-preserved : goal.loop-end-preserved
loop-end-preserved c =
    let ends = c.args.ends.now in
    let i = c.loop-end.end-index in
    subst (λ (l : List ℕ). Visits l c.args.marks.now c.args.waiting.now.items c.visit_one.new.marks c.visit_one.new.waiting.items) (sym (take_more ends i 0 c.loop-end-test.true))
    (visit_more (take i ends) (get_or ends i 0) _ _ _ _ _ _ c.loop-end.invariant c.in_ok-visit_one.ensures)
