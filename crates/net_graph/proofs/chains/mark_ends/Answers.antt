use Rattle.std.proofs.Common.{◌↔◌, ℕ, List, get_or, subst, arith}
use Rattle.std.proofs.lemmas.List.{get_or_default, take_all}
use Rattle.net_graph.specs.Chains.{IsMarked, IsMarkedOr}
use Rattle.net_graph.proofs.MarkLemmas.{mark_more}
use Rattle.net_graph.proofs.chains.mark_ends.Goals as goal

pub loop-end-preserved : goal.loop-end-preserved
loop-end-preserved c =
    let ends = c.args.ends.now in
    let i = c.loop-end.end-index in
    mark_more c.args.marks.now c.loop-end.marks ends i (get_or ends i 0) c.loop-end-test.true (get_or_default ends i 0 (get_or ends i 0) c.loop-end-test.true)
    (omega (arith, c.requires i 0 c.loop-end-test.true)) c.loop-end.invariant

pub returns : goal.returns
returns c =
    subst (λ (l : List ℕ). (k : ℕ) → IsMarked c.loop-end.marks k ↔ IsMarkedOr c.args.marks.now l k) (take_all c.loop-end.end-index c.args.ends.now c.loop-end-test.false) c.loop-end.invariant
