use Rattle.std.proofs.Common.{◌≡◌, ◌+◌, ◌++◌, sym, ◌∙◌, ap, subst, ℕ, List, Vec, length, map, take, drop, replicate, Option, None, arith}
use Rattle.std.specs.declared.alloc.Global.{Global}
use Rattle.std.proofs.lemmas.List.{length-replicate}
use Rattle.net_graph.proofs.MarkLemmas.{written_back}
use Rattle.imp_text.specs.declared.names.NameId.{NameId}
use Rattle.plain_size.specs.Nodes.{AreNodes, lead_of, shown_by}
use Rattle.plain_size.proofs.NodeLemmas.{nodes_none, nodes_behind, leads_first, leads_behind}
use Rattle.plain_size.proofs.nodes.net_nodes.Goals as goal

pub returns : goal.returns
returns c =
    let m = c.args.m.now in
    let survey = c.args.survey.now in
    let shown = c.in_ok-shown.shown.items in
    let words = map (λ (w : Vec ℕ Global). w.items) c.args.words.now in
    let lead = lead_of m survey shown words in
    let nets = length m.names in
    let first = length m.statements.items in
    let n : ℕ = c.in_ok-nodes.nodes.len in
    let begun : List (Option ℕ) = c.in_ok-nodes.nodes.items in
    let driven : List (Option ℕ) = c.point_driven.new.nodes in
    let all : List (Option ℕ) = c.point_shown.new.nodes in
    let size : length begun ≡ n = (let o = c.in_ok-nodes.nodes.ok.0 in omega arith) in
    let long : length driven ≡ length begun = c.point_driven.auto.nodes ∙ ap length c.deref_mut.ensures.value in
    let whole : take n (driven ++ drop (length driven) begun) ≡ driven = written_back n driven begun long size in
    let many : length begun ≡ nets = ap length c.in_ok-nodes.ensures ∙ (length-replicate c.len.result None ∙ c.len.ensures.count) in
    let none : AreNodes nets 0 lead c.deref_mut.result.now
    = subst (λ (l : List (Option ℕ)). AreNodes nets 0 lead l) (sym (c.deref_mut.ensures.value ∙ (c.in_ok-nodes.ensures ∙ ap (λ (k : ℕ). replicate k None) c.len.ensures.count))) (nodes_none nets lead) in
    let half = c.point_driven.ensures lead (λ j h. leads_first m survey shown words j h) none in
    let statements : c.len-2.result ≡ first = c.len-2.ensures ∙ m.statements.ok.0 in
    let both : AreNodes nets (first + length c.args.words.now) lead all
    = nodes_behind nets first (length c.args.words.now) c.len-2.result lead driven c.deref_mut-2.result.now all (c.deref_mut-2.ensures.value ∙ whole) statements (long ∙ many)
    (λ begins. c.point_shown.ensures lead (λ w h. ap (λ (k : ℕ). lead (k + w)) statements ∙ (leads_behind m survey shown words w ∙ ap (λ (l : List NameId). shown_by l words w) (sym c.deref.ensures.value))) begins)
    half in
    let again : length all ≡ length (take n (driven ++ drop (length driven) begun)) = c.point_shown.auto.nodes ∙ ap length c.deref_mut-2.ensures.value in
    let end : take n (all ++ drop (length all) (take n (driven ++ drop (length driven) begun))) ≡ all = written_back n all (take n (driven ++ drop (length driven) begun)) again (ap length whole ∙ (long ∙ size)) in
    (shown, c.in_ok-shown.ensures.names, c.in_ok-shown.ensures.within, subst (λ (l : List (Option ℕ)). AreNodes nets (first + length c.args.words.now) lead l) (sym end) both)
