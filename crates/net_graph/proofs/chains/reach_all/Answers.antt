use Rattle.std.proofs.Common.{◌≡◌, ◌∙◌, ◌↔◌, sym, ap, subst, ℕ, ◌+◌, ◌<◌, List, Bool, [], ◌∷◌, ◌++◌, length, take, drop, not, count_by, Contains, arith}
use Rattle.std.proofs.lemmas.List.{length_push, nil_from_length, with_items_is}
use Rattle.std.specs.Vec.{with_items}
use Rattle.std.proofs.lemmas.List.Elements.{Contains-push}
use Rattle.net_graph.specs.Chains.{IsMarked, ends_of}
use Rattle.net_graph.specs.Search.{Visits}
use Rattle.net_graph.proofs.MarkLemmas.{marked_within, written_back}
use Rattle.net_graph.proofs.VisitLemmas.{Searches, search_begins, search_more, search_ends}
use Rattle.net_graph.proofs.chains.reach_all.Goals as goal

waits : (graph : List (List ℕ)) (first marks : List Bool) (waiting rest : List ℕ) (node : ℕ) → waiting ≡ rest ++ node ∷ [] → Searches graph first marks waiting → node < length graph
waits graph first marks waiting rest node is s =
    omega (arith, s.size, marked_within marks node (s.inside node (subst (λ l. Contains l node) (sym is) (Contains-push rest node))))

step : (graph : List (List ℕ)) (first marks seen new : List Bool) (waiting rest more row : List ℕ) (node n : ℕ) → waiting ≡ rest ++ node ∷ [] → row ≡ ends_of graph node → seen ≡ marks → length new ≡ length seen → length marks ≡ n
    → Searches graph first marks waiting → Visits row seen rest new more → Searches graph first (take n (new ++ drop (length new) marks)) more
step graph first marks seen new waiting rest more row node n is row_is same size full s v =
    subst (λ l. Searches graph first l more) (sym (written_back n new marks (size ∙ ap length same) full))
    (search_more graph first marks new waiting rest more node is s (subst (λ l. Visits (ends_of graph node) l rest new more) same (subst (λ l. Visits l seen rest new more) row_is v)))

begins : (graph : List (List ℕ)) (marks seen : List Bool) (waiting : List ℕ) → seen ≡ marks → length marks ≡ length graph → ((k : ℕ) → Contains waiting k ↔ IsMarked seen k) → Searches graph marks marks waiting
begins graph marks seen waiting same size nodes = search_begins graph marks waiting size (subst (λ (l : List Bool). (k : ℕ) → Contains waiting k ↔ IsMarked l k) same nodes)

falls : (marks seen new after : List Bool) (waiting rest more row : List ℕ) (node : ℕ) → waiting ≡ rest ++ node ∷ [] → seen ≡ marks → after ≡ new → Visits row seen rest new more → count_by not after + length more < count_by not marks + length waiting
falls marks seen new after waiting rest more row node is same now v =
    let a : count_by not after ≡ count_by not new = ap (count_by not) now in
    let b : count_by not seen ≡ count_by not marks = ap (count_by not) same in
    let d : length waiting ≡ length rest + 1 = ap length is ∙ length_push rest node in
    let e = v.pending in
    omega arith

pub loop-node-init : goal.loop-node-init
loop-node-init c =
    begins _ c.args.marks.items c.deref.result.now c.in_ok-waiting.waiting.items c.deref.ensures.value c.requires.marks c.in_ok-waiting.ensures

pub row-requires : goal.row-requires
row-requires c = waits _ _ _ _ _ c.in-Some.node c.in-Some.ensures.items c.loop-node.invariant

pub loop-node-preserved : goal.loop-node-preserved
loop-node-preserved c =
    step _ _ _ c.deref_mut.result.now c.visit.new.marks _ _ _ c.row.result.now c.in-Some.node _ c.in-Some.ensures.items c.row.ensures c.deref_mut.ensures.value c.visit.auto.marks (omega (arith, c.loop-node.marks.ok.0))
    c.loop-node.invariant c.in_ok-visit.ensures

pub loop-node-smaller : goal.loop-node-smaller
loop-node-smaller c =
    falls c.loop-node.marks.items c.deref_mut.result.now c.visit.new.marks (with_items c.loop-node.marks c.visit.new.marks).items _ _ _ c.row.result.now c.in-Some.node c.in-Some.ensures.items c.deref_mut.ensures.value
    (with_items_is c.loop-node.marks c.visit.new.marks (omega (arith, c.visit.auto.marks, ap length c.deref_mut.ensures.value, c.loop-node.marks.ok.0))) c.in_ok-visit.ensures

pub returns : goal.returns
returns c = search_ends _ _ _ _ (nil_from_length c.loop-node.waiting.items (omega (arith, c.in_default.ensures.cases.0, c.loop-node.waiting.ok.0))) c.loop-node.invariant
