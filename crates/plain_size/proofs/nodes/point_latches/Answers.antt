use Rattle.std.proofs.Common.{◌≡◌, ◌<◌, ◌∷◌, ◌++◌, [], sym, subst, ℕ, List, length, get_or, set, take, Some}
use Rattle.std.proofs.lemmas.List.{get_or-map, map_more}
use Rattle.imp_text.specs.declared.names.NameId.{NameId}
use Rattle.plain_size.specs.Nodes.{ArePointed, numbers, shown_by}
use Rattle.plain_size.proofs.NodeLemmas.{pointed_none, pointed_more}
use Rattle.plain_size.proofs.nodes.point_latches.Goals as goal

pub loop-i-init : goal.loop-i-init
loop-i-init c = pointed_none c.args.node c.args.nodes.now

pub loop-i-preserved : goal.loop-i-preserved
loop-i-preserved c =
    let shown = c.args.shown.now in
    let word = c.args.word.now in
    let i = c.loop-i.i-index in
    let latch = get_or word i 0 in
    let none : NameId = record { 0 = 0 } in
    let inside : latch < length shown = c.requires.latches i 0 c.loop-i-test.true in
    let net : get_or (numbers shown) latch 0 ≡ (get_or shown latch none).0 = get_or-map (λ (id : NameId). id.0) shown latch none 0 inside in
    subst (λ (l : List ℕ). ArePointed l c.args.node c.args.nodes.now (set c.loop-i.nodes (get_or shown latch none).0 (Some c.args.node))) (sym (map_more (λ (k : ℕ). get_or (numbers shown) k 0) word i 0 c.loop-i-test.true))
    (subst (λ (k : ℕ). ArePointed (shown_by shown (take i word ∷ []) 0 ++ get_or (numbers shown) latch 0 ∷ []) c.args.node c.args.nodes.now (set c.loop-i.nodes k (Some c.args.node))) net
    (pointed_more (shown_by shown (take i word ∷ []) 0) c.args.node (get_or (numbers shown) latch 0) c.args.nodes.now c.loop-i.nodes (subst (λ (k : ℕ). k < length c.args.nodes.now) (sym net) (c.requires.shown latch none inside)) c.loop-i.invariant))
