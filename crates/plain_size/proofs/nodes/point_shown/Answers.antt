use Rattle.std.proofs.Common.{◌≡◌, ◌+◌, ◌∷◌, [], refl, sym, ◌∙◌, ap, subst, ℕ, List, Vec, length, map, Some, slice_get, arith}
use Rattle.std.specs.Prelude.{option_map}
use Rattle.std.specs.declared.alloc.Global.{Global}
use Rattle.std.proofs.lemmas.Option.{slice_get-map}
use Rattle.plain_size.specs.Nodes.{ArePointed, AreNodes, shown_by}
use Rattle.plain_size.proofs.NodeLemmas.{nodes_more, shown_at, item_at}
use Rattle.plain_size.proofs.nodes.point_shown.Goals as goal

pub loop-w-preserved : goal.loop-w-preserved
loop-w-preserved c =
    let words = map (λ (v : Vec ℕ Global). v.items) c.args.words.now in
    let shown = c.args.shown.now in
    let nets = length c.args.nodes.now in
    let w = c.loop-w.w in
    let word = c.index-words-w.result in
    let is : slice_get words w ≡ Some word.items
    = slice_get-map (λ (v : Vec ℕ Global). v.items) c.args.words.now w ∙ ap (option_map (λ (v : Vec ℕ Global). v.items)) (item_at c.args.words.now c.args.words.now w word c.loop-w-test.true c.index-words-w.is refl) in
    record {
      size = c.point_latches.ensures.each ∙ c.loop-w.invariant.size;
      nodes = λ lead says begins.
          let here : shown_by shown (c.deref.result.now ∷ []) 0 ≡ lead (c.args.first + w)
          = ap (λ (l : List ℕ). shown_by shown (l ∷ []) 0) c.deref.ensures.value ∙ (sym (shown_at shown words w word.items is) ∙ sym (says w c.loop-w-test.true)) in
          let one : c.args.first + w + 1 ≡ c.args.first + (w + 1) = omega arith in
          subst (λ (k : ℕ). AreNodes nets k lead c.point_latches.new.nodes) one
          (nodes_more nets (c.args.first + w) lead c.loop-w.nodes c.point_latches.new.nodes (c.loop-w.invariant.nodes lead says begins)
          (subst (λ (l : List ℕ). ArePointed l (c.args.first + w) c.loop-w.nodes c.point_latches.new.nodes) here c.point_latches.ensures));
    }

pub returns : goal.returns
returns c = λ lead says begins.
    let end : c.loop-w.w ≡ length c.args.words.now = (let t = c.loop-w-test.false in let e = c.loop-w.auto.w-end in omega arith) in
    subst (λ (k : ℕ). AreNodes (length c.args.nodes.now) (c.args.first + k) lead c.loop-w.nodes) end (c.loop-w.invariant.nodes lead says begins)
