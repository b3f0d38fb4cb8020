use Rattle.std.proofs.Common.{◌≡◌, ◌+◌, ◌^◌, ◌<◌, ◌≤◌, ◌++◌, ◌∷◌, [], sym, ◌∙◌, ap, subst, ℕ, List, length, map, take}
use Rattle.std.specs.List.{AllByRecursion}
use Rattle.std.proofs.lemmas.List.Elements.{All-from_recursion}
use Rattle.gate_net.specs.Gate.{net_number}
use Rattle.gate_net.specs.GateNet.{net_count}
use Rattle.guard_spec.specs.Codes.{data_places}
use Rattle.guard_cells.specs.Cells.{checks_cost, nets_at}
use Rattle.encode_state.specs.Types.{words_in}
use Rattle.guard_net.proofs.Lists.{below_kept, word_more, word_of}
use Rattle.guard_net.proofs.RightCells.{room_at}
use Rattle.guard_net.proofs.CheckWords.{checks_gained}
use Rattle.guard_net.proofs.words.add_output_checks.Goals as goal

pub add_word_checks-requires-clause-places : goal.add_word_checks-requires-clause-places
add_word_checks-requires-clause-places c =
    let w = word_of (length c.args.m.now.outputs) (data_places c.args.code.now) c.args.words.now c.loop-word.word-index c.word-item.result c.loop-word-test.true c.word-item.is c.requires.words in
    subst (λ (ws : List ℕ). (1 ≤ length ws) × (length ws ≤ data_places c.args.code.now)) (sym c.deref.ensures.value) (w.some, w.most)

pub add_word_checks-requires-clause-within : goal.add_word_checks-requires-clause-within
add_word_checks-requires-clause-within c =
    let n = length c.args.m.now.outputs in
    let w = word_of n (data_places c.args.code.now) c.args.words.now c.loop-word.word-index c.word-item.result c.loop-word-test.true c.word-item.is c.requires.words in
    All-from_recursion (λ i. i < n) c.deref.result.now (subst (λ (ws : List ℕ). AllByRecursion (λ i. i < n) ws) (sym c.deref.ensures.value) w.within)

pub add_word_checks-requires-clause-leaf : goal.add_word_checks-requires-clause-leaf
add_word_checks-requires-clause-leaf c = below_kept c.args.s.now.net c.loop-word.s.net (map net_number c.args.leaf.now) c.loop-word.invariant.kept c.requires.leaf

pub add_word_checks-requires-clause-room : goal.add_word_checks-requires-clause-room
add_word_checks-requires-clause-room c =
    let cost = c.requires.room.0 in
    let gives = c.requires.room.1 in
    let f : List ℕ → ℕ = λ w. checks_cost cost c.args.code.now (nets_at c.args.m.now.outputs w) in (
      cost,
      gives,
      subst (λ (ws : List ℕ). net_count c.loop-word.s.net + f ws ≤ 2 ^ 23) (sym c.deref.ensures.value)
          (room_at f c.args.words.now c.loop-word.word-index c.word-item.result (net_count c.loop-word.s.net) (net_count c.args.s.now.net) (2 ^ 23) c.loop-word-test.true c.word-item.is (c.loop-word.invariant.few cost gives) c.requires.room.2),
    )

pub loop-word-preserved : goal.loop-word-preserved
loop-word-preserved c =
    let vecs = c.args.words.now in
    let i = c.loop-word.word-index in
    let is : words_in (take (i + 1) vecs) ≡ words_in (take i vecs) ++ c.deref.result.now ∷ []
    = word_more vecs i c.word-item.result c.loop-word-test.true c.word-item.is ∙ ap (λ (w : List ℕ). words_in (take i vecs) ++ w ∷ []) (sym c.deref.ensures.value) in
    checks_gained c.rows_of_cells_join.ensures.join c.args.m.now c.args.code.now (words_in (take i vecs)) (words_in (take (i + 1) vecs)) c.deref.result.now (map net_number c.args.leaf.now) c.args.s.now.net c.loop-word.s.net c.add_word_checks.new.s.net
    (map net_number c.args.s.now.cells.items) (map net_number c.loop-word.s.cells.items) (map net_number c.add_word_checks.new.s.cells.items) is c.loop-word.invariant c.in_ok-add_word_checks.ensures
