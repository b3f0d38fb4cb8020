use Rattle.std.proofs.Common.{◌≡◌, ◌+◌, ◌<◌, ◌≤◌, ◌++◌, ◌∷◌, [], sym, ◌∙◌, ap, subst, arith, ℕ, List, length, map, take, drop, sum_by}
use Rattle.std.specs.List.{AllByRecursion}
use Rattle.std.proofs.lemmas.List.{length-map}
use Rattle.std.proofs.lemmas.List.Elements.{All-from_recursion}
use Rattle.std.proofs.lemmas.List.Sums.{sum_by_push}
use Rattle.encode_state.specs.Types.{words_in}
use Rattle.gate_net.specs.declared.gate.NetId.{NetId}
use Rattle.gate_net.specs.Gate.{net_number}
use Rattle.guard_spec.specs.Codes.{data_places}
use Rattle.guard_spec.specs.Plain.{corrector_cost}
use Rattle.guard_spec.specs.Words.{IsPartition, Words}
use Rattle.guard_laws.specs.Places.{latches_of_words}
use Rattle.joined_net.specs.Words.{put_nets}
use Rattle.joined_net.proofs.CorrectedWords.{cost_covered, no_words, sum_split, words_gained, weaker_within}
use Rattle.guard_net.proofs.Lists.{keeps_itself, keeps_leaves, keeps_trans, word_more, word_of, words_cut}
use Rattle.joined_net.proofs.correctors.add_words.Goals as goal

pub loop-entry-init : goal.loop-entry-init
loop-entry-init c = record {
  kept = keeps_itself c.args.net.now;
  gained = no_words c.args.c.now c.args.t c.args.inputs (length c.args.nets.now) c.args.marks.now c.args.net.now (map net_number c.args.nets.now) c.requires.bare (length-map c.args.nets.now net_number) c.requires.below;
  at = omega arith;
  room = λ cost covers. omega arith;
}

pub has_mark-needed-requires-clause-within : goal.has_mark-needed-requires-clause-within
has_mark-needed-requires-clause-within c =
    let n = length c.args.nets.now in
    let w = word_of n (data_places c.args.c.now) c.args.words.now c.loop-entry.entry-index c.entry-item.result c.loop-entry-test.true c.entry-item.is c.requires.words in
    let room = c.requires.marks in
    All-from_recursion (λ i. c.args.inputs + i < length c.args.marks.now) c.as_slice-word.result.now
    (subst (λ (ws : List ℕ). AllByRecursion (λ i. c.args.inputs + i < length c.args.marks.now) ws) (sym c.as_slice-word.ensures.value)
    (weaker_within n c.args.inputs (length c.args.marks.now) c.entry-item.result.items room w.within))

pub word_corrector-requires-clause-some_place : goal.word_corrector-requires-clause-some_place
word_corrector-requires-clause-some_place c =
    let w = word_of (length c.args.nets.now) (data_places c.args.c.now) c.args.words.now c.loop-entry.entry-index c.entry-item.result c.loop-entry-test.true c.entry-item.is c.requires.words in
    subst (λ (ws : List ℕ). 1 ≤ length ws) (sym c.as_slice-word.ensures.value) w.some

pub word_corrector-requires-clause-places : goal.word_corrector-requires-clause-places
word_corrector-requires-clause-places c =
    let w = word_of (length c.args.nets.now) (data_places c.args.c.now) c.args.words.now c.loop-entry.entry-index c.entry-item.result c.loop-entry-test.true c.entry-item.is c.requires.words in
    subst (λ (ws : List ℕ). length ws ≤ data_places c.args.c.now) (sym c.as_slice-word.ensures.value) w.most

pub word_corrector-requires-clause-leaves : goal.word_corrector-requires-clause-leaves
word_corrector-requires-clause-leaves c =
    let vecs = c.args.words.now in
    let i = c.loop-entry.entry-index in
    let code = c.args.c.now in
    let f : List ℕ → ℕ = λ w. length w + code.columns in
    let cut = words_cut vecs i c.entry-item.result c.loop-entry-test.true c.entry-item.is in
    let all : latches_of_words code (words_in vecs) ≡ latches_of_words code (words_in (take i vecs)) + (f c.entry-item.result.items + sum_by f (words_in (drop (i + 1) vecs)))
    = ap (sum_by f) cut ∙ sum_split f (words_in (take i vecs)) (words_in (drop (i + 1) vecs)) c.entry-item.result.items in
    let leaves = keeps_leaves c.args.net.now c.loop-entry.net c.loop-entry.invariant.kept in
    let at = c.loop-entry.invariant.at in
    subst (λ (ws : List ℕ). c.loop-entry.at + (length ws + code.columns) ≤ c.loop-entry.net.leaves) (sym c.as_slice-word.ensures.value) (omega (arith, all, leaves, at, c.requires.leaves))

pub word_corrector-requires-clause-room : goal.word_corrector-requires-clause-room
word_corrector-requires-clause-room c = λ on.
    let vecs = c.args.words.now in
    let i = c.loop-entry.entry-index in
    let cost = c.requires.room.0 in
    let covers = c.requires.room.1 in
    let most = c.requires.room.2 in
    let cut = words_cut vecs i c.entry-item.result c.loop-entry-test.true c.entry-item.is in
    let all : sum_by cost (words_in vecs) ≡ sum_by cost (words_in (take i vecs)) + (cost c.entry-item.result.items + sum_by cost (words_in (drop (i + 1) vecs)))
    = ap (sum_by cost) cut ∙ sum_split cost (words_in (take i vecs)) (words_in (drop (i + 1) vecs)) c.entry-item.result.items in
    let so_far = c.loop-entry.invariant.room cost covers in
    let one : corrector_cost c.args.c.now c.args.t (length c.as_slice-word.result.now) ≤ cost c.as_slice-word.result.now = covers c.as_slice-word.result.now (c.has_mark-needed.ensures.0 on) in
    let same : cost c.as_slice-word.result.now ≡ cost c.entry-item.result.items = ap cost c.as_slice-word.ensures.value in
    omega (arith, all, so_far, one, same, most)

pub returns-in_err-found-clause-kept : goal.returns-in_err-found-clause-kept
returns-in_err-found-clause-kept c = keeps_trans c.args.net.now c.loop-entry.net c.word_corrector.new.net c.loop-entry.invariant.kept c.word_corrector.ensures.kept

pub put_at-requires-clause-within : goal.put_at-requires-clause-within
put_at-requires-clause-within c =
    let n = length c.args.nets.now in
    let w = word_of n (data_places c.args.c.now) c.args.words.now c.loop-entry.entry-index c.entry-item.result c.loop-entry-test.true c.entry-item.is c.requires.words in
    let long : length c.loop-entry.nets ≡ n = c.loop-entry.auto.nets in
    All-from_recursion (λ i. i < length c.loop-entry.nets) c.as_slice-word.result.now
    (subst (λ (k : ℕ). AllByRecursion (λ i. i < k) c.as_slice-word.result.now) (sym long) (subst (λ (ws : List ℕ). AllByRecursion (λ i. i < n) ws) (sym c.as_slice-word.ensures.value) w.within))

pub overflow_add-at-in-loop-entry : goal.overflow_add-at-in-loop-entry
overflow_add-at-in-loop-entry c =
    let vecs = c.args.words.now in
    let i = c.loop-entry.entry-index in
    let code = c.args.c.now in
    let f : List ℕ → ℕ = λ w. length w + code.columns in
    let cut = words_cut vecs i c.entry-item.result c.loop-entry-test.true c.entry-item.is in
    let all : latches_of_words code (words_in vecs) ≡ latches_of_words code (words_in (take i vecs)) + (f c.entry-item.result.items + sum_by f (words_in (drop (i + 1) vecs)))
    = ap (sum_by f) cut ∙ sum_split f (words_in (take i vecs)) (words_in (drop (i + 1) vecs)) c.entry-item.result.items in
    let columns : c.from-columns.result ≡ code.columns = c.from-columns.ensures ∙ c.r.ensures.columns in
    let size : length c.as_slice-word.result.now ≡ length c.entry-item.result.items = ap length c.as_slice-word.ensures.value in
    let at = c.loop-entry.invariant.at in
    let most = c.requires.room.2 in
    omega (arith, all, columns, size, at, most, c.requires.bare, c.requires.leaves)

pub loop-entry-preserved : goal.loop-entry-preserved
loop-entry-preserved c =
    let vecs = c.args.words.now in
    let i = c.loop-entry.entry-index in
    let code = c.args.c.now in
    let n = length c.args.nets.now in
    let v = c.entry-item.result in
    let word = c.as_slice-word.result.now in
    let inv = c.loop-entry.invariant in
    let w = word_of n (data_places code) vecs i v c.loop-entry-test.true c.entry-item.is c.requires.words in
    let cut : words_in vecs ≡ words_in (take i vecs) ++ word ∷ words_in (drop (i + 1) vecs)
    = words_cut vecs i v c.loop-entry-test.true c.entry-item.is ∙ ap (λ (ws : List ℕ). words_in (take i vecs) ++ ws ∷ words_in (drop (i + 1) vecs)) (sym c.as_slice-word.ensures.value) in
    let more : words_in (take (i + 1) vecs) ≡ words_in (take i vecs) ++ word ∷ []
    = word_more vecs i v c.loop-entry-test.true c.entry-item.is ∙ ap (λ (ws : List ℕ). words_in (take i vecs) ++ ws ∷ []) (sym c.as_slice-word.ensures.value) in
    let kept = c.in_ok-found.ensures.kept in
    let columns : c.from-columns.result ≡ code.columns = c.from-columns.ensures ∙ c.r.ensures.columns in
    let put : map net_number c.put_at.new.nets ≡ put_nets word (map net_number c.in_ok-found.found.items) (map net_number c.loop-entry.nets)
    = c.put_at.ensures ∙ ap (λ (fs : List NetId). put_nets word (map net_number fs) (map net_number c.loop-entry.nets)) c.deref.ensures.0 in
    let within : AllByRecursion (λ j. j < n) word = subst (λ (ws : List ℕ). AllByRecursion (λ j. j < n) ws) (sym c.as_slice-word.ensures.value) w.within in
    record {
      kept = keeps_trans c.args.net.now c.loop-entry.net c.word_corrector.new.net inv.kept kept;
      gained = words_gained code c.args.t c.args.inputs n (data_places code) c.args.marks.now (words_in (take i vecs)) (words_in (drop (i + 1) vecs)) (words_in (take (i + 1) vecs)) word (map net_number c.in_ok-found.found.items) c.has_mark-needed.result c.loop-entry.at
          c.loop-entry.net c.word_corrector.new.net (map net_number c.loop-entry.nets) (map net_number c.put_at.new.nets) (subst (λ (ws : Words). IsPartition n (data_places code) ws) cut c.requires.words) more kept inv.at within inv.gained c.in_ok-found.ensures.corrector
          c.has_mark-needed.ensures put;
      at = (
          let a = ap (latches_of_words code) more in
          let b = sum_by_push (λ (ws : List ℕ). length ws + code.columns) (words_in (take i vecs)) word in
          let d = inv.at in
          omega (arith, a, b, d, columns)
          );
      room = λ cost covers.
          let a = ap (sum_by cost) more in
          let b = sum_by_push cost (words_in (take i vecs)) word in
          let d = inv.room cost covers in
          let e = cost_covered code c.args.t c.loop-entry.at c.args.inputs c.args.marks.now word (map net_number c.in_ok-found.found.items) c.has_mark-needed.result c.loop-entry.net c.word_corrector.new.net cost covers c.has_mark-needed.ensures c.in_ok-found.ensures.corrector in
          omega (arith, a, b, d, e);
    }
