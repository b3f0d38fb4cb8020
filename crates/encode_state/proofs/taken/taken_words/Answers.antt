use Rattle.std.proofs.Common.{◌≡◌, sym, ◌∙◌, ap, ap₂, arith, ◌+◌, ◌-◌, ◌<◌, ◌≤◌, ◌++◌, ◌∷◌, [], List, ℕ, length, map, min}
use Rattle.std.proofs.lemmas.List.{map-append}
use Rattle.std.proofs.lemmas.List.FromFn.{length-range_with_len}
use Rattle.std.specs.List.{range_with_len}
use Rattle.guard_spec.specs.Words.{Words, AreTakenBy, all_numbers}
use Rattle.encode_state.specs.Types.{words_in}
use Rattle.encode_state.proofs.TakenLemmas.{full_push, numbers_push, range_split, taken_push}
use Rattle.encode_state.proofs.taken.taken_words.Goals as goal

pub loop-first-preserved : goal.loop-first-preserved
loop-first-preserved c =
    let k = c.args.k in
    let first = c.loop-first.first in
    let some = c.requires in
    let test = c.loop-first-test.true in
    let len = c.min-len.result in
    let least : len ≡ min k (c.args.end - first) = c.min-len.ensures in
    let words : Words = words_in c.loop-first.words.items in
    let word = c.in_ok-word.word.items in
    let size : length word ≡ len = ap length c.in_ok-word.ensures ∙ length-range_with_len first len in
    let pushed : words_in c.push.new.self.items ≡ words ++ word ∷ [] = ap words_in c.in_ok-push.ensures.items ∙ map-append (λ v. v.items) c.loop-first.words.items (c.in_ok-word.word ∷ []) in
    let full = c.loop-first.invariant.full test in
    record {
      within = omega arith;
      all = ap all_numbers pushed ∙ (numbers_push words word ∙ (ap₂ (λ xs ys. xs ++ ys) c.loop-first.invariant.all c.in_ok-word.ensures ∙ sym (range_split first len (first + len) 0 first (omega arith) (omega arith))));
      full = λ more. rw pushed (full_push k words word full (omega arith));
      taken = rw pushed (taken_push k words word full (omega arith) (omega arith));
    }
