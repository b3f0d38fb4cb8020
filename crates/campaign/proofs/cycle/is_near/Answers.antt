use Rattle.std.proofs.Common.{◌≡◌, ℕ, sym, ◌∙◌, ap, subst, true, [], List, length, get_or, arith}
use Rattle.std.specs.Prelude.{nat_le}
use Rattle.guard_spec.specs.Codes.{apart, data_places, encoded}
use Rattle.guard_spec.specs.Words.{Layout, bits_at, output_word}
use Rattle.campaign.proofs.CycleLemmas.{all_words, below_more, next_place, widen, count_words, near_here, not_all_words, word_at}
use Rattle.campaign.proofs.cycle.is_near.Goals as goal

pub is_near_word-requires-clause-some : goal.is_near_word-requires-clause-some
is_near_word-requires-clause-some c =
    (word_at (data_places c.args.task.now.code.now) (length c.args.y.now) c.args.task.now.layout.now.output c.layout.inside.output.items c.deref-word-items.result.now c.loop-word.word-index c.word-item.result c.deref.result.now
    c.requires.words (ap (λ (l : Layout). l.output) (sym c.layout.view_is)) c.deref-word-items.ensures.value c.loop-word-test.true c.word-item.is c.deref.ensures.value).1

pub is_near_word-requires-clause-places : goal.is_near_word-requires-clause-places
is_near_word-requires-clause-places c =
    (word_at (data_places c.args.task.now.code.now) (length c.args.y.now) c.args.task.now.layout.now.output c.layout.inside.output.items c.deref-word-items.result.now c.loop-word.word-index c.word-item.result c.deref.result.now
    c.requires.words (ap (λ (l : Layout). l.output) (sym c.layout.view_is)) c.deref-word-items.ensures.value c.loop-word-test.true c.word-item.is c.deref.ensures.value).2

pub is_near_word-requires-clause-wanted : goal.is_near_word-requires-clause-wanted
is_near_word-requires-clause-wanted c =
    (word_at (data_places c.args.task.now.code.now) (length c.args.y.now) c.args.task.now.layout.now.output c.layout.inside.output.items c.deref-word-items.result.now c.loop-word.word-index c.word-item.result c.deref.result.now
    c.requires.words (ap (λ (l : Layout). l.output) (sym c.layout.view_is)) c.deref-word-items.ensures.value c.loop-word-test.true c.word-item.is c.deref.ensures.value).3

pub is_near_word-requires-clause-shown : goal.is_near_word-requires-clause-shown
is_near_word-requires-clause-shown c =
    let room = c.requires.room in
    widen (length c.args.y.now) (length c.args.z.now) c.deref.result.now (omega arith)
    (word_at (data_places c.args.task.now.code.now) (length c.args.y.now) c.args.task.now.layout.now.output c.layout.inside.output.items c.deref-word-items.result.now c.loop-word.word-index c.word-item.result c.deref.result.now
    c.requires.words (ap (λ (l : Layout). l.output) (sym c.layout.view_is)) c.deref-word-items.ensures.value c.loop-word-test.true c.word-item.is c.deref.ensures.value).3

pub returns-then-not-is_near_word : goal.returns-then-not-is_near_word
returns-then-not-is_near_word c =
    let task = c.args.task.now in
    let code = task.code.now in
    let p = length c.args.y.now in
    let output = task.layout.now.output in
    let i = c.loop-word.word-index in
    let test = c.loop-word-test.true in
    let count = count_words output c.layout.inside.output.items c.deref-word-items.result.now (ap (λ (l : Layout). l.output) (sym c.layout.view_is)) c.deref-word-items.ensures.value in
    let here = (word_at (data_places c.args.task.now.code.now) (length c.args.y.now) c.args.task.now.layout.now.output c.layout.inside.output.items c.deref-word-items.result.now c.loop-word.word-index c.word-item.result c.deref.result.now
    c.requires.words (ap (λ (l : Layout). l.output) (sym c.layout.view_is)) c.deref-word-items.ensures.value c.loop-word-test.true c.word-item.is c.deref.ensures.value) in
    sym (not_all_words (λ (w : ℕ × List ℕ). nat_le (apart (output_word code p c.args.z.now w) (encoded code (bits_at w.1 c.args.y.now))) task.bound) output 0 i i (omega arith) (omega arith)
    (near_here code p i c.loop-word.first c.r-columns.result task.bound c.args.z.now c.args.y.now (get_or output i []) c.deref.result.now c.is_near_word.result c.loop-word.invariant.first c.r-columns.ensures.columns here.0 c.is_near_word.ensures
    ∙ c.if-not-is_near_word.true))

pub loop-word-preserved : goal.loop-word-preserved
loop-word-preserved c =
    let task = c.args.task.now in
    let code = task.code.now in
    let p = length c.args.y.now in
    let output = task.layout.now.output in
    let i = c.loop-word.word-index in
    let here = (word_at (data_places c.args.task.now.code.now) (length c.args.y.now) c.args.task.now.layout.now.output c.layout.inside.output.items c.deref-word-items.result.now c.loop-word.word-index c.word-item.result c.deref.result.now
    c.requires.words (ap (λ (l : Layout). l.output) (sym c.layout.view_is)) c.deref-word-items.ensures.value c.loop-word-test.true c.word-item.is c.deref.ensures.value) in
    record {
      first = next_place c.loop-word.first c.r-columns.result p i code.columns c.loop-word.invariant.first c.r-columns.ensures.columns;
      near = below_more (λ (k : ℕ). nat_le (apart (output_word code p c.args.z.now (k, get_or output k [])) (encoded code (bits_at (get_or output k []) c.args.y.now))) task.bound ≡ true) i c.loop-word.invariant.near
          (near_here code p i c.loop-word.first c.r-columns.result task.bound c.args.z.now c.args.y.now (get_or output i []) c.deref.result.now c.is_near_word.result c.loop-word.invariant.first c.r-columns.ensures.columns here.0 c.is_near_word.ensures
          ∙ c.if-not-is_near_word.false);
    }

pub returns : goal.returns
returns c =
    let task = c.args.task.now in
    let code = task.code.now in
    let p = length c.args.y.now in
    let output = task.layout.now.output in
    let count = count_words output c.layout.inside.output.items c.deref-word-items.result.now (ap (λ (l : Layout). l.output) (sym c.layout.view_is)) c.deref-word-items.ensures.value in
    let done = c.loop-word-test.false in
    sym (all_words (λ (w : ℕ × List ℕ). nat_le (apart (output_word code p c.args.z.now w) (encoded code (bits_at w.1 c.args.y.now))) task.bound) output 0
    (λ k m e within. subst (λ (n : ℕ). nat_le (apart (output_word code p c.args.z.now (n, get_or output k [])) (encoded code (bits_at (get_or output k []) c.args.y.now))) task.bound ≡ true) (let same : k ≡ m = omega (arith, e) in same) (c.loop-word.invariant.near k (omega (arith, within, done, count)))))
