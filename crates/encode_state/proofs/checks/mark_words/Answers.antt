use Rattle.std.proofs.Common.{◌≡◌, refl, sym, ◌∙◌, ap, subst, arith, rules, ◌<◌, ℕ, suc, [], ◌++◌, List, None, Some, Bool, true, false, length, map, take, drop, get_or, replicate, ◌+◌}
use Rattle.std.proofs.lemmas.List.{take_all, length-map}
use Rattle.guard_spec.specs.Words.{all_numbers, as_fault, in_two_words, name_again}
use Rattle.imp_text.specs.declared.names.NameId.{NameId}
use Rattle.blif_read.specs.View.{name_at}
use Rattle.encode_state.specs.Listed.{IsMarked, marks_of, nets_at}
use Rattle.encode_state.specs.Types.{words_in}
use Rattle.encode_state.proofs.ListedLemmas.{written_back}
use Rattle.encode_state.proofs.MarkLemmas.{fresh_marks, inside_of, named_at, numbers_around, numbers_more, word_again, word_more}
use Rattle.encode_state.proofs.checks.mark_words.Goals as goal

pub loop-word-init : goal.loop-word-init
loop-word-init c =
    let nets = map (name_at c.args.names.now) c.args.nets.now in
    let fresh : c.in_ok-marks.marks.items ≡ replicate (length c.args.nets.now) false = c.in_ok-marks.ensures.items_if_clones_equal (λ y h. search rules) in
    (refl, fresh ∙ fresh_marks nets (length c.args.nets.now) (sym (length-map c.args.nets.now (name_at c.args.names.now))))

pub returns-in-Some-clause-fault : goal.returns-in-Some-clause-fault
returns-in-Some-clause-fault c =
    let nets = map (name_at c.args.names.now) c.args.nets.now in
    let words = c.args.words.now in
    let i = c.loop-word.word-index in
    let word = c.word-item.result in
    let front = all_numbers (words_in (take i words)) in
    let none : NameId = record { 0 = 0 } in
    let again = c.in-Some.ensures.marked nets (nets_at nets front) c.requires.distinct (c.deref_mut.ensures.value ∙ c.loop-word.invariant.1) in
    let here : name_again (nets_at nets front) (nets_at nets word.items) ≡ Some (get_or nets c.in-Some.i []) = ap (λ w. name_again (nets_at nets front) (nets_at nets w)) (sym c.deref.ensures.value) ∙ again in
    ap (as_fault (λ n. in_two_words n))
    (ap (λ ns. name_again [] (nets_at nets ns)) (numbers_around words i word c.loop-word-test.true c.word-item.is)
    ∙ word_again nets front word.items (all_numbers (drop (suc i) (words_in words))) c.loop-word.marks.items c.mark_word.new.marks c.in-Some.i c.loop-word.invariant here)
    ∙ ap (λ n. Some (in_two_words n))
    (named_at c.args.names.now c.args.nets.now c.in-Some.i none (let w = c.in-Some.ensures.within in let s = c.deref_mut.ensures.value in inside_of c.loop-word.marks.items nets front c.deref_mut.result.now c.in-Some.i (length c.args.nets.now) (length-map c.args.nets.now (name_at c.args.names.now)) s c.loop-word.invariant.1 w) ∙ sym c.in_ok-name.ensures)

pub loop-word-preserved : goal.loop-word-preserved
loop-word-preserved c =
    let nets = map (name_at c.args.names.now) c.args.nets.now in
    let words = c.args.words.now in
    let i = c.loop-word.word-index in
    let word = c.word-item.result in
    let front = all_numbers (words_in (take i words)) in
    let marked = c.in_default.ensures.marked nets (nets_at nets front) c.requires.distinct (c.deref_mut.ensures.value ∙ c.loop-word.invariant.1) in
    let here : IsMarked nets (nets_at nets front) word.items c.mark_word.new.marks None = subst (λ (w : List ℕ). IsMarked nets (nets_at nets front) w c.mark_word.new.marks None) c.deref.ensures.value marked in
    let all : IsMarked nets [] (front ++ word.items) c.mark_word.new.marks None = word_more nets front word.items c.loop-word.marks.items c.mark_word.new.marks c.loop-word.invariant here in
    let size : c.loop-word.marks.len ≡ length c.mark_word.new.marks = sym (c.mark_word.ensures.size ∙ c.deref_mut.ensures.len) in
    let back = written_back c.mark_word.new.marks (drop (length c.mark_word.new.marks) c.loop-word.marks.items) c.loop-word.marks.len size in
    subst (λ (bs : List Bool). IsMarked nets [] (all_numbers (words_in (take (i + 1) words))) bs None) (sym back)
    (subst (λ (ns : List ℕ). IsMarked nets [] ns c.mark_word.new.marks None) (sym (numbers_more words i word c.loop-word-test.true c.word-item.is)) all)

pub returns-clause-marks : goal.returns-clause-marks
returns-clause-marks c =
    let nets = map (name_at c.args.names.now) c.args.nets.now in
    c.loop-word.invariant.1 ∙ ap (λ ws. marks_of nets (nets_at nets (all_numbers (words_in ws)))) (take_all c.loop-word.word-index c.args.words.now c.loop-word-test.false)
