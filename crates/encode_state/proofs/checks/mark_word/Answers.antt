use Rattle.std.proofs.Common.{◌≡◌, sym, ◌∙◌, ap, subst, arith, ◌<◌, ℕ, List, None, true, false, length, take, drop, suc, get_or, set}
use Rattle.std.proofs.lemmas.List.{take_more, length-set}
use Rattle.netlist_spec.specs.Netlist.{Name}
use Rattle.guard_spec.specs.Words.{name_again}
use Rattle.encode_state.specs.Listed.{IsMarked, marks_of, nets_at}
use Rattle.encode_state.proofs.ListedLemmas.{split_at}
use Rattle.encode_state.proofs.MarkLemmas.{comes_again, marks_length, one_more}
use Rattle.encode_state.proofs.checks.mark_word.Goals as goal

pub returns-then-marks-i-clause-marked : goal.returns-then-marks-i-clause-marked
returns-then-marks-i-clause-marked c = λ nets listed d e.
    let word = c.args.word.now in
    let j = c.loop-i.i-index in
    let i = get_or word j 0 in
    let inside : i < length nets = subst (λ n. i < n) (ap length e ∙ marks_length nets listed) (c.requires j 0 c.loop-i-test.true) in
    ap (λ w. name_again listed (nets_at nets w)) (split_at word j 0 c.loop-i-test.true)
    ∙ comes_again nets listed (take j word) c.loop-i.marks i d inside (c.loop-i.invariant.marked nets listed d e) (drop (suc j) word) c.if-marks-i.true

pub loop-i-preserved : goal.loop-i-preserved
loop-i-preserved c =
    let word = c.args.word.now in
    let j = c.loop-i.i-index in
    let i = get_or word j 0 in
    record {
      size = length-set c.loop-i.marks i true ∙ c.loop-i.invariant.size;
      marked = λ nets listed d e.
          let inside : i < length nets = subst (λ n. i < n) (ap length e ∙ marks_length nets listed) (c.requires j 0 c.loop-i-test.true) in
          subst (λ (w : List ℕ). IsMarked nets listed w (set c.loop-i.marks i true) None) (sym (take_more word j 0 c.loop-i-test.true))
          (one_more nets listed (take j word) c.loop-i.marks i d inside (c.loop-i.invariant.marked nets listed d e) c.if-marks-i.false);
    }
