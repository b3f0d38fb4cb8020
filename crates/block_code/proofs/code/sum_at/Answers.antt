use Rattle.std.proofs.Common.{◌≡◌, refl, ◌∙◌, get_or, cond}
use Rattle.std.specs.Int.RustNames.{bit_xor}
use Rattle.std.proofs.lemmas.Nat.{pow_pos}
use Rattle.netlist_spec.specs.Covers.{has_bit}
use Rattle.block_code.proofs.Words.{sum_none, sum_more, sum_within, chosen_where_set, chosen_where_clear}
use Rattle.block_code.proofs.code.sum_at.Goals as goal
use Rattle.block_code.proofs.code.sum_at.Goals.{then-word-i-eq1, else-word-i-eq1}

pub loop-i-init : goal.loop-i-init
loop-i-init c = record { sum = λ r. sum_none r c.args.word; within = λ r h. pow_pos r }

chosen : (c : goal.Joined-word-i-eq1) → c.if-word-i-eq1.sum ≡ cond (has_bit c.args.word c.loop-i.i) (bit_xor c.loop-i.sum (get_or c.args.rows.now c.loop-i.i 0)) c.loop-i.sum
chosen c =
    elim c.if-word-i-eq1.branch [
      | then-word-i-eq1 w ↦ w.sum-is ∙ chosen_where_set _ _ _ _ w.if-word-i-eq1.true
      | else-word-i-eq1 w ↦ w.sum-is ∙ chosen_where_clear _ _ _ _ w.if-word-i-eq1.false
    ]

pub loop-i-preserved : goal.loop-i-preserved
loop-i-preserved c =
    let at = c.loop-i.i in
    let rows = c.args.rows.now in
    record {
      sum = λ r. rw (chosen c) (sum_more r at c.loop-i.sum _ c.args.word rows c.loop-i-test.true refl (c.loop-i.invariant.sum r));
      within = λ r each. rw (chosen c) (sum_within r at c.loop-i.sum _ c.args.word rows c.loop-i-test.true refl each (c.loop-i.invariant.within r each));
    }
