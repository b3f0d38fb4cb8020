use Rattle.std.proofs.Common.{sym, ◌^◌, ◌<◌, take, subst, List, ℕ}
use Rattle.std.proofs.lemmas.List.{take_more}
use Rattle.std.specs.List.{AllByRecursion}
use Rattle.linear_layer.proofs.Widths.{all_push, below_from_top}
use Rattle.linear_layer.proofs.layer.are_within.Goals as goal

pub loop-row-preserved : goal.loop-row-preserved
loop-row-preserved c =
    let P : List ℕ → Type 0 = λ rows. AllByRecursion (λ n. n < 2 ^ c.args.width) rows in
    subst P (sym (take_more c.args.rows.now c.loop-row.row-index 0 c.loop-row-test.true))
    (all_push (λ n. n < 2 ^ c.args.width) (take c.loop-row.row-index c.args.rows.now) _ c.loop-row.invariant (below_from_top _ c.args.width c.requires.some c.if-row-width-gt1.false))
