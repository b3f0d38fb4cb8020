use Rattle.std.proofs.Common.{sym, ◌^◌, ◌<◌, take, subst, List, ℕ}
use Rattle.std.proofs.lemmas.List.{take_more}
use Rattle.std.specs.List.{AllByRecursion}
use Rattle.sbox_table.proofs.Widths.{all_push, below_from_none}
use Rattle.sbox_table.proofs.table.are_within.Goals as goal

pub loop-row-preserved : goal.loop-row-preserved
loop-row-preserved c =
    let P : List ℕ → Type 0 = λ rows. AllByRecursion (λ n. n < 2 ^ c.args.outs) rows in
    subst P (sym (take_more c.args.rows.now c.loop-row.row-index 0 c.loop-row-test.true))
    (all_push (λ n. n < 2 ^ c.args.outs) (take c.loop-row.row-index c.args.rows.now) _ c.loop-row.invariant (below_from_none _ c.args.outs c.if-row-outs-gt0.false))
