use Rattle.std.proofs.Common.{get_or, arith}
use Rattle.std.specs.Prelude.{count_ones}
use Rattle.std.proofs.lemmas.List.Sums.{sum_by_more}
use Rattle.std.proofs.lemmas.Nat.{ones-le}
use Rattle.std.proofs.Math.Facts.{Fits-lt-pow}
use Rattle.source_cost.proofs.cells.linear_cost.Goals as goal

pub loop-row-preserved : goal.loop-row-preserved
loop-row-preserved c =
    let rows = c.deref-row-items.result.now in
    let i = c.loop-row.row-index in
    let more = sum_by_more (λ row. count_ones row) rows i 0 c.loop-row-test.true in
    let few = ones-le 128 (get_or rows i 0) (Fits-lt-pow (c.type_inv.row-items i)) in
    record { ones = omega arith; bound = omega arith }
