-- The ones and the number of the rows so far.
use Rattle.std.proofs.Common.{◌≡◌, ◌+◌, ◌*◌, ◌≤◌, take}
use Rattle.std.specs.Prelude.{count_ones, sum_by}
use Rattle.source_cost.proofs.cells.linear_cost.Given as goal

abbrev pub invariant-loop-row : goal.invariant-loop-row
invariant-loop-row l =
    record {
      ones : l.cost ≡ sum_by (λ row. count_ones row) (take l.row-index l.row-items) + l.row-index;
      bound : l.cost ≤ 129 * l.row-index;
    }
