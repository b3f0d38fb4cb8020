use Rattle.std.proofs.Common.{◌^◌, ◌<◌, take}
use Rattle.std.specs.List.{AllByRecursion}
use Rattle.sbox_table.proofs.table.are_within.Given as goal

abbrev pub invariant-loop-row : goal.invariant-loop-row
invariant-loop-row l = AllByRecursion (λ n. n < 2 ^ l.outs) (take l.row-index l.rows)
