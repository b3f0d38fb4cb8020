-- The sum so far, cut off.
use Rattle.std.proofs.Common.{◌≡◌, take}
use Rattle.std.specs.Prelude.{sum}
use Rattle.source_cost.specs.Costs.{cut}
use Rattle.source_cost.proofs.sums.total_cost.Given as goal

abbrev pub invariant-loop-cost : goal.invariant-loop-cost
invariant-loop-cost l = l.total ≡ cut (sum (take l.cost-index l.costs))
