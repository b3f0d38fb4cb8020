-- The faults of the cells so far were counted.
use Rattle.campaign.specs.Sorted.{CountsCells}
use Rattle.campaign.proofs.sort.count_cells.Given as goal

abbrev pub invariant-loop-cell : goal.invariant-loop-cell
invariant-loop-cell l = CountsCells l.fn.task l.initial.runner l.fn.fork l.cell l.tally l.runner
