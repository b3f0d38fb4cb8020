use Rattle.campaign.proofs.SortLemmas.{counts_more}
use Rattle.campaign.proofs.sort.count_cells.Goals as goal

pub loop-cell-preserved : goal.loop-cell-preserved
loop-cell-preserved c = counts_more c.args.task.now c.args.runner.now c.loop-cell.runner c.count_cell.new.runner c.args.fork.now c.loop-cell.cell c.loop-cell.tally c.count_cell.new.tally c.loop-cell.invariant c.count_cell.ensures
