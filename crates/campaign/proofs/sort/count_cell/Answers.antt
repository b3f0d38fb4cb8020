use Rattle.campaign.proofs.SortLemmas.{counts_cell}
use Rattle.campaign.proofs.sort.count_cell.Goals as goal

pub returns : goal.returns
returns c = counts_cell c.tallies_add_up.ensures.counted c.args.task.now c.args.runner.now c.outcome_under-zero.new.runner c.outcome_under-one.new.runner c.args.fork.now c.args.cell c.outcome_under-zero.result c.outcome_under-one.result c.args.tally.now c.count.new.self c.count-2.new.self
    c.requires.cell c.requires.few c.outcome_under-zero.ensures c.outcome_under-one.ensures c.count.ensures c.count-2.ensures
