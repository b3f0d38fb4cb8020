use Rattle.cone_split.proofs.Ranges.{alone_longer, all_lead_longer, evaluation_shorter}
use Rattle.cone_split.proofs.laws.ranges_stay.Goals as goal

pub returns-clause-reads : goal.returns-clause-reads
returns-clause-reads c = alone_longer

pub returns-clause-leads : goal.returns-clause-leads
returns-clause-leads c = all_lead_longer

pub returns-clause-values : goal.returns-clause-values
returns-clause-values c = evaluation_shorter
