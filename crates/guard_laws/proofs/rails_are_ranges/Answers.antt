use Rattle.guard_laws.proofs.Rail.{words_watched, rail_range}
use Rattle.guard_laws.proofs.rails_are_ranges.Goals as goal

pub returns-clause-watched : goal.returns-clause-watched
returns-clause-watched c = words_watched

pub returns-clause-range : goal.returns-clause-range
returns-clause-range c = rail_range
