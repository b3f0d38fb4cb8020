use Rattle.cone_split.proofs.Sizes.{one_size, size_within, size_costs}
use Rattle.cone_split.proofs.laws.cones_have_one_size.Goals as goal

pub returns-clause-one : goal.returns-clause-one
returns-clause-one c = one_size

pub returns-clause-within : goal.returns-clause-within
returns-clause-within c = size_within

pub returns-clause-costs : goal.returns-clause-costs
returns-clause-costs c = size_costs
