use Rattle.size_laws.proofs.SourceCones.{one_cone_cost}
use Rattle.size_laws.proofs.PartialSizes.{cone_within}
use Rattle.size_laws.proofs.sizes.cones_have_one_cost.Goals as goal

pub returns-clause-one : goal.returns-clause-one
returns-clause-one c = one_cone_cost

pub returns-clause-within : goal.returns-clause-within
returns-clause-within c = cone_within
