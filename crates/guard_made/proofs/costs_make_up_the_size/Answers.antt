use Rattle.guard_made.proofs.Costs.{costs_given, size_is}
use Rattle.guard_made.proofs.costs_make_up_the_size.Goals as goal

pub returns-clause-costs : goal.returns-clause-costs
returns-clause-costs c = costs_given

pub returns-clause-size : goal.returns-clause-size
returns-clause-size c = λ m code l radius rails n cost is gives state output size. size_is m code l radius rails n cost is gives size
