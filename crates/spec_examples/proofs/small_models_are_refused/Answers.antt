use Rattle.spec_examples.proofs.OneModel.{twice_is_refused, undriven_is_refused, edges_are_refused, read_clock_is_refused, guard_name_is_refused}
use Rattle.spec_examples.proofs.small_models_are_refused.Goals as goal

pub returns-clause-twice : goal.returns-clause-twice
returns-clause-twice c = twice_is_refused

pub returns-clause-undriven : goal.returns-clause-undriven
returns-clause-undriven c = undriven_is_refused

pub returns-clause-edges : goal.returns-clause-edges
returns-clause-edges c = edges_are_refused

pub returns-clause-clock : goal.returns-clause-clock
returns-clause-clock c = read_clock_is_refused

pub returns-clause-reserved : goal.returns-clause-reserved
returns-clause-reserved c = guard_name_is_refused
