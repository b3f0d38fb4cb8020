use Rattle.size_laws.proofs.PartialSizes.{first_none, first_state, first_output, first_all}
use Rattle.size_laws.proofs.sums.partial_sizes_add_up.Goals as goal

pub returns-clause-none : goal.returns-clause-none
returns-clause-none c = first_none

pub returns-clause-state : goal.returns-clause-state
returns-clause-state c = first_state

pub returns-clause-output : goal.returns-clause-output
returns-clause-output c = first_output

pub returns-clause-all : goal.returns-clause-all
returns-clause-all c = first_all
