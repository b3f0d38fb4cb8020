use Rattle.size_laws.proofs.PartialSizes.{first_within, first_and_state_within, first_and_output_within}
use Rattle.size_laws.proofs.sums.partial_sizes_stay_below.Goals as goal

pub returns-clause-words : goal.returns-clause-words
returns-clause-words c = first_within

pub returns-clause-state : goal.returns-clause-state
returns-clause-state c = first_and_state_within

pub returns-clause-output : goal.returns-clause-output
returns-clause-output c = first_and_output_within
