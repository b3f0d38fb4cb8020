use Rattle.program_examples.proofs.Accepted.{inverter_is_accepted}
use Rattle.program_examples.proofs.small_pair_is_accepted.Goals as goal

pub returns-clause-accepted : goal.returns-clause-accepted
returns-clause-accepted c = inverter_is_accepted

pub returns-clause-passes : goal.returns-clause-passes
returns-clause-passes c = inverter_is_accepted
