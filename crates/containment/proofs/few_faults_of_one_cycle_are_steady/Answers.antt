use Rattle.containment.proofs.Text.{within_is_steady_list}
use Rattle.containment.proofs.Blamed.{within_is_steady}
use Rattle.containment.proofs.few_faults_of_one_cycle_are_steady.Goals as goal

pub returns-clause-text : goal.returns-clause-text
returns-clause-text c = within_is_steady_list

pub returns-clause-gates : goal.returns-clause-gates
returns-clause-gates c = within_is_steady
