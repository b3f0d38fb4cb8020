use Rattle.gate_net.proofs.Written.{same_values, same_outputs, some_names}
use Rattle.gate_net.proofs.laws.written_files_have_the_values_of_gates.Goals as goal

pub returns-clause-values : goal.returns-clause-values
returns-clause-values c = same_values

pub returns-clause-outputs : goal.returns-clause-outputs
returns-clause-outputs c = same_outputs

pub returns-clause-names : goal.returns-clause-names
returns-clause-names c = some_names
