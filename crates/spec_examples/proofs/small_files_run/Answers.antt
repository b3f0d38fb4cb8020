use Rattle.spec_examples.proofs.Small.{inverter_in_order, backward_out_of_order, inverter_runs}
use Rattle.spec_examples.proofs.small_files_run.Goals as goal

pub returns-clause-ordered : goal.returns-clause-ordered
returns-clause-ordered c = inverter_in_order

pub returns-clause-backward : goal.returns-clause-backward
returns-clause-backward c = backward_out_of_order

pub returns-clause-run : goal.returns-clause-run
returns-clause-run c = inverter_runs
