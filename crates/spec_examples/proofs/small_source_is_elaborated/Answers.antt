use Rattle.spec_examples.proofs.SmallMachine.{inverter_is_machine, inverter_is_elaborated}
use Rattle.spec_examples.proofs.small_source_is_elaborated.Goals as goal

pub returns-clause-machine : goal.returns-clause-machine
returns-clause-machine c = inverter_is_machine

pub returns-clause-elaborated : goal.returns-clause-elaborated
returns-clause-elaborated c = inverter_is_elaborated
