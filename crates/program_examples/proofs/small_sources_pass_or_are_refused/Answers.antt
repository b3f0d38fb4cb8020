use Rattle.program_examples.proofs.Flattened.{inverter_passes, placing_has_no_meaning}
use Rattle.program_examples.proofs.small_sources_pass_or_are_refused.Goals as goal

pub returns-clause-passes : goal.returns-clause-passes
returns-clause-passes c = inverter_passes

pub returns-clause-refused : goal.returns-clause-refused
returns-clause-refused c = placing_has_no_meaning
