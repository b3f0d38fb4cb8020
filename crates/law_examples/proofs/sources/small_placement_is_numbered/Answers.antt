use Rattle.law_examples.proofs.PlacingMachine.{is_numbered, is_machine}
use Rattle.law_examples.proofs.sources.small_placement_is_numbered.Goals as goal

pub returns : goal.returns
returns c = record { numbered = is_numbered; machine = is_machine }
