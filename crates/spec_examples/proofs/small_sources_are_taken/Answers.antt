use Rattle.spec_examples.proofs.SmallPlacement.{placing_is_sound}
use Rattle.spec_examples.proofs.small_sources_are_taken.Goals as goal

pub returns : goal.returns
returns c = placing_is_sound
