use Rattle.spec_examples.proofs.Small.{empty_text_is_written, inverter_text_is_written}
use Rattle.spec_examples.proofs.small_texts_are_written.Goals as goal

pub returns-clause-empty : goal.returns-clause-empty
returns-clause-empty c = empty_text_is_written

pub returns-clause-inverter : goal.returns-clause-inverter
returns-clause-inverter c = inverter_text_is_written
