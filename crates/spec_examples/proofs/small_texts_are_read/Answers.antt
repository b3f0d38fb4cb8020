use Rattle.spec_examples.proofs.Small.{empty_reads, inverter_reads}
use Rattle.spec_examples.proofs.small_texts_are_read.Goals as goal

pub returns-clause-empty : goal.returns-clause-empty
returns-clause-empty c = empty_reads

pub returns-clause-inverter : goal.returns-clause-inverter
returns-clause-inverter c = inverter_reads
