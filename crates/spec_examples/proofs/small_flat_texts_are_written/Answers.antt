use Rattle.spec_examples.proofs.SmallFlat.{forward_is_named, forward_is_written, forward_is_spelled, forward_reads, forward_is_flat, forward_is_flat_text}
use Rattle.spec_examples.proofs.small_flat_texts_are_written.Goals as goal

pub returns-clause-named : goal.returns-clause-named
returns-clause-named c = forward_is_named

pub returns-clause-file : goal.returns-clause-file
returns-clause-file c = forward_is_written

pub returns-clause-text : goal.returns-clause-text
returns-clause-text c = forward_is_spelled

pub returns-clause-reads : goal.returns-clause-reads
returns-clause-reads c = forward_reads

pub returns-clause-flat : goal.returns-clause-flat
returns-clause-flat c = forward_is_flat

pub returns-clause-flat_text : goal.returns-clause-flat_text
returns-clause-flat_text c = forward_is_flat_text
