use Rattle.spec_examples.proofs.SmallCycles.{box_cycle, layer_cycle, copies_cycle}
use Rattle.spec_examples.proofs.small_sources_have_a_meaning.Goals as goal

pub returns-clause-table : goal.returns-clause-table
returns-clause-table c = box_cycle

pub returns-clause-linear : goal.returns-clause-linear
returns-clause-linear c = layer_cycle

pub returns-clause-copies : goal.returns-clause-copies
returns-clause-copies c = copies_cycle
