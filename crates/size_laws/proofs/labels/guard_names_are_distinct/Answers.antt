use Rattle.size_laws.proofs.LabelKinds.{guard_labels_small, guard_names_distinct}
use Rattle.size_laws.proofs.BitOrder.{source_names_distinct}
use Rattle.size_laws.proofs.labels.guard_names_are_distinct.Goals as goal

pub returns-clause-small : goal.returns-clause-small
returns-clause-small c = guard_labels_small

pub returns-clause-kinds : goal.returns-clause-kinds
returns-clause-kinds c = guard_names_distinct

pub returns-clause-bits : goal.returns-clause-bits
returns-clause-bits c = source_names_distinct
