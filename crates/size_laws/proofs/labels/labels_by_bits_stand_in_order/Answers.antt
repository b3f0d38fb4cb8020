use Rattle.size_laws.proofs.BitOrder.{labelled_in_order, labelled_names}
use Rattle.size_laws.proofs.labels.labels_by_bits_stand_in_order.Goals as goal

pub returns-clause-order : goal.returns-clause-order
returns-clause-order c = labelled_in_order

pub returns-clause-names : goal.returns-clause-names
returns-clause-names c = labelled_names
