use Rattle.size_laws.proofs.DistinctLabels.{same_label, distinct_names}
use Rattle.size_laws.proofs.LabelKinds.{free_labels}
use Rattle.size_laws.proofs.labels.distinct_labels_have_distinct_names.Goals as goal

pub returns-clause-two : goal.returns-clause-two
returns-clause-two c = same_label

pub returns-clause-all : goal.returns-clause-all
returns-clause-all c = distinct_names

pub returns-clause-free : goal.returns-clause-free
returns-clause-free c = free_labels
