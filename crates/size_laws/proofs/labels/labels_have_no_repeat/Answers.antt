use Rattle.size_laws.proofs.LabelKinds.{once_by_place, once_by_kind, guard_labels_once}
use Rattle.size_laws.proofs.labels.labels_have_no_repeat.Goals as goal

pub returns-clause-places : goal.returns-clause-places
returns-clause-places c = once_by_place

pub returns-clause-kinds : goal.returns-clause-kinds
returns-clause-kinds c = once_by_kind

pub returns-clause-guard : goal.returns-clause-guard
returns-clause-guard c = guard_labels_once
