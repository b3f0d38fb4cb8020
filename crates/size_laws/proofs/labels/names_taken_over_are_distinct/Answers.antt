use Rattle.size_laws.proofs.TakenOver.{taken_over_distinct, taken_over_free}
use Rattle.size_laws.proofs.labels.names_taken_over_are_distinct.Goals as goal

pub returns-clause-distinct : goal.returns-clause-distinct
returns-clause-distinct c = taken_over_distinct

pub returns-clause-free : goal.returns-clause-free
returns-clause-free c = taken_over_free
