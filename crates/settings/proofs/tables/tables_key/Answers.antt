use Rattle.std.specs.List.Sorted.{IsStrictlySortedBy}
use Rattle.settings.proofs.tables.tables_key.Goals as goal

pub returns-in-None-clause-order : goal.returns-in-None-clause-order
unfolding IsStrictlySortedBy
returns-in-None-clause-order c = rw c.new.ensures.items tt
