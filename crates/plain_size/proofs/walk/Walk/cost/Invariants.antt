-- Chains lead to what is met.
use Rattle.std.proofs.Common.{◌+◌, not, length, count_by}
use Rattle.plain_size.specs.Walks.{met}
use Rattle.plain_size.proofs.WalkLemmas.{IsUnderway}
use Rattle.plain_size.proofs.walk.Walk.cost.Given as goal

abbrev pub invariant-walk : goal.invariant-walk
invariant-walk l = IsUnderway l.graph l.costs l.start l.total l.self

abbrev pub decreases-walk : goal.decreases-walk
decreases-walk l = count_by not (met l.self) + length l.self.waiting.items
