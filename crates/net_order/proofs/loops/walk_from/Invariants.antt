-- The path leads to the net, and what it has met is marked.
use Rattle.std.proofs.Common.{not, count_by}
use Rattle.net_order.proofs.WalkLemmas.{Walks}
use Rattle.net_order.proofs.loops.walk_from.Given as goal

abbrev pub invariant-loop-path : goal.invariant-loop-path
invariant-loop-path l = Walks l.reads l.driver l.left l.start l.met.items l.path.items l.net

abbrev pub decreases-loop-path : goal.decreases-loop-path
decreases-loop-path l = count_by not l.met.items
