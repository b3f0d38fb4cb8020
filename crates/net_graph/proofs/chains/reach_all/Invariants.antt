-- What is marked is reached, and its ends are marked unless it waits.
use Rattle.std.proofs.Common.{◌+◌, not, length, count_by}
use Rattle.net_graph.proofs.VisitLemmas.{Searches}
use Rattle.net_graph.proofs.chains.reach_all.Given as goal

abbrev pub invariant-loop-node : goal.invariant-loop-node
invariant-loop-node l = Searches l.graph l.initial.marks.items l.marks.items l.waiting.items

abbrev pub decreases-loop-node : goal.decreases-loop-node
decreases-loop-node l = count_by not l.marks.items + length l.waiting.items
