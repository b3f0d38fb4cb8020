-- The ends so far are visited.
use Rattle.std.proofs.Common.{take}
use Rattle.net_graph.specs.Search.{Visits}
use Rattle.net_graph.proofs.chains.visit.Given as goal

abbrev pub invariant-loop-end : goal.invariant-loop-end
invariant-loop-end l = Visits (take l.end-index l.ends) l.initial.marks l.initial.waiting.items l.marks l.waiting.items
