-- What so many edges lead to is marked.
use Rattle.std.proofs.Common.{length}
use Rattle.net_graph.specs.Chains.{AreMarked, Chain}
use Rattle.net_graph.proofs.chains.reach_past.Given as goal

abbrev pub invariant-loop-step : goal.invariant-loop-step
invariant-loop-step l = AreMarked (length l.graph) l.marks.items (Chain l.graph l.step l.start)
