-- The nodes so far are to be entered.
use Rattle.net_cycles.specs.Finished.{AreAllToEnter}
use Rattle.net_cycles.proofs.finish.all_to_enter.Given as goal

abbrev pub invariant-loop-node : goal.invariant-loop-node
invariant-loop-node l = AreAllToEnter l.node l.stack.items
