-- The edges of the nodes so far are turned round.
use Rattle.net_cycles.proofs.ReverseLemmas.{IsReversedBelow}
use Rattle.net_cycles.proofs.reverse.all_starts.Given as goal

abbrev pub invariant-loop-node : goal.invariant-loop-node
invariant-loop-node l = IsReversedBelow l.graph l.starts l.node
