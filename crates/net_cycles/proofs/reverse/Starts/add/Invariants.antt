-- The edges so far are turned round.
use Rattle.std.proofs.Common.{take}
use Rattle.net_cycles.specs.Reversed.{Adds}
use Rattle.net_cycles.proofs.reverse.Starts.add.Given as goal

abbrev pub invariant-loop-end : goal.invariant-loop-end
invariant-loop-end l = Adds l.node (take l.end-index l.ends) l.initial.self l.self
