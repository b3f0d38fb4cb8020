-- The ends so far are to be entered.
use Rattle.std.proofs.Common.{◌≡◌, ◌++◌, map, take}
use Rattle.net_cycles.specs.Visits.{to_enter}
use Rattle.net_cycles.proofs.finish.open.Given as goal

abbrev pub invariant-loop-end : goal.invariant-loop-end
invariant-loop-end l = l.stack.items ≡ l.initial.stack.items ++ map to_enter (take l.end-index l.end-items)
