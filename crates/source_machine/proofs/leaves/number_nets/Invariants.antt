-- The names so far have their nets.
use Rattle.std.proofs.Common.{◌≡◌, take}
use Rattle.source_machine.specs.Rows.{numbered}
use Rattle.source_machine.proofs.leaves.number_nets.Given as goal

abbrev pub invariant-loop-i : goal.invariant-loop-i
invariant-loop-i l = l.table ≡ numbered l.fn.table l.fn.first (take l.i l.ids)
