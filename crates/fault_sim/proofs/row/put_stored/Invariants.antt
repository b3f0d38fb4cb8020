-- The latches so far are in the row.
use Rattle.std.proofs.Common.{◌≡◌, take}
use Rattle.fault_sim.specs.Row.{put_latches}
use Rattle.fault_sim.proofs.row.put_stored.Given as goal

abbrev pub invariant-loop-i : goal.invariant-loop-i
invariant-loop-i l = l.row ≡ put_latches l.forced l.initial.row (take l.i l.latches) (take l.i l.stored)
