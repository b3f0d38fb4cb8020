-- The latches so far are back.
use Rattle.std.proofs.Common.{◌≡◌, map, take}
use Rattle.fault_sim.specs.declared.row.LatchCell.{LatchCell}
use Rattle.fault_sim.proofs.row.start.Given as goal

abbrev pub invariant-loop-i : goal.invariant-loop-i
invariant-loop-i l = take l.i l.stored ≡ map (λ (latch : LatchCell). latch.init) (take l.i l.latches)
