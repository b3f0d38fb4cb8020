-- The latches so far have stored.
use Rattle.std.proofs.Common.{◌≡◌, map, take}
use Rattle.fault_sim.specs.declared.row.LatchCell.{LatchCell}
use Rattle.fault_sim.specs.Gates.{bit_in}
use Rattle.fault_sim.proofs.row.store.Given as goal

abbrev pub invariant-loop-i : goal.invariant-loop-i
invariant-loop-i l = take l.i l.stored ≡ map (λ (latch : LatchCell). bit_in l.row latch.d) (take l.i l.latches)
