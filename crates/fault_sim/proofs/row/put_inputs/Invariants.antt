-- The bits so far are in the row.
use Rattle.std.proofs.Common.{◌≡◌, take}
use Rattle.fault_sim.specs.Row.{put_bits}
use Rattle.fault_sim.proofs.row.put_inputs.Given as goal

abbrev pub invariant-loop-i : goal.invariant-loop-i
invariant-loop-i l = l.row ≡ put_bits l.initial.row (take l.i l.inputs) (take l.i l.x)
