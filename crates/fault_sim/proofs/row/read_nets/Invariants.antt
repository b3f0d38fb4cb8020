-- The bits so far are read.
use Rattle.std.proofs.Common.{◌≡◌, map, take}
use Rattle.fault_sim.specs.Gates.{bit_in}
use Rattle.fault_sim.proofs.row.read_nets.Given as goal

abbrev pub invariant-loop-i : goal.invariant-loop-i
invariant-loop-i l = take l.i l.out ≡ map (bit_in l.row) (take l.i l.nets)
