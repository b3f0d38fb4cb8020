-- The bits so far are read.
use Rattle.std.proofs.Common.{◌≡◌, length, map, take}
use Rattle.fault_sim.specs.Gates.{bit_in}
use Rattle.fault_sim.proofs.cover.value_by_rows.Given as goal

abbrev pub invariant-loop-i : goal.invariant-loop-i
invariant-loop-i l = record { size : length l.bits ≡ 16; read : take l.i l.bits ≡ map (bit_in l.row) (take l.i l.ins) }
