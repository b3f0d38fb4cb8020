-- The gates so far have put their bits.
use Rattle.std.proofs.Common.{◌≡◌, take}
use Rattle.fault_sim.specs.Gates.{numbered, put_gates}
use Rattle.fault_sim.proofs.gates.Gates.put.Given as goal

abbrev pub invariant-loop-i : goal.invariant-loop-i
invariant-loop-i l = l.row ≡ put_gates l.forced l.initial.row (take l.i (numbered l.self))
