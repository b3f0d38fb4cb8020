-- The names so far.
use Rattle.std.proofs.Common.{◌≡◌, take}
use Rattle.fault_sim.proofs.build.copy_names.Given as goal

abbrev pub invariant-loop-i : goal.invariant-loop-i
invariant-loop-i l = l.copy ≡ take l.i l.names
