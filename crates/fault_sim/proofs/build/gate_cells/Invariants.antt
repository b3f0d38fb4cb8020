-- The gates so far.
use Rattle.std.proofs.Common.{◌≡◌, filter_map, take}
use Rattle.blif_read.specs.declared.file.Located.{Located}
use Rattle.fault_sim.specs.Build.{gate_of}
use Rattle.fault_sim.specs.Gates.{AreGates, numbered}
use Rattle.fault_sim.proofs.build.gate_cells.Given as goal

abbrev pub invariant-loop-s : goal.invariant-loop-s
invariant-loop-s l =
    record {
      gates : numbered l.gates ≡ filter_map (λ (s : Located). gate_of s.what) (take l.s-index l.statements);
      are_gates : AreGates l.gates;
    }
