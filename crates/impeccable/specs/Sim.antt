-- What `sim` takes from its files, and what it writes.
use Rattle.std.specs.Prelude.{◌≡◌, ℕ, ◌<◌, List, length, take, slice_get, All, Some}
use Rattle.netlist_spec.specs.Netlist.{File}
use Rattle.netlist_spec.specs.Runs.{Fault}
use Rattle.netlist_spec.specs.SourceRun.{Bits}
use Rattle.program_spec.specs.Printed.{IsRunText}
use Rattle.fault_sim.specs.declared.faults.CellFault.{CellFault}
use Rattle.fault_sim.specs.Faults.{named_faults}
use Rattle.fault_sim.specs.HasRun.{HasRun}
use Rattle.fault_sim.specs.Simulated.{CycleUnder, Simulates}
use Rattle.fault_script.specs.Scripts.{HasFaults, faults_in}
use Rattle.impeccable.specs.declared.sim.Simulation.{Simulation}

-- The stimulus has a bit for each data input, the faults of the script are of its cells, and there is a place for each
-- data input and each output.
pub record HasPlaces (s : Simulation) : Type 0 where
  pub width : s.stimulus.inputs ≡ length s.sim.inputs
  pub cells : (c : ℕ) → All (λ (f : CellFault). f.cell.0 < length s.sim.cells) (faults_in s.script c)
  pub inputs : length s.inputs.items ≡ length s.sim.inputs
  pub outputs : length s.outputs.items ≡ length s.sim.outputs

-- It is so, and each latch has its init.
pub record IsReady (s : Simulation) : Type 0 where
  pub fits : HasPlaces s
  pub starts : s.sim.stored ≡ s.sim.inits

-- The text is that of the run of the file that is simulated, under the faults that the script has.
abbrev pub IsTextOfRun : Simulation → List ℕ → Type 0
IsTextOfRun s text = (file : File) (faults : List Fault) → Simulates file s.sim → HasFaults s.sim.cells faults s.script → IsRunText file s.stimulus.cycles faults text

-- Nothing but stored bits and the bits of a cycle has changed.
pub record IsSame (old new : Simulation) : Type 0 where
  pub netlist : new.sim ≡ record old.sim { stored = new.sim.stored }
  pub stimulus : new.stimulus ≡ old.stimulus
  pub script : new.script ≡ old.script
  pub fits : HasPlaces new

-- Cycle c was simulated.
pub record IsCycle (old : Simulation) (c : ℕ) (new : Simulation) : Type 0 where
  pub x : Bits
  pub is_row : slice_get old.stimulus.cycles c ≡ Some x
  pub cycle : (file : File) (simulates : Simulates file old.sim)
      → CycleUnder simulates.ordered.model (named_faults old.sim.cells (faults_in old.script c)) x old.sim.stored new.outputs.items new.sim.stored
  pub same : IsSame old new

-- So many cycles were simulated from the inits on, with these outputs.
pub record Ran (old : Simulation) (count : ℕ) (outs : List Bits) (new : Simulation) : Type 0 where
  pub run : (file : File) (faults : List Fault) → Simulates file old.sim → HasFaults old.sim.cells faults old.script → HasRun file faults (take count old.stimulus.cycles) outs new.sim.stored
  pub same : IsSame old new
