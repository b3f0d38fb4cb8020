-- Runs of a guard beside its source, and what is seen of them.
use Rattle.std.specs.Prelude.{◌≡◌, ℕ, Bool, zero, suc, ◌+◌, ◌*◌, ◌≤◌, List, [], ◌∷◌, ◌++◌, length, map, take, drop, Vec, slice_get, Some}
use Rattle.std.specs.List.{AllByRecursion}
use Rattle.std.specs.declared.alloc.Global.{Global}
use Rattle.netlist_spec.specs.Netlist.{Model, File}
use Rattle.netlist_spec.specs.Models.{data_inputs, output_nets}
use Rattle.netlist_spec.specs.Ordered.{IsOrdered}
use Rattle.netlist_spec.specs.SourceRun.{Bits, Stream}
use Rattle.netlist_spec.specs.Gates.{Machine, GateRun}
use Rattle.netlist_spec.specs.Runs.{Fault, forced_at}
use Rattle.guard_spec.specs.Codes.{Code, data_places}
use Rattle.guard_spec.specs.Contained.{at_cycle}
use Rattle.guard_spec.specs.Words.{Layout, IsPartition}
use Rattle.tally_laws.specs.Parts.{FaultyRuns}
use Rattle.tally_laws.specs.Seen.{Seen, seen, seen_cycle}
use Rattle.fault_sim.specs.declared.faults.CellFault.{CellFault}
use Rattle.fault_sim.specs.Faults.{named_faults}
use Rattle.fault_sim.specs.Simulated.{CycleUnder, Simulates}
use Rattle.campaign.specs.declared.runner.Runner.{Runner}
use Rattle.campaign.specs.declared.seen.Seen.{Seen as SeenSoFar}
use Rattle.campaign.specs.declared.task.Task.{Task}
use Rattle.campaign.specs.Views.{seen_of}

-- the bits of each row
abbrev pub rows_in : List (Vec Bool Global) → List Bits
rows_in rows = map (λ (r : Vec Bool Global). r.items) rows

-- A file in order has as many data inputs as a source, and the outputs of the source, then the check bits of each output
-- word, and then so many rails.
abbrev pub IsGuardShape : File → Machine → Layout → Code → ℕ → Type 0
IsGuardShape f source l code rails =
    (ordered : IsOrdered f)
    → (length (data_inputs ordered.model) ≡ source.inputs)
    × (length (output_nets ordered.model) ≡ length source.outputs + length l.output * code.columns + rails)

-- The rows are what the source shows on the stream.
pub record Shows (source : Machine) (xs : Stream) (rows : List (Vec Bool Global)) : Type 0 where
  pub states : List Bits
  pub is_run : GateRun source xs [] states (rows_in rows)
  pub each : AllByRecursion (λ y. length y ≡ length source.outputs) (rows_in rows)
  pub long : length rows ≡ length xs
  pub wide : AllByRecursion (λ x. length x ≡ source.inputs) xs

-- They are what the source shows in some cycles, behind which its latches have stored these bits.
pub record ShowsTo (source : Machine) (xs : Stream) (rows : List (Vec Bool Global)) (stored : Bits) : Type 0 where
  pub states : List Bits
  pub is_run : GateRun source xs [] (states ++ stored ∷ []) (rows_in rows)
  pub each : AllByRecursion (λ y. length y ≡ length source.outputs) (rows_in rows)
  pub long : length rows ≡ length xs
  pub wide : AllByRecursion (λ x. length x ≡ source.inputs) xs

-- what the source shows in each cycle
abbrev pub wanted_rows : Task → List Bits
wanted_rows task = rows_in task.wanted.now

-- what is seen of some cycles of a task
abbrev pub seen_in : Task → List Bits → List Bits → Seen
seen_in task ys zs = seen task.code.now task.layout.now task.outputs task.bound ys zs

-- A file is simulated. There is a bit for each latch, a place for each data input and each output, and a row of the source for each cycle; the words
-- are over the source's outputs, and the guard shows their check bits.
pub record IsReady (task : Task) (s : Runner) : Type 0 where
  pub file : File
  pub simulates : Simulates file s.sim
  pub stored : length s.sim.stored ≡ length s.sim.stores
  pub width : task.stimulus.now.inputs ≡ length s.sim.inputs
  pub inputs : length s.inputs.items ≡ length s.sim.inputs
  pub outputs : length s.outputs.items ≡ length s.sim.outputs
  pub room : task.outputs + length task.layout.now.output * task.code.now.columns ≤ length s.sim.outputs
  pub words : IsPartition task.outputs (data_places task.code.now) task.layout.now.output
  pub rows : length task.wanted.now ≡ length task.stimulus.now.cycles
  pub few : length task.stimulus.now.cycles ≤ 1000000
  pub wide : AllByRecursion (λ x. length s.sim.inputs ≡ length x) task.stimulus.now.cycles
  pub each : AllByRecursion (λ y. length y ≡ task.outputs) (wanted_rows task)

-- It simulates the file, whose latches have their inits, and has a place for each data input and each output.
pub record IsMade (f : File) (s : Runner) : Type 0 where
  pub simulates : Simulates f s.sim
  pub starts : s.sim.stored ≡ s.sim.inits
  pub inputs : length s.inputs.items ≡ length s.sim.inputs
  pub outputs : length s.outputs.items ≡ length s.sim.outputs

-- Cycle c was run under some faults, and this is seen of it.
pub record IsCycle (task : Task) (old : Runner) (c : ℕ) (faults : List CellFault) (part : SeenSoFar) (new : Runner) : Type 0 where
  pub x : Bits
  pub shown : Bits
  pub is_row : slice_get task.stimulus.now.cycles c ≡ Some x
  pub cycle : (g : File) (simulates : Simulates g old.sim)
      → CycleUnder simulates.ordered.model (named_faults old.sim.cells faults) x old.sim.stored shown new.sim.stored
  pub is_seen : seen_of part ≡ seen_cycle task.code.now task.layout.now task.outputs task.bound (at_cycle (wanted_rows task) c) shown
  pub netlist : new.sim ≡ record old.sim { stored = new.sim.stored }
  pub ready : IsReady task new

-- the faults so many cycles behind the one that has faults
abbrev pub faults_after : ℕ → List CellFault → List CellFault
faults_after zero faults = faults
faults_after (suc later) faults = []

-- A run from a cycle and stored bits on ends with these stored bits.
pub record RunTo (m : Model) (faults : List Fault) (c : ℕ) (first : Bits) (xs : Stream) (shown : List Bits) (last : Bits) : Type 0 where
  pub states : List Bits
  pub is_run : FaultyRuns m faults c first xs (states ++ last ∷ []) shown

-- a list of faults has these for the first cycle, and none for the next ones
abbrev pub AreFrom : ℕ → List (List ℕ) → List CellFault → List Fault → Type 0
AreFrom first cells faults all = (i : ℕ) → named_faults cells (faults_after i faults) ≡ forced_at (first + i) all

-- So many cycles were run from the first one on, which alone had faults, and this is seen of them.
pub record RunsOn (task : Task) (old : Runner) (first count : ℕ) (faults : List CellFault) (part : SeenSoFar) (new : Runner) : Type 0 where
  pub shown : List Bits
  pub long : length shown ≡ count
  pub is_seen : seen_of part ≡ seen_in task (take count (drop first (wanted_rows task))) shown
  pub run : (g : File) (simulates : Simulates g old.sim) (all : List Fault) → AreFrom first old.sim.cells faults all
      → RunTo simulates.ordered.model all first old.sim.stored (take count (drop first task.stimulus.now.cycles)) shown new.sim.stored
  pub netlist : new.sim ≡ record old.sim { stored = new.sim.stored }
  pub ready : IsReady task new
