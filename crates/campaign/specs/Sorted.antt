-- Faults of one cycle, sorted and counted.
use Rattle.std.specs.Prelude.{◌≡◌, ℕ, ◌+◌, ◌*◌, ◌-◌, ◌<◌, ◌≤◌, ◌⊎◌, List, [], length, take, slice_index_or, ◌∷◌, All}
use Rattle.std.specs.List.{AllZip}
use Rattle.netlist_spec.specs.Netlist.{Name, Model, File}
use Rattle.netlist_spec.specs.Models.{init_bits}
use Rattle.netlist_spec.specs.SourceRun.{Bits}
use Rattle.netlist_spec.specs.Runs.{Fault}
use Rattle.guard_spec.specs.Tally.{Outcome, Tally, single_faults, tally_of}
use Rattle.settings.specs.Types.{mode_in}
use Rattle.tally_laws.specs.Counts.{total}
use Rattle.tally_laws.specs.Seen.{outcome_seen, then_seen}
use Rattle.tally_laws.specs.Settled.{IsSettled}
use Rattle.tally_laws.specs.Sorted.{IsSorted}
use Rattle.fault_sim.specs.declared.faults.CellFault.{CellFault}
use Rattle.fault_sim.specs.Simulated.{Simulates}
use Rattle.campaign.specs.declared.runner.Runner.{Runner}
use Rattle.campaign.specs.declared.seen.Seen.{Seen as SeenSoFar}
use Rattle.campaign.specs.declared.seen.Outcome.{Outcome as FoundOutcome}
use Rattle.campaign.specs.declared.sort.Fork.{Fork}
use Rattle.campaign.specs.declared.tally.Tally.{Tally as Counts}
use Rattle.campaign.specs.declared.task.Task.{Task}
use Rattle.campaign.specs.Views.{seen_of, outcome_in, tally_in}
use Rattle.campaign.specs.Rests.{IsKept, IsMeeting}
use Rattle.campaign.specs.Runs.{IsReady, RunTo, RunsOn, seen_in, wanted_rows}

-- The run without faults was run up to the cycle of the faults, or to its end where that comes first. What may be met is of
-- runs without faults.
pub record IsBegun (task : Task) (m : Model) (cycle : ℕ) (fork : Fork) : Type 0 where
  pub shown : List Bits
  pub long : length shown ≡ fork.cycle
  pub run : RunTo m [] 0 (init_bits m) (take fork.cycle task.stimulus.now.cycles) shown fork.stored.now
  pub is_seen : seen_of fork.before ≡ seen_in task (take fork.cycle (wanted_rows task)) shown
  pub meetings : All (IsMeeting task m) fork.meetings.now
  pub at : ((fork.cycle ≡ cycle) × (cycle < length task.stimulus.now.cycles)) ⊎ ((fork.cycle ≡ length task.stimulus.now.cycles) × (length task.stimulus.now.cycles ≤ cycle))

-- what is said of a fault in a tally of this task
abbrev pub IsSortedIn : Task → File → Fault → Outcome → Type 0
IsSortedIn task g fault o = IsSorted g task.code.now task.layout.now task.outputs (mode_in task.mode) task.bound task.stimulus.now.cycles (wanted_rows task) fault o

-- a cell is faulty in a cycle
abbrev pub fault_in : ℕ → List Name → CellFault → Fault
fault_in cycle cells fault = record { cycle = cycle; cell = slice_index_or cells fault.cell.0 []; bit = fault.value }

-- The run ended, or its outcome is settled.
pub record IsOver (task : Task) (fork : Fork) (count : ℕ) (part whole : SeenSoFar) : Type 0 where
  pub is_whole : seen_of whole ≡ then_seen (seen_of fork.before) (seen_of part)
  pub ends : (count ≡ length task.stimulus.now.cycles - fork.cycle) ⊎ IsSettled (mode_in task.mode) (seen_of whole) (outcome_seen (mode_in task.mode) (seen_of whole))

-- The run has met the run without faults, whose rest is seen too.
pub record IsMet (fork : Fork) (count : ℕ) (part : SeenSoFar) (stored : Bits) (whole : SeenSoFar) : Type 0 where
  pub some : 1 ≤ count
  pub rest : SeenSoFar
  pub kept : IsKept fork.meetings.now (fork.cycle + count) stored rest
  pub is_whole : seen_of whole ≡ then_seen (then_seen (seen_of fork.before) (seen_of part)) (seen_of rest)

-- Cycles were run with this fault in the first of them, until it was known what the whole run comes to.
pub record Stops (task : Task) (old : Runner) (fork : Fork) (fault : CellFault) (whole : SeenSoFar) (new : Runner) : Type 0 where
  pub count : ℕ
  pub part : SeenSoFar
  pub fits : fork.cycle + count ≤ length task.stimulus.now.cycles
  pub ran : RunsOn task old fork.cycle count (fault ∷ []) part new
  pub ends : IsOver task fork count part whole ⊎ IsMet fork count part new.sim.stored whole

-- The run with this fault was run, and has this outcome.
pub record Sorts (task : Task) (old : Runner) (fork : Fork) (fault : CellFault) (o : FoundOutcome) (new : Runner) : Type 0 where
  pub sorted : (g : File) (simulates : Simulates g old.sim) (cycle : ℕ) → IsBegun task simulates.ordered.model cycle fork
      → IsSortedIn task g (fault_in cycle old.sim.cells fault) (outcome_in o)
  pub netlist : new.sim ≡ record old.sim { stored = new.sim.stored }
  pub ready : IsReady task new

-- All faults of these cells in a cycle are counted.
pub record Tallied (task : Task) (g : File) (cycle : ℕ) (cells : List Name) (tally : Tally) : Type 0 where
  pub outcomes : List Outcome
  pub each : AllZip (IsSortedIn task g) (single_faults cycle cells) outcomes
  pub counts : tally ≡ tally_of outcomes

-- The faults of one more cell were counted.
pub record CountsCell (task : Task) (old : Runner) (fork : Fork) (cell : ℕ) (before after : Counts) (new : Runner) : Type 0 where
  pub tallied : (g : File) (simulates : Simulates g old.sim) (cycle : ℕ) → IsBegun task simulates.ordered.model cycle fork
      → Tallied task g cycle (take cell old.sim.cells) (tally_in before) → Tallied task g cycle (take (cell + 1) old.sim.cells) (tally_in after)
  pub all : total (tally_in after) ≡ 2 * (cell + 1)
  pub netlist : new.sim ≡ record old.sim { stored = new.sim.stored }
  pub ready : IsReady task new

-- The faults of so many cells were counted.
pub record CountsCells (task : Task) (old : Runner) (fork : Fork) (count : ℕ) (tally : Counts) (new : Runner) : Type 0 where
  pub tallied : (g : File) (simulates : Simulates g old.sim) (cycle : ℕ) → IsBegun task simulates.ordered.model cycle fork
      → Tallied task g cycle (take count old.sim.cells) (tally_in tally)
  pub all : total (tally_in tally) ≡ 2 * count
  pub netlist : new.sim ≡ record old.sim { stored = new.sim.stored }
  pub ready : IsReady task new
