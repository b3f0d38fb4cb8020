-- The rest of the run without faults, which a run with a fault may meet.
use Rattle.std.specs.Prelude.{◌≡◌, ℕ, List, [], All, Contains, drop}
use Rattle.netlist_spec.specs.Netlist.{Model, File}
use Rattle.netlist_spec.specs.SourceRun.{Bits}
use Rattle.tally_laws.specs.Seen.{Seen}
use Rattle.fault_sim.specs.Simulated.{Simulates}
use Rattle.campaign.specs.declared.rest.Meeting.{Meeting}
use Rattle.campaign.specs.declared.runner.Runner.{Runner}
use Rattle.campaign.specs.declared.seen.Seen.{Seen as SeenSoFar}
use Rattle.campaign.specs.declared.task.Task.{Task}
use Rattle.campaign.specs.Views.{seen_of}
use Rattle.campaign.specs.Runs.{IsReady, RunTo, seen_in, wanted_rows}

-- This is seen of a run without faults from a cycle and stored bits on to the end of the stream.
pub record GoesOn (task : Task) (m : Model) (cycle : ℕ) (stored : Bits) (rest : Seen) : Type 0 where
  pub shown : List Bits
  pub last : Bits
  pub run : RunTo m [] cycle stored (drop cycle task.stimulus.now.cycles) shown last
  pub is_seen : rest ≡ seen_in task (drop cycle (wanted_rows task)) shown

abbrev pub IsMeeting : Task → Model → Meeting → Type 0
IsMeeting task m meeting = GoesOn task m meeting.cycle meeting.stored.items (seen_of meeting.rest)

-- The run from a cycle on was run to its end, and further cycles of such runs were kept.
pub record KeepsRest (task : Task) (old : Runner) (cycle : ℕ) (before : List Meeting) (rest : SeenSoFar) (after : List Meeting) (new : Runner) : Type 0 where
  pub goes_on : (g : File) (simulates : Simulates g old.sim) → GoesOn task simulates.ordered.model cycle old.sim.stored (seen_of rest)
  pub kept : (g : File) (simulates : Simulates g old.sim) → All (IsMeeting task simulates.ordered.model) before → All (IsMeeting task simulates.ordered.model) after
  pub netlist : new.sim ≡ record old.sim { stored = new.sim.stored }
  pub ready : IsReady task new

-- All that was kept are cycles of runs without faults.
pub record KeepsAll (task : Task) (old : Runner) (meetings : List Meeting) (new : Runner) : Type 0 where
  pub kept : (g : File) (simulates : Simulates g old.sim) → All (IsMeeting task simulates.ordered.model) meetings
  pub netlist : new.sim ≡ record old.sim { stored = new.sim.stored }
  pub ready : IsReady task new

-- A cycle with these stored bits was kept, and from it on this is seen.
pub record IsKept (meetings : List Meeting) (cycle : ℕ) (stored : Bits) (rest : SeenSoFar) : Type 0 where
  pub meeting : Meeting
  pub stands : Contains meetings meeting
  pub at : meeting.cycle ≡ cycle
  pub same : meeting.stored.items ≡ stored
  pub is_rest : meeting.rest ≡ rest
