-- The tally of a guard that was made for a source, and what is written of it.
use Rattle.std.specs.Prelude.{◌≡◌, ℕ, List, ◌++◌, length, Some, Ok}
use Rattle.netlist_spec.specs.Netlist.{Model, File}
use Rattle.netlist_spec.specs.Models.{main_model}
use Rattle.netlist_spec.specs.Reads.{Reads}
use Rattle.netlist_spec.specs.Runs.{IsSteady}
use Rattle.netlist_spec.specs.SourceRun.{Stream}
use Rattle.netlist_spec.specs.Gates.{Machine}
use Rattle.netlist_spec.specs.Ordered.{IsOrdered, cell_nets}
use Rattle.netlist_spec.specs.Text.{text_of}
use Rattle.netlist_spec.specs.Written.{Named, file_of}
use Rattle.netlist_spec.specs.WrittenText.{IsOneReading}
use Rattle.stimulus_spec.specs.Stimulus.{stimulus_of}
use Rattle.guard_spec.specs.Codes.{rail_count}
use Rattle.guard_spec.specs.SettingsFile.{settings_of_bytes}
use Rattle.guard_spec.specs.Tally.{IsMachineTally}
use Rattle.guard_spec.specs.Words.{Settings, Layout}
use Rattle.program_spec.specs.Printed.{tally_text}
use Rattle.program_spec.specs.CampaignText.{IsCampaignText}
use Rattle.campaign.specs.Runs.{IsGuardShape}
use Rattle.campaign.specs.Views.{tally_in}
use Rattle.guard_source.specs.Made.{IsGuardMade}
use Rattle.guard_tally.specs.declared.tally.GuardTally.{GuardTally}

-- The outcomes are those of all single faults of the cycle, and the cells those of the file that the guard is written as.
pub record IsTallied (n : Named) (machine : Machine) (s : Settings) (l : Layout) (xs : Stream) (cycle : ℕ) (t : GuardTally) : Type 0 where
  pub model : Model
  pub is_model : main_model (file_of n) ≡ Some model
  pub cells : t.cells ≡ length (cell_nets model)
  pub outcomes : IsMachineTally (file_of n) machine s.code l s.mode s.bound xs cycle (tally_in t.outcomes)
  pub reading : IsOneReading (text_of n.unknown_inits (file_of n)) (file_of n)

-- the five lines of a tally
abbrev pub lines_of : GuardTally → List ℕ
lines_of t = tally_text t.cells (tally_in t.outcomes)

-- A guard that was made for a source is in order, and has the shape that a campaign asks for.
abbrev pub HasItsShape : File → Settings → Named → Machine → Layout → Type 0
HasItsShape source s n machine l =
    IsGuardMade source s n machine l → IsOrdered (file_of n) × IsGuardShape (file_of n) machine l s.code (rail_count s.mode s.bound)

-- Its tally, and then its text, are what `campaign` writes for the files that the source, the settings and the stream were
-- read from.
abbrev pub MakesText : (settings netlist stimulus : List ℕ) (source : File) (s : Settings) (n : Named) (machine : Machine) (l : Layout) (xs : Stream) (cycle : ℕ) (t : GuardTally) → Type 0
MakesText settings netlist stimulus source s n machine l xs cycle t =
    IsGuardMade source s n machine l → settings_of_bytes settings ≡ Ok s → Reads netlist source → stimulus_of machine.inputs stimulus ≡ Ok xs
    → IsTallied n machine s l xs cycle t
    → IsCampaignText settings netlist stimulus (lines_of t ++ text_of n.unknown_inits (file_of n)) cycle (λ t. IsSteady t)
