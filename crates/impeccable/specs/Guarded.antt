-- A guard that was made of the files of two names, and what stops that.
use Rattle.std.specs.Prelude.{◌≡◌, ℕ, List, Result, Ok, Err}
use Rattle.imp_io.specs.Files.{FilesSeen}
use Rattle.netlist_spec.specs.Netlist.{Model, File}
use Rattle.netlist_spec.specs.Reads.{Reads}
use Rattle.netlist_spec.specs.Runs.{IsSteady}
use Rattle.guard_spec.specs.SettingsFile.{settings_of_bytes}
use Rattle.guard_text_spec.specs.GuardText.{IsGuardText}
use Rattle.guard_source.specs.Made.{IsGuardMade}
use Rattle.program_spec.specs.Commands.{Command, guard, campaign}
use Rattle.program_spec.specs.Verdict.{stimulus_walk, walk_of}
use Rattle.program_spec.specs.Walk.{Walk, end}
use Rattle.impeccable.specs.declared.ended.Stop.{Stop}
use Rattle.impeccable.specs.declared.guarded.Guarded.{Guarded}
use Rattle.impeccable.specs.Flat.{named_text}
use Rattle.impeccable.specs.Loads.{WhereHeld}
use Rattle.impeccable.specs.Steps.{Passed, Stops}

-- the command begins with the steps of this guard
abbrev pub BeginsWith : Command → (settings netlist : List ℕ) → Type 0
BeginsWith (guard first second) settings netlist = (first ≡ settings) × (second ≡ netlist)
BeginsWith (campaign first second stimulus cycle) settings netlist = (first ≡ settings) × (second ≡ netlist)
BeginsWith _ settings netlist = ⊥

-- what is left of its walk behind them
abbrev pub rest_of : Command → Model → Walk
rest_of (campaign settings netlist stimulus cycle) m = stimulus_walk m stimulus
rest_of _ m = end

-- The settings and the source are what the two files hold, the guard was made of them, and a command that begins with it
-- stands behind its steps.
pub record IsMadeOf (settings netlist : List ℕ) (old : FilesSeen) (g : Guarded) : Type 0 where
  pub source : File
  pub are_settings : WhereHeld old settings (λ bytes. settings_of_bytes bytes ≡ Ok g.settings)
  pub is_source : WhereHeld old netlist (λ bytes. Reads bytes source)
  pub made : IsGuardMade source g.settings g.guard.named g.guard.machine g.guard.layout
  pub text : (given bytes : List ℕ) → settings_of_bytes given ≡ Ok g.settings → Reads bytes source → IsGuardText given bytes (named_text g.guard.named) (λ t. IsSteady t)
  pub passed : (command : Command) → BeginsWith command settings netlist → Passed old (walk_of command) (rest_of command made.from.m)

-- So it is of the guard that is made; or a command that begins with it stops.
abbrev pub MakesGuard : (settings netlist : List ℕ) → FilesSeen → Result Guarded Stop → FilesSeen → Type 0
MakesGuard settings netlist old (Ok g) new = IsMadeOf settings netlist old g
MakesGuard settings netlist old (Err stop) new = (command : Command) → BeginsWith command settings netlist → Stops command old stop new
