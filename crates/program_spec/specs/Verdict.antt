-- What a command comes to over the contents of its files, and what it may write where all its steps pass.
use Rattle.std.specs.Prelude.{◌≡◌, ◌⊎◌, ℕ, List, length, Ok, Some, IsSomeAnd, ⊤}
use Rattle.netlist_spec.specs.Netlist.{Model, File}
use Rattle.netlist_spec.specs.Covers.{empty_library}
use Rattle.netlist_spec.specs.Models.{main_model, data_inputs}
use Rattle.netlist_spec.specs.Ordered.{cell_nets}
use Rattle.netlist_spec.specs.Reads.{Reads}
use Rattle.netlist_spec.specs.Runs.{Fault, IsSteady}
use Rattle.netlist_spec.specs.SourceRun.{Stream}
use Rattle.netlist_spec.specs.WrittenText.{IsFlatText}
use Rattle.stimulus_spec.specs.Stimulus.{stimulus_of, script_of}
use Rattle.guard_spec.specs.Words.{Settings, Layout}
use Rattle.guard_spec.specs.SettingsFile.{settings_of_bytes}
use Rattle.program_spec.specs.Printed.{IsReport, IsRunText, IsIndependentText, IsFindingText}
use Rattle.guard_text_spec.specs.GuardText.{IsGuardText}
use Rattle.program_spec.specs.CampaignText.{IsCampaignText, IsDemoText}
use Rattle.program_spec.specs.Commands.{Command, flat, code, guard, sim, audit, campaign, demo, netlist_limit, other_limit}
use Rattle.program_spec.specs.Walk.{Contents, Verdict, passes, Walk, end, load, test, ComesTo}
use Rattle.program_spec.specs.Steps.{reading, soundness, settings_in, strength, main_of, words_of, smallness, order_of, stimulus_in, script_in}

-- ---- steps that several commands share

-- a netlist that is read
abbrev pub load_netlist : List ℕ → (File → Walk) → Walk
load_netlist netlist next = load netlist netlist_limit (λ bytes. test _ (reading bytes) next)

-- a netlist that can be evaluated line by line, with its main model
abbrev pub load_ordered : List ℕ → (File → Model → Walk) → Walk
load_ordered netlist next =
    load_netlist netlist (λ file. test _ (order_of file) (λ ordered. test _ (main_of file) (λ m. next file m)))

-- settings that are read
abbrev pub load_settings : List ℕ → (Settings → Walk) → Walk
load_settings settings next = load settings other_limit (λ text. test _ (settings_in text) next)

-- the steps of a guard behind its settings, up to the size
abbrev pub guard_steps : Settings → List ℕ → (File → Settings → Model → Layout → Walk) → Walk
guard_steps s netlist next =
    test _ (strength s) (λ strong.
    load_netlist netlist (λ file. test _ (soundness file s.library) (λ sound. test _ (main_of file) (λ m.
    test _ (words_of m s) (λ l. test _ (smallness file s m l) (λ small. next file s m l))))))

-- the steps of a guard from its settings on, up to the size
abbrev pub guard_walk : List ℕ → List ℕ → (File → Settings → Model → Layout → Walk) → Walk
guard_walk settings netlist next = load_settings settings (λ s. guard_steps s netlist next)

-- ---- the steps of each command

-- of `sim`, behind its netlist
abbrev pub run_walk : Model → List ℕ → List ℕ → Walk
run_walk m stimulus script =
    load stimulus other_limit (λ text. test _ (stimulus_in m text) (λ xs.
    load script other_limit (λ lines. test _ (script_in m lines) (λ faults. end))))

-- of `campaign`, behind its guard
abbrev pub stimulus_walk : Model → List ℕ → Walk
stimulus_walk m stimulus = load stimulus other_limit (λ text. test _ (stimulus_in m text) (λ xs. end))

abbrev pub walk_of : Command → Walk
walk_of (flat netlist) = load_netlist netlist (λ file. test _ (soundness file empty_library) (λ sound. end))
walk_of (code settings) = load_settings settings (λ s. end)
walk_of (guard settings netlist) = guard_walk settings netlist (λ file s m l. end)
walk_of (sim netlist stimulus script) = load_ordered netlist (λ file m. run_walk m stimulus script)
walk_of (audit netlist) = load_ordered netlist (λ file m. end)
walk_of (campaign settings netlist stimulus cycle) = guard_walk settings netlist (λ file s m l. stimulus_walk m stimulus)
walk_of (demo size) = end

-- ---- verdicts

-- The verdict of a command.
abbrev pub IsVerdict : Command → Contents → Verdict → Type 0
IsVerdict command contents verdict = ComesTo (walk_of command) contents verdict

-- A pair of files is accepted where all steps of a guard over them pass.
abbrev pub IsAccepted : Contents → List ℕ → List ℕ → Type 0
IsAccepted contents settings netlist = ComesTo (guard_walk settings netlist (λ file s m l. end)) contents passes

-- ---- texts

-- The report on the code of the settings.
pub record IsReportText (bytes text : List ℕ) : Type 0 where
  pub s : Settings
  pub is_settings : settings_of_bytes bytes ≡ Ok s
  pub is_report : IsReport s.code text

-- The lines of a simulation: the netlist is read as a file, the stimulus as a stream for its data inputs, and the script as
-- a fault list for its cells, and the text is that of the run.
pub record IsSimText (netlist stimulus script text : List ℕ) : Type 0 where
  pub file : File
  pub reads : Reads netlist file
  pub model : Model
  pub is_main : main_model file ≡ Some model
  pub xs : Stream
  pub is_stream : stimulus_of (length (data_inputs model)) stimulus ≡ Ok xs
  pub faults : List Fault
  pub is_script : script_of (cell_nets model) script ≡ Ok faults
  pub is_run : IsRunText file xs faults text

-- The netlist is read as a file, and the text is one of this kind for it.
pub record IsTextOfFile (IsText : File → List ℕ → Type 0) (netlist text : List ℕ) : Type 0 where
  pub file : File
  pub reads : Reads netlist file
  pub is_text : IsText file text

-- A text that the command may write over these contents, where its verdict passes and it finds nothing.
abbrev pub IsDoneText : Command → Contents → List ℕ → Type 0
IsDoneText (flat netlist) contents text = IsSomeAnd (contents netlist) (λ bytes. IsFlatText bytes text empty_library)
IsDoneText (code settings) contents text = IsSomeAnd (contents settings) (λ bytes. IsReportText bytes text)
IsDoneText (guard settings netlist) contents text =
    IsSomeAnd (contents settings) (λ given. IsSomeAnd (contents netlist) (λ bytes. IsGuardText given bytes text (λ t. IsSteady t)))
IsDoneText (sim netlist stimulus script) contents text =
    IsSomeAnd (contents netlist) (λ bytes. IsSomeAnd (contents stimulus) (λ rows. IsSomeAnd (contents script) (λ entries.
    IsSimText bytes rows entries text)))
IsDoneText (audit netlist) contents text = IsSomeAnd (contents netlist) (λ bytes. IsTextOfFile IsIndependentText bytes text)
IsDoneText (campaign settings netlist stimulus cycle) contents text =
    IsSomeAnd (contents settings) (λ given. IsSomeAnd (contents netlist) (λ bytes. IsSomeAnd (contents stimulus) (λ rows.
    IsCampaignText given bytes rows text cycle (λ t. IsSteady t))))
IsDoneText (demo size) contents text = IsDemoText size text (λ t. IsSteady t)

-- Whether a command can find something.
abbrev pub MayFind : Command → Type 0
MayFind (audit netlist) = ⊤
MayFind _ = ⊥

-- A text that it may write where it does.
abbrev pub IsFoundText : Command → Contents → List ℕ → Type 0
IsFoundText (audit netlist) contents text = IsSomeAnd (contents netlist) (λ bytes. IsTextOfFile IsFindingText bytes text)
IsFoundText _ contents text = ⊥

-- one or the other
abbrev pub IsTextFor : Command → Contents → List ℕ → Type 0
IsTextFor command contents text = IsDoneText command contents text ⊎ IsFoundText command contents text
