-- The tests that commands make, each with what it finds and what it refuses.
use Rattle.std.specs.Prelude.{◌≡◌, ℕ, ◌<◌, ◌≤◌, List, length, Option, Some, None, Result, Ok, Err}
use Rattle.netlist_spec.specs.Netlist.{Model, File}
use Rattle.netlist_spec.specs.Covers.{Library}
use Rattle.netlist_spec.specs.Models.{main_model, data_inputs}
use Rattle.netlist_spec.specs.Reads.{Reads}
use Rattle.netlist_spec.specs.ReadFaults.{read_fault}
use Rattle.netlist_spec.specs.Sound.{IsSound}
use Rattle.netlist_spec.specs.SoundFaults.{SoundFault, IsRefusedWith}
use Rattle.netlist_spec.specs.Ordered.{order_fault, cell_nets}
use Rattle.netlist_spec.specs.SourceRun.{Stream}
use Rattle.netlist_spec.specs.Runs.{Fault}
use Rattle.guard_spec.specs.Codes.{detect, correct, needed_distance, IsDistance}
use Rattle.guard_spec.specs.Words.{Settings, Layout, IsLayout, layout_fault}
use Rattle.guard_spec.specs.Plain.{IsPlain}
use Rattle.guard_spec.specs.SettingsFile.{settings_of_bytes}
use Rattle.stimulus_spec.specs.Stimulus.{stimulus_of, script_of}
use Rattle.program_spec.specs.Refusals.{Refusal, unreadable, bad_settings, too_small, unsound, bad_layout, guard_too_large, out_of_order, bad_stimulus, bad_script_line}
use Rattle.program_spec.specs.Walk.{Test}

-- A test that finds nothing passes or refuses.
abbrev pub Nothing : Type 0
Nothing = Unit {0}

-- the refusal is that of the fault, if there is one
abbrev pub IsToldOf : (F : Type 0) → Option F → (F → Refusal) → Refusal → Type 0
IsToldOf F fault told refusal = (f : F) × (fault ≡ Some f) × (refusal ≡ told f)

-- a value or a fault, whichever a function gives
abbrev pub gives : (A F : Type 0) → Result A F → (F → Refusal) → Test A
gives A F answer told =
    record {
      Finds = λ found. answer ≡ Ok found;
      Refuses = λ refusal. (f : F) × (answer ≡ Err f) × (refusal ≡ told f);
    }

-- The bytes are read as a file, or refused with a line.
abbrev pub reading : List ℕ → Test File
reading bytes =
    record {
      Finds = λ file. Reads bytes file;
      Refuses = λ refusal. IsToldOf _ (read_fault bytes) unreadable refusal;
    }

-- The file is sound with the library, or refused.
abbrev pub soundness : File → Library → Test Nothing
soundness file library =
    record {
      Finds = λ found. IsSound file library;
      Refuses = λ refusal. (f : SoundFault) × IsRefusedWith file library f × (refusal ≡ unsound f);
    }

abbrev pub settings_in : List ℕ → Test Settings
settings_in bytes = gives _ _ (settings_of_bytes bytes) bad_settings

-- The distance is at least what the mode and the bound ask for.
abbrev pub strength : Settings → Test Nothing
strength s =
    record {
      Finds = λ found. (d : ℕ) × IsDistance s.code d × (needed_distance s.mode s.bound ≤ d);
      Refuses = λ refusal.
          (d : ℕ) × IsDistance s.code d × (d < needed_distance s.mode s.bound)
          × (refusal ≡ too_small d (needed_distance s.mode s.bound));
    }

-- the main model of a file, which is not empty where it was read
abbrev pub main_of : File → Test Model
main_of file = record { Finds = λ m. main_model file ≡ Some m; Refuses = λ refusal. ⊥ }

-- The words of the settings fit the model.
abbrev pub words_of : Model → Settings → Test Layout
words_of m s =
    record {
      Finds = λ l. (layout_fault m s ≡ None) × IsLayout m s l;
      Refuses = λ refusal. IsToldOf _ (layout_fault m s) bad_layout refusal;
    }

-- The plain size is at most 1,000,000.
abbrev pub smallness : File → Settings → Model → Layout → Test Nothing
smallness file s m l =
    record {
      Finds = λ found. (n : ℕ) × IsPlain file s.library m s.code s.mode s.bound l n × (n ≤ 1000000);
      Refuses = λ refusal.
          (n : ℕ) × IsPlain file s.library m s.code s.mode s.bound l n × (1000000 < n) × (refusal ≡ guard_too_large);
    }

-- The lines of the main model stand in an order in which they can be evaluated.
abbrev pub order_of : File → Test Nothing
order_of file =
    record {
      Finds = λ found. order_fault file ≡ None;
      Refuses = λ refusal. IsToldOf _ (order_fault file) out_of_order refusal;
    }

abbrev pub stimulus_in : Model → List ℕ → Test Stream
stimulus_in m bytes = gives _ _ (stimulus_of (length (data_inputs m)) bytes) bad_stimulus

abbrev pub script_in : Model → List ℕ → Test (List Fault)
script_in m bytes = gives _ _ (script_of (cell_nets m) bytes) bad_script_line
