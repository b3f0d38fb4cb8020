-- What holds of the three texts of the design.
use Rattle.std.specs.Prelude.{◌≡◌, ℕ, ◌+◌, ◌*◌, ◌≤◌, List, length, Some, None, Ok}
use Rattle.netlist_spec.specs.Models.{data_inputs, latches_of}
use Rattle.netlist_spec.specs.Reads.{Reads}
use Rattle.netlist_spec.specs.Sound.{IsSound}
use Rattle.stimulus_spec.specs.Stimulus.{stimulus_of}
use Rattle.guard_spec.specs.Plain.{IsPlain}
use Rattle.guard_spec.specs.SettingsFile.{settings_of_bytes}
use Rattle.guard_spec.specs.Words.{IsLayout, layout_fault}
use Rattle.program_spec.specs.Demo.{demo_settings, demo_stream}
use Rattle.program_spec.specs.Verdict.{IsAccepted}
use Rattle.program_spec.specs.Walk.{Contents}
use Rattle.demo_laws.specs.DemoFile.{demo_file, demo_layout, demo_model}

-- Files that hold these two texts, under any names, are a pair that is accepted.
abbrev pub IsAcceptedPair : (settings netlist : List ℕ) → Type 0
IsAcceptedPair settings netlist =
    (contents : Contents) (settings_name netlist_name : List ℕ) → contents settings_name ≡ Some settings → contents netlist_name ≡ Some netlist
    → IsAccepted contents settings_name netlist_name

-- The three texts are read as the file, the settings and the stream of the design of size n.
pub record AreRead (n : ℕ) (settings netlist stimulus : List ℕ) : Type 0 where
  pub file : Reads netlist (demo_file n)
  pub settings_are : settings_of_bytes settings ≡ Ok demo_settings
  pub stream : stimulus_of (length (data_inputs (demo_model n))) stimulus ≡ Ok (demo_stream n)

-- The design of size n is sound with the library of its settings and laid out in words of four. It has 13 n statements, 4 n of
-- them latches, and the plain size of its guard is 4720 n + 4, which is at most 302,084.
pub record IsWholeDesign (n : ℕ) : Type 0 where
  pub sound : IsSound (demo_file n) demo_settings.library
  pub laid_out : IsLayout (demo_model n) demo_settings (demo_layout n)
  pub no_fault : layout_fault (demo_model n) demo_settings ≡ None
  pub statements : length (demo_model n).statements ≡ 13 * n
  pub latches : length (latches_of (demo_model n)) ≡ 4 * n
  pub plain : IsPlain (demo_file n) demo_settings.library (demo_model n) demo_settings.code demo_settings.mode demo_settings.bound (demo_layout n) (4720 * n + 4)
  pub small : 4720 * n + 4 ≤ 302084
