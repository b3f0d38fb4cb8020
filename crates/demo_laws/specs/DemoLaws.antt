-- What holds of the demo design of each size from 1 to 64.
use Rattle.std.specs.Prelude.{◌≡◌, ℕ, ◌+◌, ◌*◌, ◌≤◌, List, length, Some, None, Ok}
use Rattle.netlist_spec.specs.Models.{latches_of, data_inputs, output_nets}
use Rattle.stimulus_spec.specs.Stimulus.{stimulus_of}
use Rattle.netlist_spec.specs.Size.{whole_cost}
use Rattle.netlist_spec.specs.Sound.{IsSound}
use Rattle.guard_spec.specs.Plain.{IsPlain}
use Rattle.guard_spec.specs.Words.{Layout, IsLayout, layout_fault}
use Rattle.netlist_spec.specs.Reads.{Reads}
use Rattle.program_spec.specs.Commands.{other_limit}
use Rattle.guard_spec.specs.SettingsFile.{settings_of_bytes}
use Rattle.program_spec.specs.Walk.{Contents}
use Rattle.program_spec.specs.Verdict.{IsAccepted}
use Rattle.program_spec.specs.Demo.{demo_settings, demo_netlist, demo_stream}
use Rattle.demo_laws.specs.DemoFile.{input_names, output_names, demo_file, demo_model, demo_layout}
use Rattle.demo_laws.specs.DemoFiles.{demo_settings_text, demo_stimulus}

abbrev pub IsDemoSize : ℕ → Type 0
IsDemoSize n = (1 ≤ n) × (n ≤ 64)

-- The file is sound with the library of the settings.
abbrev pub DemoIsSound : ℕ → Type 0
DemoIsSound n = IsDemoSize n → IsSound (demo_file n) demo_settings.library

-- It has 13 n statements, 4 n of them latches.
abbrev pub DemoHasCounts : ℕ → Type 0
DemoHasCounts n = IsDemoSize n → (length (demo_model n).statements ≡ 13 * n) × (length (latches_of (demo_model n)) ≡ 4 * n)

-- A box costs 256, a choice 18 and a copy 6.
abbrev pub DemoHasCost : ℕ → Type 0
DemoHasCost n = whole_cost (demo_file n) demo_settings.library ≡ 352 * n

-- The plain size of its guard, which is at most 302,084.
abbrev pub DemoHasPlainSize : ℕ → Type 0
DemoHasPlainSize n =
    IsDemoSize n
    → IsPlain (demo_file n) demo_settings.library (demo_model n) demo_settings.code demo_settings.mode demo_settings.bound (demo_layout n) (4720 * n + 4) × (4720 * n + 4 ≤ 302084)

-- Without words in the settings, latches and outputs are taken four at a time, and nothing is wrong with that.
abbrev pub DemoIsLaidOut : ℕ → Type 0
DemoIsLaidOut n = IsDemoSize n → IsLayout (demo_model n) demo_settings (demo_layout n) × (layout_fault (demo_model n) demo_settings ≡ None)

-- The netlist is read as the file.
abbrev pub DemoIsRead : ℕ → Type 0
DemoIsRead n = IsDemoSize n → Reads (demo_netlist n) (demo_file n)

-- It has at most 8,000,000 bytes.
abbrev pub DemoIsShort : ℕ → Type 0
DemoIsShort n = IsDemoSize n → length (demo_netlist n) ≤ 8000000

-- Files that hold a text of the settings and the netlist are a pair that is accepted.
abbrev pub DemoIsAccepted : ℕ → Contents → (settings netlist text : List ℕ) → Type 0
DemoIsAccepted n contents settings netlist text =
    IsDemoSize n → contents settings ≡ Some text → length text ≤ other_limit → settings_of_bytes text ≡ Ok demo_settings → contents netlist ≡ Some (demo_netlist n)
    → IsAccepted contents settings netlist

-- No other layout is of these settings.
abbrev pub DemoHasOneLayout : ℕ → Layout → Type 0
DemoHasOneLayout n l = IsLayout (demo_model n) demo_settings l → l ≡ demo_layout n

-- Its data inputs and output nets are the names of `.inputs` and `.outputs`.
abbrev pub DemoHasPorts : ℕ → Type 0
DemoHasPorts n = (data_inputs (demo_model n) ≡ input_names n) × (output_nets (demo_model n) ≡ output_names n)

-- Its stimulus is read as its stream.
abbrev pub DemoHasStimulus : ℕ → Type 0
DemoHasStimulus n = stimulus_of (length (data_inputs (demo_model n))) (demo_stimulus n) ≡ Ok (demo_stream n)

-- So these two texts are a pair that is accepted.
abbrev pub DemoTextsAreAccepted : ℕ → Contents → (settings netlist : List ℕ) → Type 0
DemoTextsAreAccepted n contents settings netlist =
    IsDemoSize n → contents settings ≡ Some demo_settings_text → contents netlist ≡ Some (demo_netlist n) → IsAccepted contents settings netlist
