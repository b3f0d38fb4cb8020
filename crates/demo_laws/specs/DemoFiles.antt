-- The texts of the demo design beside its netlist.
use Rattle.std.specs.Prelude.{ℕ, List, [], ◌∷◌, ◌++◌, map, codes}
use Rattle.std.specs.List.{flat_map}
use Rattle.netlist_spec.specs.Statements.{bit_char}
use Rattle.netlist_spec.specs.SourceRun.{Bits}
use Rattle.program_spec.specs.Demo.{demo_stream}

-- a text of its settings
abbrev pub demo_settings_text : List ℕ
demo_settings_text =
    codes "mode = \"detect\"\nbound = 3\ncheck = [\"0111\", \"1011\", \"1101\", \"1110\"]\n\n[sbox.present]\ninputs = 4\noutputs = 4\nvalues = [12, 5, 6, 11, 9, 0, 10, 13, 3, 14, 15, 8, 4, 7, 1, 2]\n"

-- a line for each cycle
abbrev pub cycle_text : Bits → List ℕ
cycle_text x = map bit_char x ++ 10 ∷ []

abbrev pub demo_stimulus : ℕ → List ℕ
demo_stimulus n = flat_map cycle_text (demo_stream n)
