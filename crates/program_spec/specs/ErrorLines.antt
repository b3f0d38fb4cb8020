-- What a run of the program may come to, and the line that it puts to its error output.
use Rattle.std.specs.Prelude.{ℕ, List, [], ◌∷◌, ◌++◌, codes, decimal, Option, Some, None}
use Rattle.std.specs.List.{flat_map}
use Rattle.netlist_spec.specs.ReadFaults.{ReadFault, unknown_statement, bad_row, mixed_cover, bad_latch, no_model, long_name, too_many, twice_model, bad_subckt, after_end, word_count}
use Rattle.guard_spec.specs.SettingsFile.{SettingsFault, not_toml, missing, bad_value, unknown_key, bad_shape}
use Rattle.netlist_spec.specs.SoundFaults.{SoundFault, twice, no_such_model, bad_port, recursion, latch_inside, too_deep, undriven, bad_clocking, loop, reserved, too_large}
use Rattle.guard_spec.specs.Words.{LayoutFault, no_such_net, in_two_words, not_in_a_word}
use Rattle.netlist_spec.specs.Ordered.{OrderFault, unordered, has_subckt}
use Rattle.stimulus_spec.specs.Stimulus.{ScriptFault, bad_script, no_such_cell, more_than_sixteen}
use Rattle.program_spec.specs.Refusals.{Refusal, file_too_long, unreadable, bad_settings, too_small, unsound, bad_layout, guard_too_large, out_of_order, bad_stimulus, bad_script_line}
use Rattle.netlist_spec.specs.Escapes.{escaped, quantity_word}

-- `B2 line 3 bad row`
abbrev pub at_line : List ℕ → ℕ → List ℕ → List ℕ
at_line number line text = number ++ codes " line " ++ decimal line ++ 32 ∷ text

abbrev pub read_fault_text : ReadFault → List ℕ
read_fault_text (unknown_statement line word) = at_line (codes "B1") line (codes "unknown statement " ++ escaped word)
read_fault_text (bad_row line) = at_line (codes "B2") line (codes "bad row")
read_fault_text (mixed_cover line) = at_line (codes "B3") line (codes "mixed cover")
read_fault_text (bad_latch line) = at_line (codes "B4") line (codes "bad latch")
read_fault_text (no_model line) = at_line (codes "B5") line (codes "no model")
read_fault_text (long_name line) = at_line (codes "B6") line (codes "long name")
read_fault_text (too_many line what) = at_line (codes "B7") line (codes "too many " ++ quantity_word what)
read_fault_text (twice_model line name) = at_line (codes "B8") line (codes "model twice " ++ escaped name)
read_fault_text (bad_subckt line) = at_line (codes "B9") line (codes "bad subckt")
read_fault_text (after_end line) = at_line (codes "B10") line (codes "after end")
read_fault_text (word_count line) = at_line (codes "B11") line (codes "word count")

abbrev pub settings_fault_text : SettingsFault → List ℕ
settings_fault_text not_toml = codes "S1 settings are not TOML"
settings_fault_text (missing key) = codes "S2 missing " ++ escaped key
settings_fault_text (bad_value key) = codes "S3 bad value " ++ escaped key
settings_fault_text (unknown_key key) = codes "S4 unknown key " ++ escaped key
settings_fault_text bad_shape = codes "C1 bad check matrix"

abbrev pub sound_fault_text : SoundFault → List ℕ
sound_fault_text (twice net) = codes "E1 twice " ++ escaped net
sound_fault_text (no_such_model name) = codes "E2 no such model " ++ escaped name
sound_fault_text (bad_port model formal) = codes "E3 bad port " ++ escaped model ++ 32 ∷ escaped formal
sound_fault_text (recursion model) = codes "E4 recursion " ++ escaped model
sound_fault_text (latch_inside model) = codes "E5 latch inside " ++ escaped model
sound_fault_text (too_deep model) = codes "E6 too deep " ++ escaped model
sound_fault_text (undriven net) = codes "E7 undriven " ++ escaped net
sound_fault_text (bad_clocking net) = codes "E8 clocking " ++ escaped net
sound_fault_text (loop nets) = codes "E9 loop" ++ flat_map (λ n. 32 ∷ escaped n) nets
sound_fault_text (reserved name) = codes "E10 reserved " ++ escaped name
sound_fault_text (too_large what) = codes "E11 too large " ++ quantity_word what

abbrev pub layout_fault_text : LayoutFault → List ℕ
layout_fault_text (no_such_net name) = codes "L1 no such net " ++ escaped name
layout_fault_text (in_two_words name) = codes "L2 in two words " ++ escaped name
layout_fault_text (not_in_a_word name) = codes "L3 in no word " ++ escaped name

abbrev pub order_fault_text : OrderFault → List ℕ
order_fault_text (unordered line) = at_line (codes "M1") line (codes "unordered")
order_fault_text (has_subckt line) = at_line (codes "M2") line (codes "has subckt")

abbrev pub script_fault_text : ScriptFault → List ℕ
script_fault_text (bad_script line) = at_line (codes "M4") line (codes "bad script")
script_fault_text (no_such_cell line) = at_line (codes "M5") line (codes "no such cell")
script_fault_text (more_than_sixteen line) = at_line (codes "M6") line (codes "more than sixteen")

abbrev pub refusal_text : Refusal → List ℕ
refusal_text (file_too_long name) = codes "F1 file too long " ++ escaped name
refusal_text (unreadable fault) = read_fault_text fault
refusal_text (bad_settings fault) = settings_fault_text fault
refusal_text (too_small d need) = codes "S5 distance " ++ decimal d ++ codes " below " ++ decimal need
refusal_text (unsound fault) = sound_fault_text fault
refusal_text (bad_layout fault) = layout_fault_text fault
refusal_text guard_too_large = codes "G1 guard too large"
refusal_text (out_of_order fault) = order_fault_text fault
refusal_text (bad_stimulus line) = at_line (codes "M3") line (codes "bad stimulus")
refusal_text (bad_script_line fault) = script_fault_text fault

abbrev pub usage_text : List ℕ
usage_text = codes "usage: flat NETLIST, code SETTINGS, guard SETTINGS NETLIST, sim NETLIST STIMULUS SCRIPT, audit NETLIST, campaign SETTINGS NETLIST STIMULUS CYCLE, demo N"

abbrev pub cannot_read_text : List ℕ → List ℕ
cannot_read_text name = codes "cannot read " ++ escaped name

abbrev pub cannot_write_text : List ℕ
cannot_write_text = codes "cannot write"

abbrev pub no_memory_text : List ℕ
no_memory_text = codes "no memory"

-- the whole line
abbrev pub error_line : List ℕ → List ℕ
error_line text = codes "impeccable: " ++ text ++ 10 ∷ []

-- Done, and a finding of an audit, are successes. A read fault has the name of the file that couldn't be loaded.
pub data Answer : Type 0 where
  done : Answer
  found : Answer
  usage : Answer
  refused : (refusal : Refusal) → Answer
  read_fault : (name : List ℕ) → Answer
  write_fault : Answer
  no_memory : Answer

-- The line of an answer. One that is done, and a finding, have none.
abbrev pub answer_line : Answer → Option (List ℕ)
answer_line done = None
answer_line found = None
answer_line usage = Some (error_line usage_text)
answer_line (refused refusal) = Some (error_line (refusal_text refusal))
answer_line (read_fault name) = Some (error_line (cannot_read_text name))
answer_line write_fault = Some (error_line cannot_write_text)
answer_line no_memory = Some (error_line no_memory_text)
