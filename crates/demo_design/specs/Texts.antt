-- The lines of the netlist of the design, kind by kind, as texts.
use Rattle.std.specs.Prelude.{ℕ, ◌+◌, ◌*◌, List, ◌∷◌, ◌++◌, codes, Some}
use Rattle.std.specs.List.{flat_map, range_with_len}
use Rattle.netlist_spec.specs.Netlist.{plain}
use Rattle.netlist_spec.specs.Statements.{model_line, inputs_line, outputs_line, latch_line, subckt_line, bind_word}
use Rattle.netlist_spec.specs.Text.{line_text}
use Rattle.program_spec.specs.Demo.{numbered, bind, box_binds, choice_lines, copy_lines}
use Rattle.demo_laws.specs.DemoFile.{input_names, output_names, next, stored}

-- names with this letter and these numbers, each behind a space
abbrev pub names_text : ℕ → List ℕ → List ℕ
names_text letter is = flat_map (λ i. 32 ∷ numbered letter i) is

-- the name of the model and its ports
abbrev pub head_text : ℕ → List ℕ
head_text n = line_text (model_line (codes "demo")) ++ line_text (inputs_line (input_names n)) ++ line_text (outputs_line (output_names n))

abbrev pub latch_text : ℕ → List ℕ
latch_text i = line_text (latch_line (next i) (stored i) plain (Some 0))

-- port i of the S-box over the four bits from place 4j on
abbrev pub port_text : (port letter j i : ℕ) → List ℕ
port_text port letter j i = 32 ∷ bind_word (bind (numbered port i) (numbered letter (4 * j + i)))

abbrev pub ports_text : (port letter j : ℕ) → List ℕ
ports_text port letter j = flat_map (port_text port letter j) (range_with_len 0 4)

abbrev pub box_text : ℕ → List ℕ
box_text j = line_text (subckt_line (codes "present") (box_binds j))

-- the choice between a loaded bit and a moved one, with its rows
abbrev pub choice_text : (n i : ℕ) → List ℕ
choice_text n i = flat_map line_text (choice_lines n i)

-- an output and its row
abbrev pub copy_text : ℕ → List ℕ
copy_text i = flat_map line_text (copy_lines i)
