-- The lines of a written gate list.
use Rattle.std.specs.Prelude.{ℕ, true, List, [], ◌∷◌, ◌++◌, map, length, codes}
use Rattle.std.specs.List.{flat_map, enumerate_from}
use Rattle.netlist_spec.specs.Netlist.{Name, Row}
use Rattle.netlist_spec.specs.Statements.{Said, row_line, bit_char, clocking_words}
use Rattle.netlist_spec.specs.Text.{line_text, row_cells, unknown_line}
use Rattle.netlist_spec.specs.Gates.{GateForm, LatchRow, gate_reads, gate_rows}
use Rattle.netlist_spec.specs.Written.{Named, net_name, output_names}

-- a line of a word and a name, which a space separates
abbrev pub line_of : List ℕ → Name → List ℕ
line_of front name = front ++ name ++ 10 ∷ []

abbrev pub lines_of : List ℕ → List Name → List ℕ
lines_of front names = flat_map (line_of front) names

-- words behind others
abbrev pub spaced : List (List ℕ) → List ℕ
spaced words = flat_map (λ (w : List ℕ). 32 ∷ w) words

-- a latch and the number of its net
abbrev pub latch_text : Named → ℕ × LatchRow → List ℕ
latch_text g l =
    codes ".latch" ++ (32 ∷ net_name g l.1.d) ++ (32 ∷ net_name g l.0) ++ spaced (clocking_words g.clocking)
    ++ (32 ∷ bit_char l.1.init ∷ 10 ∷ [])

-- the rows of a cover of that many inputs
abbrev pub row_said : ℕ → Row → Said
row_said inputs row = row_line (row_cells inputs row) true

abbrev pub rows_text : ℕ → List Row → List ℕ
rows_text inputs rows = flat_map (λ row. line_text (row_said inputs row)) rows

abbrev pub gate_rows_text : GateForm → List ℕ
gate_rows_text gate = rows_text (length (gate_reads gate)) (gate_rows gate)

-- a gate and the number of its net
abbrev pub names_text : Named → ℕ × GateForm → List ℕ
names_text g p = codes ".names" ++ spaced (map (net_name g) (gate_reads p.1)) ++ (32 ∷ net_name g p.0) ++ 10 ∷ []

abbrev pub gate_text : Named → ℕ × GateForm → List ℕ
gate_text g p = names_text g p ++ gate_rows_text p.1

-- the first two lines
abbrev pub head_text : Named → List ℕ
head_text g = unknown_line g.unknown_inits ++ line_of (codes ".model ") g.model

abbrev pub ports_text : Named → List ℕ
ports_text g =
    lines_of (codes ".inputs ") g.inputs ++ lines_of (codes ".outputs ") (output_names g) ++ lines_of (codes ".clock ") g.clocks

abbrev pub latches_text : Named → List ℕ
latches_text g = flat_map (latch_text g) (enumerate_from g.data_inputs g.latches)

abbrev pub gates_text : Named → List ℕ
gates_text g = flat_map (gate_text g) (enumerate_from g.net.leaves g.net.gates)

-- all lines
abbrev pub named_text : Named → List ℕ
named_text g = head_text g ++ ports_text g ++ latches_text g ++ gates_text g ++ (codes ".end" ++ 10 ∷ [])
