-- The lines of a gate list are the text of its file.
use Rattle.std.proofs.Common.{◌≡◌, ℕ, List, [], ◌∷◌, ◌++◌, length, map, Bool, true, false, refl, sym, ap, ◌∙◌, append_assoc, append-nil, codes, filter_map}
use Rattle.std.specs.Prelude.{◌+◌}
use Rattle.std.specs.List.{flat_map}
use Rattle.std.proofs.lemmas.Grind.{flat_map-append}
use Rattle.netlist_spec.specs.Netlist.{Name, Clocking, plain, edge, Row, Located}
use Rattle.netlist_spec.specs.Statements.{Said, inputs_line, outputs_line, clock_line, end_line, latch_line, names_line, row_line, clocking_words, edge_word, control_word, bit_char}
use Rattle.netlist_spec.specs.Models.{Latch, as_latch, Gate, as_gate}
use Rattle.netlist_spec.specs.Gates.{GateForm, constant, one, two, LatchRow, gate_reads, gate_rows}
use Rattle.netlist_spec.specs.Text.{line_text, row_cells, cover_lines, latch_said, unknown_line, text_of}
use Rattle.netlist_spec.specs.Written.{Named, IsNamed, net_name, output_names, ports_from, file_of, latch_statements, gate_statements, statements_from, written_init_of}
use Rattle.blif_write.specs.Lines.{line_of, lines_of, spaced, latch_text, names_text, row_said, rows_text, gate_text, latches_text, gates_text, named_text}
use Rattle.named_netlist.proofs.NamedFiles.{names-back, latch_at, gate_at, latches-of, gates-of, numbered_latches, numbered_gates}

-- lines of one name each
name_lines : (front : List ℕ) (f : Name → Said) → ((n : Name) → line_text (f n) ≡ line_of front n) → (ns : List Name) → flat_map line_text (map f ns) ≡ lines_of front ns
name_lines front f same [] = refl
name_lines front f same (n ∷ ns) =
    ap (λ l. l ++ flat_map line_text (map f ns)) (same n) ∙ ap (λ l. line_of front n ++ l) (name_lines front f same ns)

-- the line of a latch, by its words
plain_line : (p d q b z : List ℕ) → (p ++ (d ++ (q ++ b))) ++ z ≡ (((p ++ d) ++ q) ++ []) ++ (b ++ z)
plain_line p d q b z = simp (append_assoc, append-nil)

edge_line : (p d q e k b z : List ℕ) → (p ++ (d ++ (q ++ (e ++ (k ++ b))))) ++ z ≡ (((p ++ d) ++ q) ++ (e ++ (k ++ []))) ++ (b ++ z)
edge_line p d q e k b z = simp (append_assoc, append-nil)

latch_line_text : (d q : Name) (clocking : Clocking) (init : Bool) → line_text (latch_line d q clocking (written_init_of init)) ≡ codes ".latch" ++ (32 ∷ d) ++ (32 ∷ q) ++ spaced (clocking_words clocking) ++ (32 ∷ bit_char init ∷ 10 ∷ [])
latch_line_text d q plain true = plain_line (codes ".latch") (32 ∷ d) (32 ∷ q) (32 ∷ 49 ∷ []) (10 ∷ [])
latch_line_text d q plain false = plain_line (codes ".latch") (32 ∷ d) (32 ∷ q) (32 ∷ 48 ∷ []) (10 ∷ [])
latch_line_text d q (edge rising control) true = edge_line (codes ".latch") (32 ∷ d) (32 ∷ q) (32 ∷ edge_word rising) (32 ∷ control_word control) (32 ∷ 49 ∷ []) (10 ∷ [])
latch_line_text d q (edge rising control) false = edge_line (codes ".latch") (32 ∷ d) (32 ∷ q) (32 ∷ edge_word rising) (32 ∷ control_word control) (32 ∷ 48 ∷ []) (10 ∷ [])

latch_lines : (g : Named) (ls : List (ℕ × LatchRow)) → flat_map line_text (map latch_said (map (latch_at g) ls)) ≡ flat_map (latch_text g) ls
latch_lines g [] = refl
latch_lines g (l ∷ ls) =
    ap (λ t. t ++ flat_map line_text (map latch_said (map (latch_at g) ls))) (latch_line_text (net_name g l.1.d) (net_name g l.0) g.clocking l.1.init)
    ∙ ap (λ t. latch_text g l ++ t) (latch_lines g ls)

-- the lines of a gate
no_read : (p y z : List ℕ) → (p ++ y) ++ z ≡ ((p ++ []) ++ y) ++ z
no_read p y z = simp append-nil

one_read : (p a y z : List ℕ) → (p ++ (a ++ y)) ++ z ≡ ((p ++ (a ++ [])) ++ y) ++ z
one_read p a y z = simp (append_assoc, append-nil)

two_reads : (p a b y z : List ℕ) → (p ++ (a ++ (b ++ y))) ++ z ≡ ((p ++ (a ++ (b ++ []))) ++ y) ++ z
two_reads p a b y z = simp (append_assoc, append-nil)

names_line_text : (g : Named) (n : ℕ) (gate : GateForm) → line_text (names_line (map (net_name g) (gate_reads gate)) (net_name g n)) ≡ names_text g (n, gate)
names_line_text g n (constant b) = no_read (codes ".names") (32 ∷ net_name g n) (10 ∷ [])
names_line_text g n (one inv a) = one_read (codes ".names") (32 ∷ net_name g a) (32 ∷ net_name g n) (10 ∷ [])
names_line_text g n (two op a b) = two_reads (codes ".names") (32 ∷ net_name g a) (32 ∷ net_name g b) (32 ∷ net_name g n) (10 ∷ [])

row_lines : (inputs : ℕ) (rows : List Row) → flat_map line_text (map (λ row. row_line (row_cells inputs row) true) rows) ≡ rows_text inputs rows
row_lines inputs [] = refl
row_lines inputs (row ∷ rows) = ap (λ t. line_text (row_said inputs row) ++ t) (row_lines inputs rows)

same_count : (g : Named) (gate : GateForm) → length (map (net_name g) (gate_reads gate)) ≡ length (gate_reads gate)
same_count g (constant b) = refl
same_count g (one inv a) = refl
same_count g (two op a b) = refl

gate_line_text : (g : Named) (p : ℕ × GateForm) → flat_map line_text (cover_lines (gate_at g p)) ≡ gate_text g p
gate_line_text g p =
    ap (λ t. t ++ flat_map line_text (map (λ row. row_line (row_cells (length (map (net_name g) (gate_reads p.1))) row) true) (gate_rows p.1))) (names_line_text g p.0 p.1)
    ∙ ap (λ (inputs : ℕ). names_text g p ++ flat_map line_text (map (λ row. row_line (row_cells inputs row) true) (gate_rows p.1))) (same_count g p.1)
    ∙ ap (λ t. names_text g p ++ t) (row_lines (length (gate_reads p.1)) (gate_rows p.1))

gate_lines : (g : Named) (ps : List (ℕ × GateForm)) → flat_map line_text (flat_map cover_lines (map (gate_at g) ps)) ≡ flat_map (gate_text g) ps
gate_lines g [] = refl
gate_lines g (p ∷ ps) =
    flat_map-append line_text (cover_lines (gate_at g p)) (flat_map cover_lines (map (gate_at g) ps))
    ∙ ap (λ t. t ++ flat_map line_text (flat_map cover_lines (map (gate_at g) ps))) (gate_line_text g p)
    ∙ ap (λ t. gate_text g p ++ t) (gate_lines g ps)

-- all lines
spread : (a b c d e : List Said) → flat_map line_text (a ++ b ++ c ++ d ++ e ++ end_line ∷ []) ≡ flat_map line_text a ++ flat_map line_text b ++ flat_map line_text c ++ flat_map line_text d ++ flat_map line_text e ++ line_text end_line
spread a b c d e =
    flat_map-append line_text (a ++ b ++ c ++ d ++ e) (end_line ∷ [])
    ∙ ap (λ t. t ++ line_text end_line) (flat_map-append line_text (a ++ b ++ c ++ d) e)
    ∙ ap (λ t. t ++ flat_map line_text e ++ line_text end_line) (flat_map-append line_text (a ++ b ++ c) d)
    ∙ ap (λ t. t ++ flat_map line_text d ++ flat_map line_text e ++ line_text end_line) (flat_map-append line_text (a ++ b) c)
    ∙ ap (λ t. t ++ flat_map line_text c ++ flat_map line_text d ++ flat_map line_text e ++ line_text end_line) (flat_map-append line_text a b)

regroup : (u m i o c d e z : List ℕ) → u ++ (m ++ (i ++ o ++ c ++ d ++ e ++ z)) ≡ (u ++ m) ++ (i ++ o ++ c) ++ d ++ e ++ z
regroup u m i o c d e z = simp append_assoc

same_five : (i o c d e i' o' c' d' e' : List ℕ) → i ≡ i' → o ≡ o' → c ≡ c' → d ≡ d' → e ≡ e' → (z : List ℕ) → i ++ o ++ c ++ d ++ e ++ z ≡ i' ++ o' ++ c' ++ d' ++ e' ++ z
same_five i o c d e i' o' c' d' e' hi ho hc hd he z = cc

-- the lines of the model, kind by kind
abbrev port_lines : (Name → Said) → ℕ → List Name → List Said
port_lines f k ns = map f (map (λ p. p.name) (ports_from k ns))

abbrev statements_at : Named → List Located
statements_at g = statements_from (((3 + length g.inputs) + length g.outputs) + length g.clocks) (latch_statements g ++ gate_statements g)

abbrev latches_said : Named → List Said
latches_said g = map latch_said (filter_map (λ (s : Located). as_latch s.what) (statements_at g))

abbrev gates_said : Named → List Said
gates_said g = flat_map cover_lines (filter_map (λ (s : Located). as_gate s.what) (statements_at g))

ports_said : (front : List ℕ) (f : Name → Said) → ((n : Name) → line_text (f n) ≡ line_of front n) → (k : ℕ) (ns : List Name) → flat_map line_text (port_lines f k ns) ≡ lines_of front ns
ports_said front f same k ns = ap (λ (l : List Name). flat_map line_text (map f l)) (names-back k ns) ∙ name_lines front f same ns

pub text-is : (g : Named) → IsNamed g → named_text g ≡ text_of g.unknown_inits (file_of g)
text-is g named =
    let inputs = port_lines (λ n. inputs_line (n ∷ [])) 3 g.inputs in
    let outputs = port_lines (λ n. outputs_line (n ∷ [])) (3 + length g.inputs) (output_names g) in
    let clocks = port_lines (λ n. clock_line (n ∷ [])) ((3 + length g.inputs) + length g.outputs) g.clocks in
    sym (
    ap (λ t. unknown_line g.unknown_inits ++ (line_of (codes ".model ") g.model ++ t))
    (spread inputs outputs clocks (latches_said g) (gates_said g)
    ∙ same_five (flat_map line_text inputs) (flat_map line_text outputs) (flat_map line_text clocks) (flat_map line_text (latches_said g)) (flat_map line_text (gates_said g))
    (lines_of (codes ".inputs ") g.inputs) (lines_of (codes ".outputs ") (output_names g)) (lines_of (codes ".clock ") g.clocks) (latches_text g) (gates_text g)
    (ports_said (codes ".inputs ") (λ n. inputs_line (n ∷ [])) (λ n. refl) 3 g.inputs)
    (ports_said (codes ".outputs ") (λ n. outputs_line (n ∷ [])) (λ n. refl) (3 + length g.inputs) (output_names g))
    (ports_said (codes ".clock ") (λ n. clock_line (n ∷ [])) (λ n. refl) ((3 + length g.inputs) + length g.outputs) g.clocks)
    (ap (λ (l : List Latch). flat_map line_text (map latch_said l)) (latches-of g named (((3 + length g.inputs) + length g.outputs) + length g.clocks)) ∙ latch_lines g (numbered_latches g))
    (ap (λ (l : List Gate). flat_map line_text (flat_map cover_lines l)) (gates-of g named (((3 + length g.inputs) + length g.outputs) + length g.clocks)) ∙ gate_lines g (numbered_gates g))
    (line_text end_line))
    ∙ regroup (unknown_line g.unknown_inits) (line_of (codes ".model ") g.model) (lines_of (codes ".inputs ") g.inputs) (lines_of (codes ".outputs ") (output_names g)) (lines_of (codes ".clock ") g.clocks) (latches_text g) (gates_text g) (line_text end_line)
    )
