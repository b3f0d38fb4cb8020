-- The lines of a written gate list: that each may follow the one before it, and what they declare.
use Rattle.std.proofs.Common.{◌≡◌, refl, sym, ◌∙◌, ap, ap₂, subst, ℕ, ◌+◌, ◌*◌, List, [], ◌∷◌, ◌++◌, length, map, Bool, true, false, cond, append_assoc, arith}
use Rattle.std.specs.List.{AllByRecursion, flat_map, enumerate_from}
use Rattle.std.proofs.lemmas.List.{length-map}
use Rattle.std.proofs.lemmas.List.FromFn.{length-map-range_with_len}
use Rattle.netlist_spec.specs.Netlist.{Name, Row, Cover, Statement, names, Port, Located}
use Rattle.netlist_spec.specs.Covers.{has_bit}
use Rattle.netlist_spec.specs.Statements.{Cell, Said, inputs_line, outputs_line, clock_line, names_line, row_line, end_line, MayFollow, EachMayFollow}
use Rattle.netlist_spec.specs.Reads.{Numbered, row_of, rows_at, shared_last, cover_of, inputs_in, outputs_in, clocks_in, statements_in, statement_nets, nets_in}
use Rattle.netlist_spec.specs.Text.{cell_at, row_cells, cover_lines, latch_said}
use Rattle.netlist_spec.specs.Gates.{GateForm, constant, one, two, LatchRow, gate_reads, gate_rows, gate_cover, pair_row}
use Rattle.netlist_spec.specs.Written.{Named, net_name, ports_from, statements_from}
use Rattle.netlist_spec.proofs.OneValue.{All_append}
use Rattle.named_netlist.proofs.NamedFiles.{latch_at, gate_at, latch_written, gate_written}
use Rattle.netlist_spec.proofs.FollowingLines.{IsOpen, free_follow, MayComeNext}

-- ---- which line may follow which

abbrev row_lines : ℕ → List Row → List Said
row_lines p rows = map (λ row. row_line (row_cells p row) true) rows

rows_next : (a : Said) (p : ℕ) (rows : List Row) (rest : List Said) → IsOpen a → ((row : Row) → MayFollow a (row_line (row_cells p row) true)) → MayComeNext rest → EachMayFollow (a ∷ (row_lines p rows ++ rest))
rows_next a p [] rest o f r = r a o
rows_next a p (row ∷ rows) rest o f r = (f row, rows_next (row_line (row_cells p row) true) p rows rest tt (λ next. (wide next ∙ sym (wide row), refl)) r)
  where
    wide : (row : Row) → length (row_cells p row) ≡ p
    wide row = length-map-range_with_len (cell_at row) 0 p

module _ (g : Named) where
  abbrev pub gate_lines_of : List (ℕ × GateForm) → List Said
  gate_lines_of ps = flat_map cover_lines (map (gate_at g) ps)

  abbrev read_count : ℕ × GateForm → ℕ
  read_count p = length (map (net_name g) (gate_reads p.1))

  -- the lines of one gate, and those behind it
  one_gate : (p : ℕ × GateForm) (ps : List (ℕ × GateForm)) (rest : List Said)
      → gate_lines_of (p ∷ ps) ++ rest ≡ names_line (map (net_name g) (gate_reads p.1)) (net_name g p.0) ∷ (row_lines (read_count p) (gate_rows p.1) ++ (gate_lines_of ps ++ rest))
  one_gate p ps rest = ap (λ (l : List Said). names_line (map (net_name g) (gate_reads p.1)) (net_name g p.0) ∷ l) (append_assoc (row_lines (read_count p) (gate_rows p.1)) (gate_lines_of ps) rest)

  pub gates_next : (ps : List (ℕ × GateForm)) (rest : List Said) → MayComeNext rest → MayComeNext (gate_lines_of ps ++ rest)
  gates_next [] rest r a o = r a o
  gates_next (p ∷ ps) rest r a o =
      let head : Said = names_line (map (net_name g) (gate_reads p.1)) (net_name g p.0) in
      subst (λ (l : List Said). EachMayFollow (a ∷ l)) (sym (one_gate p ps rest))
      (free_follow a head o tt, rows_next head (read_count p) (gate_rows p.1) (gate_lines_of ps ++ rest) tt (λ row. length-map-range_with_len (cell_at row) 0 (read_count p)) (gates_next ps rest r))

-- ---- the rows of gates come back

abbrev IsBack : ℕ → Row → Type 0
IsBack p row = row_of (row_cells p row) ≡ row

pair_back : (op : ℕ) (a b t : Bool) → IsBack 2 (record { care = 3; value = (cond a 1 0) + 2 * (cond b 1 0) }) → AllByRecursion (IsBack 2) (cond t (record { care = 3; value = (cond a 1 0) + 2 * (cond b 1 0) } ∷ []) [])
pair_back op a b true h = (h, tt)
pair_back op a b false h = tt

rows_back : (gate : GateForm) → AllByRecursion (IsBack (length (gate_reads gate))) (gate_rows gate)
rows_back (constant false) = tt
rows_back (constant true) = (refl, tt)
rows_back (one false a) = (refl, tt)
rows_back (one true a) = (refl, tt)
rows_back (two op a b) =
    All_append (IsBack 2) (pair_row op false false ++ pair_row op false true ++ pair_row op true false) (pair_row op true true)
    (All_append (IsBack 2) (pair_row op false false ++ pair_row op false true) (pair_row op true false)
    (All_append (IsBack 2) (pair_row op false false) (pair_row op false true) (pair_back op false false (has_bit op 0) refl) (pair_back op false true (has_bit op 1) refl))
    (pair_back op true false (has_bit op 2) refl))
    (pair_back op true true (has_bit op 3) refl)

-- ---- what the lines declare

-- some lines declare these nets, ports and statements
pub record Declares (ls : List Numbered) (nets : List Name) (inputs outputs clocks : List Port) (statements : List Located) : Type 0 where
  pub has_nets : flat_map nets_in ls ≡ nets
  pub has_inputs : flat_map inputs_in ls ≡ inputs
  pub has_outputs : flat_map outputs_in ls ≡ outputs
  pub has_clocks : flat_map clocks_in ls ≡ clocks
  pub has_statements : statements_in ls ≡ statements

pub end_declares : (n : ℕ) → Declares (enumerate_from n (end_line ∷ [])) [] [] [] [] []
end_declares n = record { has_nets = refl; has_inputs = refl; has_outputs = refl; has_clocks = refl; has_statements = refl }

module _ (nets : List Name) where
  pub inputs_declare : (ks : List Name) (n : ℕ) (rest : List Said) (outputs clocks : List Port) (statements : List Located)
      → Declares (enumerate_from (n + length ks) rest) nets [] outputs clocks statements
      → Declares (enumerate_from n (map (λ k. inputs_line (k ∷ [])) ks ++ rest)) (ks ++ nets) (ports_from n ks) outputs clocks statements
  inputs_declare [] n rest outputs clocks statements d = let same : n + 0 ≡ n = omega arith in subst (λ (k : ℕ). Declares (enumerate_from k rest) nets [] outputs clocks statements) same d
  inputs_declare (k ∷ ks) n rest outputs clocks statements d =
      let place : n + length (k ∷ ks) ≡ (n + 1) + length ks = omega arith in
      let later = inputs_declare ks (n + 1) rest outputs clocks statements (subst (λ (j : ℕ). Declares (enumerate_from j rest) nets [] outputs clocks statements) place d) in
      record {
        has_nets = ap (λ (l : List Name). k ∷ l) later.has_nets;
        has_inputs = ap (λ (l : List Port). record { name = k; line = n } ∷ l) later.has_inputs;
        has_outputs = later.has_outputs;
        has_clocks = later.has_clocks;
        has_statements = later.has_statements;
      }

  pub outputs_declare : (ks : List Name) (n : ℕ) (rest : List Said) (clocks : List Port) (statements : List Located)
      → Declares (enumerate_from (n + length ks) rest) nets [] [] clocks statements
      → Declares (enumerate_from n (map (λ k. outputs_line (k ∷ [])) ks ++ rest)) (ks ++ nets) [] (ports_from n ks) clocks statements
  outputs_declare [] n rest clocks statements d = let same : n + 0 ≡ n = omega arith in subst (λ (k : ℕ). Declares (enumerate_from k rest) nets [] [] clocks statements) same d
  outputs_declare (k ∷ ks) n rest clocks statements d =
      let place : n + length (k ∷ ks) ≡ (n + 1) + length ks = omega arith in
      let later = outputs_declare ks (n + 1) rest clocks statements (subst (λ (j : ℕ). Declares (enumerate_from j rest) nets [] [] clocks statements) place d) in
      record {
        has_nets = ap (λ (l : List Name). k ∷ l) later.has_nets;
        has_inputs = later.has_inputs;
        has_outputs = ap (λ (l : List Port). record { name = k; line = n } ∷ l) later.has_outputs;
        has_clocks = later.has_clocks;
        has_statements = later.has_statements;
      }

  pub clocks_declare : (ks : List Name) (n : ℕ) (rest : List Said) (statements : List Located)
      → Declares (enumerate_from (n + length ks) rest) nets [] [] [] statements
      → Declares (enumerate_from n (map (λ k. clock_line (k ∷ [])) ks ++ rest)) (ks ++ nets) [] [] (ports_from n ks) statements
  clocks_declare [] n rest statements d = let same : n + 0 ≡ n = omega arith in subst (λ (k : ℕ). Declares (enumerate_from k rest) nets [] [] [] statements) same d
  clocks_declare (k ∷ ks) n rest statements d =
      let place : n + length (k ∷ ks) ≡ (n + 1) + length ks = omega arith in
      let later = clocks_declare ks (n + 1) rest statements (subst (λ (j : ℕ). Declares (enumerate_from j rest) nets [] [] [] statements) place d) in
      record {
        has_nets = ap (λ (l : List Name). k ∷ l) later.has_nets;
        has_inputs = later.has_inputs;
        has_outputs = later.has_outputs;
        has_clocks = ap (λ (l : List Port). record { name = k; line = n } ∷ l) later.has_clocks;
        has_statements = later.has_statements;
      }

  rows_declare : (p : ℕ) (rows : List Row) (n : ℕ) (rest : List Said) (statements : List Located)
      → Declares (enumerate_from (n + length rows) rest) nets [] [] [] statements → Declares (enumerate_from n (row_lines p rows ++ rest)) nets [] [] [] statements
  rows_declare p [] n rest statements d = let same : n + 0 ≡ n = omega arith in subst (λ (k : ℕ). Declares (enumerate_from k rest) nets [] [] [] statements) same d
  rows_declare p (row ∷ rows) n rest statements d =
      let place : n + length (row ∷ rows) ≡ (n + 1) + length rows = omega arith in
      let later = rows_declare p rows (n + 1) rest statements (subst (λ (j : ℕ). Declares (enumerate_from j rest) nets [] [] [] statements) place d) in
      record { has_nets = later.has_nets; has_inputs = later.has_inputs; has_outputs = later.has_outputs; has_clocks = later.has_clocks; has_statements = later.has_statements }

-- the rows behind a `.names` line are its cover
rows_found : (p : ℕ) (rows : List Row) (n : ℕ) (rest : List Said) → ((k : ℕ) → rows_at (enumerate_from k rest) ≡ []) → rows_at (enumerate_from n (row_lines p rows ++ rest)) ≡ map (λ row. (row_cells p row, true)) rows
rows_found p [] n rest none = none n
rows_found p (row ∷ rows) n rest none = ap (λ (l : List (List Cell × Bool)). (row_cells p row, true) ∷ l) (rows_found p rows (n + 1) rest none)

cover_back : (p : ℕ) (rows : List Row) → AllByRecursion (IsBack p) rows → cover_of (map (λ row. (row_cells p row, true)) rows) ≡ record { on = true; rows = rows }
cover_back p rows h = λ i. record { on = shares rows i; rows = each rows h i }
  where
    shares : (rows : List Row) → shared_last (map (λ row. (row_cells p row, true)) rows) ≡ true
    shares [] = refl
    shares (row ∷ rows) = refl

    each : (rows : List Row) → AllByRecursion (IsBack p) rows → map (λ (r : List Cell × Bool). row_of r.0) (map (λ row. (row_cells p row, true)) rows) ≡ rows
    each [] h = refl
    each (row ∷ rows) h = ap₂ (λ (r : Row) (l : List Row). r ∷ l) h.0 (each rows h.1)

module _ (g : Named) where
  same_count : (p : ℕ × GateForm) → read_count g p ≡ length (gate_reads p.1)
  same_count p = length-map (gate_reads p.1) (net_name g)

  no_rows : (ps : List (ℕ × GateForm)) (k : ℕ) → rows_at (enumerate_from k (gate_lines_of g ps ++ end_line ∷ [])) ≡ []
  no_rows [] k = refl
  no_rows (p ∷ ps) k = refl

  cover_here : (p : ℕ × GateForm) (ps : List (ℕ × GateForm)) (n : ℕ)
      → cover_of (rows_at (enumerate_from n (row_lines (read_count g p) (gate_rows p.1) ++ (gate_lines_of g ps ++ end_line ∷ [])))) ≡ gate_cover p.1
  cover_here p ps n =
      ap cover_of (rows_found (read_count g p) (gate_rows p.1) n (gate_lines_of g ps ++ end_line ∷ []) (no_rows ps))
      ∙ cover_back (read_count g p) (gate_rows p.1) (subst (λ (k : ℕ). AllByRecursion (IsBack k) (gate_rows p.1)) (sym (same_count p)) (rows_back p.1))

  pub gates_declare : (ps : List (ℕ × GateForm)) (n : ℕ)
      → Declares (enumerate_from n (gate_lines_of g ps ++ end_line ∷ [])) (flat_map statement_nets (map (gate_written g) ps)) [] [] [] (statements_from n (map (gate_written g) ps))
  gates_declare [] n = end_declares n
  gates_declare (p ∷ ps) n =
      let ins = map (net_name g) (gate_reads p.1) in
      let out = net_name g p.0 in
      let nets = flat_map statement_nets (map (gate_written g) ps) in
      let behind = gate_lines_of g ps ++ end_line ∷ [] in
      let next = n + (1 + length (gate_rows p.1)) in
      let place : next ≡ (n + 1) + length (gate_rows p.1) = omega arith in
      let later = rows_declare nets (read_count g p) (gate_rows p.1) (n + 1) behind (statements_from next (map (gate_written g) ps))
      (subst (λ (k : ℕ). Declares (enumerate_from k behind) nets [] [] [] (statements_from next (map (gate_written g) ps))) place (gates_declare ps next)) in
      subst (λ (l : List Said). Declares (enumerate_from n l) (flat_map statement_nets (map (gate_written g) (p ∷ ps))) [] [] [] (statements_from n (map (gate_written g) (p ∷ ps)))) (sym (one_gate g p ps (end_line ∷ []))) (record {
        has_nets = ap (λ (l : List Name). (ins ++ out ∷ []) ++ l) later.has_nets;
        has_inputs = later.has_inputs;
        has_outputs = later.has_outputs;
        has_clocks = later.has_clocks;
        has_statements = ap₂ (λ (c : Cover) (l : List Located). record { line = n; what = names ins out c } ∷ l) (cover_here p ps (n + 1)) later.has_statements;
      })

  pub latches_declare : (zs : List (ℕ × LatchRow)) (n : ℕ) (rest : List Said) (nets : List Name) (ss : List Statement)
      → Declares (enumerate_from (n + length zs) rest) nets [] [] [] (statements_from (n + length zs) ss)
      → Declares (enumerate_from n (map latch_said (map (latch_at g) zs) ++ rest)) (flat_map statement_nets (map (latch_written g) zs) ++ nets) [] [] [] (statements_from n (map (latch_written g) zs ++ ss))
  latches_declare [] n rest nets ss d = let same : n + 0 ≡ n = omega arith in subst (λ (k : ℕ). Declares (enumerate_from k rest) nets [] [] [] (statements_from k ss)) same d
  latches_declare (z ∷ zs) n rest nets ss d =
      let place : n + length (z ∷ zs) ≡ (n + 1) + length zs = omega arith in
      let later = latches_declare zs (n + 1) rest nets ss (subst (λ (j : ℕ). Declares (enumerate_from j rest) nets [] [] [] (statements_from j ss)) place d) in
      let here = statement_nets (latch_written g z) in
      record {
        has_nets = ap (λ (l : List Name). here ++ l) later.has_nets ∙ sym (append_assoc here (flat_map statement_nets (map (latch_written g) zs)) nets);
        has_inputs = later.has_inputs;
        has_outputs = later.has_outputs;
        has_clocks = later.has_clocks;
        has_statements = ap (λ (l : List Located). record { line = n; what = latch_written g z } ∷ l) later.has_statements;
      }
