-- The text of a gate list says the file that it is written as.
use Rattle.std.proofs.Common.{◌≡◌, refl, sym, ◌∙◌, ap, subst, ℕ, ◌+◌, ◌<◌, ◌≤◌, List, [], ◌∷◌, ◌++◌, length, map, Bool, true, false, None, Some, append_assoc, arith}
use Rattle.std.specs.Prelude.{IfSome}
use Rattle.std.specs.List.{AllByRecursion, flat_map, enumerate_from}
use Rattle.std.proofs.lemmas.Grind.{flat_map-append}
use Rattle.std.proofs.lemmas.List.{length-map}
use Rattle.netlist_spec.specs.Lines.{logical_lines}
use Rattle.netlist_spec.specs.Netlist.{Name, IsName, HasControlAmong, Row, Clocking, plain, edge, Statement, Model}
use Rattle.netlist_spec.specs.Statements.{Said, model_line, inputs_line, outputs_line, clock_line, row_line, end_line, IsClocking, IsStatement}
use Rattle.netlist_spec.specs.Reads.{control_nets, statement_nets, first_appearances, model_of, Reads}
use Rattle.netlist_spec.specs.Models.{Latch, Gate}
use Rattle.netlist_spec.specs.Text.{row_cells, cover_lines, latch_said, written_lines, line_text, unknown_line, text_of}
use Rattle.netlist_spec.specs.WrittenLines.{IsPlainWord, HasPlainControl, HasPlainNames, HasPlainWords, spelled_lines}
use Rattle.netlist_spec.specs.Gates.{GateForm, constant, one, two, ReadsBelow, LatchRow, gate_reads, gate_rows}
use Rattle.netlist_spec.specs.Written.{Named, IsNamed, label_name, net_name, output_names, ports_from, statements_from, written_init_of, file_of}
use Rattle.netlist_spec.specs.WrittenText.{IsOneReading}
use Rattle.netlist_spec.proofs.OneReading.{one_reading}
use Rattle.netlist_spec.proofs.OneValue.{All_append, All_back}
use Rattle.netlist_spec.proofs.WrittenLines.{plain_words, lines_back_behind, unknown_comment, reads_lines}
use Rattle.named_netlist.proofs.LabelNames.{IsLineName, decimal-no_feed, net-line, input-lines, clock-lines, model-line}
use Rattle.named_netlist.proofs.WrittenModel.{written_model}
use Rattle.named_netlist.proofs.NamedFiles.{names-back, latch_at, latch_written, gate_written, numbered_latches, numbered_gates, written_statements, statements-numbered, gates-of}
use Rattle.named_netlist.proofs.NamedLines.{gate_lines_of, gates_next, Declares, inputs_declare, outputs_declare, clocks_declare, latches_declare, gates_declare}
use Rattle.named_netlist.proofs.NamedModels.{same-latches}
use Rattle.netlist_spec.proofs.FollowingLines.{IsOpen, IsFree, MayComeNext, lines_next, end_next, IsInModel, one-model_declared}

-- what holds of each line behind `.model`
record IsFine (said : Said) : Type 0 where
  plain_names : HasPlainNames said
  statement : IsStatement said
  in_model : IsInModel said

all_fine : (f : Name → Said) → ((n : Name) → IsLineName n → IsFine (f n)) → (ns : List Name) → AllByRecursion IsLineName ns → AllByRecursion IsFine (map f ns)
all_fine f h [] k = tt
all_fine f h (n ∷ ns) k = (h n k.0, all_fine f h ns k.1)

all_apart : (f : Name → Said) → ((n : Name) → IsOpen (f n) × IsFree (f n)) → (ns : List Name) → AllByRecursion (λ x. IsOpen x × IsFree x) (map f ns)
all_apart f h [] = tt
all_apart f h (n ∷ ns) = (h n, all_apart f h ns)

plain_lines : (lines : List Said) → AllByRecursion IsFine lines → AllByRecursion HasPlainWords lines
plain_lines [] h = tt
plain_lines (said ∷ lines) h = (plain_words said h.0.plain_names, plain_lines lines h.1)

are_statements : (lines : List Said) → AllByRecursion IsFine lines → AllByRecursion IsStatement lines
are_statements [] h = tt
are_statements (said ∷ lines) h = (h.0.statement, are_statements lines h.1)

are_in_model : (lines : List Said) → AllByRecursion IsFine lines → AllByRecursion IsInModel lines
are_in_model [] h = tt
are_in_model (said ∷ lines) h = (h.0.in_model, are_in_model lines h.1)

-- a control is a name other than `NIL`
control_fine : (ports : List Name) (c : Clocking) → AllByRecursion IsLineName (control_nets c) → HasControlAmong ports c → HasPlainControl c × IsClocking c
control_fine ports plain h k = (tt, tt)
control_fine ports (edge rising None) h k = (tt, tt)
control_fine ports (edge rising (Some n)) h k = (h.0.plain, (h.0.is_name, k.1))

init_small : (b : Bool) → IfSome (written_init_of b) (λ n. n < 4)
init_small true = omega arith
init_small false = omega arith

module _ (g : Named) where
  abbrev input_lines : List Said
  input_lines = map (λ n. inputs_line (n ∷ [])) g.inputs

  abbrev output_lines : List Said
  output_lines = map (λ n. outputs_line (n ∷ [])) (output_names g)

  abbrev clock_lines : List Said
  clock_lines = map (λ n. clock_line (n ∷ [])) g.clocks

  abbrev latch_lines : List Said
  latch_lines = map latch_said (map (latch_at g) (numbered_latches g))

  abbrev gate_lines : List Said
  gate_lines = gate_lines_of g (numbered_gates g)

  -- the lines behind `.model`
  abbrev behind : List Said
  behind = input_lines ++ (output_lines ++ (clock_lines ++ (latch_lines ++ (gate_lines ++ end_line ∷ []))))

  abbrev outputs_at : ℕ
  outputs_at = 3 + length g.inputs

  abbrev clocks_at : ℕ
  clocks_at = outputs_at + length g.outputs

  abbrev statements_at : ℕ
  statements_at = clocks_at + length g.clocks

  regroup : {A : Type 0} (a b c d e f : List A) → a ++ b ++ c ++ d ++ e ++ f ≡ a ++ (b ++ (c ++ (d ++ (e ++ f))))
  regroup a b c d e f = simp append_assoc

  same_lines : (a b c d e a' b' c' d' e' f : List Said) → a ≡ a' → b ≡ b' → c ≡ c' → d ≡ d' → e ≡ e' → a ++ b ++ c ++ d ++ e ++ f ≡ a' ++ b' ++ c' ++ d' ++ e' ++ f
  same_lines a b c d e a' b' c' d' e' f ha hb hc hd he = cc

  module _ (named : IsNamed g) where
    lines_are : written_lines (written_model g) ≡ model_line g.model ∷ behind
    lines_are =
        ap (λ (l : List Said). model_line g.model ∷ l)
        (same_lines _ _ _ _ _ input_lines output_lines clock_lines latch_lines gate_lines (end_line ∷ [])
        (ap (map (λ n. inputs_line (n ∷ []))) (names-back 3 g.inputs)) (ap (map (λ n. outputs_line (n ∷ []))) (names-back outputs_at (output_names g)))
        (ap (map (λ n. clock_line (n ∷ []))) (names-back clocks_at g.clocks)) (ap (map latch_said) (same-latches g named))
        (ap (λ (l : List Gate). flat_map cover_lines l) (gates-of g named statements_at))
        ∙ regroup input_lines output_lines clock_lines latch_lines gate_lines (end_line ∷ []))

    long : length (map label_name g.labels) ≡ g.net.leaves + length g.net.gates
    long = length-map g.labels label_name ∙ named.labels

    net_fine : (n : ℕ) → n < g.net.leaves + length g.net.gates → IsLineName (net_name g n)
    net_fine n h = net-line g named n (let e = long in omega arith)

    nets_fine : (ns : List ℕ) → AllByRecursion (λ n. n < g.net.leaves + length g.net.gates) ns → AllByRecursion IsLineName (map (net_name g) ns)
    nets_fine [] h = tt
    nets_fine (n ∷ ns) h = (net_fine n h.0, nets_fine ns h.1)

    -- ---- each line is fine

    clocking_fine : HasPlainControl g.clocking × IsClocking g.clocking
    clocking_fine = control_fine (g.inputs ++ g.clocks) g.clocking (All_back IsLineName g.clocks (control_nets g.clocking) (clock-lines g named)) named.control

    latches_fine : (a : ℕ) (ls : List LatchRow) → a + length ls ≤ g.net.leaves + length g.net.gates → AllByRecursion (λ (l : LatchRow). l.d < g.net.leaves + length g.net.gates) ls
        → AllByRecursion IsFine (map latch_said (map (latch_at g) (enumerate_from a ls)))
    latches_fine a [] fits stores = tt
    latches_fine a (l ∷ ls) fits stores =
        let d = net_fine l.d stores.0 in
        let q = net_fine a (omega arith) in (
          record {
            plain_names = (d.plain, q.plain, clocking_fine.0, init_small l.init);
            statement = (d.is_name, q.is_name, clocking_fine.1, init_small l.init);
            in_model = tt;
          },
          latches_fine (a + 1) ls (omega arith) stores.1,
        )

    rows_fine : (p : ℕ) (rows : List Row) → AllByRecursion IsFine (map (λ row. row_line (row_cells p row) true) rows)
    rows_fine p [] = tt
    rows_fine p (row ∷ rows) = (record { plain_names = tt; statement = tt; in_model = tt }, rows_fine p rows)

    reads_fine : (k : ℕ) (x : GateForm) → k ≤ g.net.leaves + length g.net.gates → ReadsBelow k x → AllByRecursion IsLineName (map (net_name g) (gate_reads x))
    reads_fine k (constant b) h r = tt
    reads_fine k (one inv a) h r = (net_fine a (omega arith), tt)
    reads_fine k (two op a b) h r = let x = r.0 in let y = r.1 in (net_fine a (omega arith), (net_fine b (omega arith), tt))

    words_of : (ns : List Name) → AllByRecursion IsLineName ns → AllByRecursion IsPlainWord ns
    words_of [] h = tt
    words_of (n ∷ ns) h = (h.0.plain, words_of ns h.1)

    names_of : (ns : List Name) → AllByRecursion IsLineName ns → AllByRecursion IsName ns
    names_of [] h = tt
    names_of (n ∷ ns) h = (h.0.is_name, names_of ns h.1)

    gates_fine : (k : ℕ) (xs : List GateForm) → k + length xs ≤ g.net.leaves + length g.net.gates → AllByRecursion (λ (p : ℕ × GateForm). ReadsBelow p.0 p.1) (enumerate_from k xs)
        → AllByRecursion IsFine (gate_lines_of g (enumerate_from k xs))
    gates_fine k [] fits reads = tt
    gates_fine k (x ∷ xs) fits reads =
        let ins = reads_fine k x (omega arith) reads.0 in
        let out = net_fine k (omega arith) in (
          record { plain_names = (words_of (map (net_name g) (gate_reads x)) ins, out.plain); statement = (names_of (map (net_name g) (gate_reads x)) ins, out.is_name); in_model = tt },
          All_append IsFine (map (λ row. row_line (row_cells (length (map (net_name g) (gate_reads x))) row) true) (gate_rows x)) (gate_lines_of g (enumerate_from (k + 1) xs))
              (rows_fine (length (map (net_name g) (gate_reads x))) (gate_rows x)) (gates_fine (k + 1) xs (omega arith) reads.1),
        )

    behind_fine : AllByRecursion IsFine behind
    behind_fine =
        All_append IsFine input_lines (output_lines ++ (clock_lines ++ (latch_lines ++ (gate_lines ++ end_line ∷ []))))
        (all_fine (λ n. inputs_line (n ∷ [])) (λ n h. record { plain_names = (h.plain, tt); statement = (h.is_name, tt); in_model = tt }) g.inputs (input-lines g named))
        (All_append IsFine output_lines (clock_lines ++ (latch_lines ++ (gate_lines ++ end_line ∷ [])))
        (all_fine (λ n. outputs_line (n ∷ [])) (λ n h. record { plain_names = (h.plain, tt); statement = (h.is_name, tt); in_model = tt }) (output_names g) (nets_fine g.outputs named.outputs))
        (All_append IsFine clock_lines (latch_lines ++ (gate_lines ++ end_line ∷ []))
        (all_fine (λ n. clock_line (n ∷ [])) (λ n h. record { plain_names = (h.plain, tt); statement = (h.is_name, tt); in_model = tt }) g.clocks (All_front_of g.clocks (control_nets g.clocking) (clock-lines g named)))
        (All_append IsFine latch_lines (gate_lines ++ end_line ∷ []) (latches_fine g.data_inputs g.latches (let e = named.leaves in omega arith) named.stores)
        (All_append IsFine gate_lines (end_line ∷ []) (gates_fine g.net.leaves g.net.gates (omega arith) named.gates)
        (record { plain_names = tt; statement = tt; in_model = tt }, tt)))))
      where
        All_front_of : (xs ys : List Name) → AllByRecursion IsLineName (xs ++ ys) → AllByRecursion IsLineName xs
        All_front_of [] ys h = tt
        All_front_of (x ∷ xs) ys h = (h.0, All_front_of xs ys h.1)

    -- ---- each may follow the one before it

    latches_apart : (ls : List Latch) → AllByRecursion (λ x. IsOpen x × IsFree x) (map latch_said ls)
    latches_apart [] = tt
    latches_apart (l ∷ ls) = ((tt, tt), latches_apart ls)

    behind_next : MayComeNext behind
    behind_next =
        lines_next input_lines (output_lines ++ (clock_lines ++ (latch_lines ++ (gate_lines ++ end_line ∷ [])))) (all_apart (λ n. inputs_line (n ∷ [])) (λ n. (tt, tt)) g.inputs)
        (lines_next output_lines (clock_lines ++ (latch_lines ++ (gate_lines ++ end_line ∷ []))) (all_apart (λ n. outputs_line (n ∷ [])) (λ n. (tt, tt)) (output_names g))
        (lines_next clock_lines (latch_lines ++ (gate_lines ++ end_line ∷ [])) (all_apart (λ n. clock_line (n ∷ [])) (λ n. (tt, tt)) g.clocks)
        (lines_next latch_lines (gate_lines ++ end_line ∷ []) (latches_apart (map (latch_at g) (numbered_latches g)))
        (gates_next g (numbered_gates g) (end_line ∷ []) end_next))))

    -- ---- what they declare

    abbrev latch_nets_written : List Name
    latch_nets_written = flat_map statement_nets (map (latch_written g) (numbered_latches g))

    abbrev gate_nets_written : List Name
    gate_nets_written = flat_map statement_nets (map (gate_written g) (numbered_gates g))

    declared : Declares (enumerate_from 3 behind) (g.inputs ++ (output_names g ++ (g.clocks ++ (latch_nets_written ++ gate_nets_written)))) (ports_from 3 g.inputs) (ports_from outputs_at (output_names g)) (ports_from clocks_at g.clocks) (statements_from statements_at (written_statements g))
    declared =
        let statements = statements_from statements_at (written_statements g) in
        let after_outputs = clock_lines ++ (latch_lines ++ (gate_lines ++ end_line ∷ [])) in
        let gates = gates_declare g (numbered_gates g) (statements_at + length (numbered_latches g)) in
        let latches = latches_declare g (numbered_latches g) statements_at (gate_lines ++ end_line ∷ []) gate_nets_written (map (gate_written g) (numbered_gates g)) gates in
        let clocks = clocks_declare (latch_nets_written ++ gate_nets_written) g.clocks clocks_at (latch_lines ++ (gate_lines ++ end_line ∷ [])) statements latches in
        let place : outputs_at + length (output_names g) ≡ clocks_at = ap (λ (k : ℕ). outputs_at + k) (length-map g.outputs (net_name g)) in
        let outputs = outputs_declare (g.clocks ++ (latch_nets_written ++ gate_nets_written)) (output_names g) outputs_at after_outputs (ports_from clocks_at g.clocks) statements
        (subst (λ (k : ℕ). Declares (enumerate_from k after_outputs) (g.clocks ++ (latch_nets_written ++ gate_nets_written)) [] [] (ports_from clocks_at g.clocks) statements) (sym place) clocks) in
        inputs_declare (output_names g ++ (g.clocks ++ (latch_nets_written ++ gate_nets_written))) g.inputs 3 (output_lines ++ after_outputs) (ports_from outputs_at (output_names g)) (ports_from clocks_at g.clocks) statements outputs

    nets_are : g.inputs ++ (output_names g ++ (g.clocks ++ (latch_nets_written ++ gate_nets_written))) ≡ g.inputs ++ output_names g ++ g.clocks ++ flat_map statement_nets (written_statements g)
    nets_are =
        ap (λ (l : List Name). g.inputs ++ (output_names g ++ (g.clocks ++ l))) (sym (flat_map-append statement_nets (map (latch_written g) (numbered_latches g)) (map (gate_written g) (numbered_gates g))))
        ∙ sym (apart g.inputs (output_names g) g.clocks (flat_map statement_nets (written_statements g)))
      where
        apart : (a b c d : List Name) → a ++ b ++ c ++ d ≡ a ++ (b ++ (c ++ d))
        apart a b c d = simp append_assoc

    model_is : written_model g ≡ model_of 2 g.model (enumerate_from 3 behind)
    model_is =
        let statements = statements-numbered g named in
        let nets = ap (λ (ss : List Statement). g.inputs ++ output_names g ++ g.clocks ++ flat_map statement_nets ss) statements ∙ (sym nets_are ∙ sym declared.has_nets) in
        let located = ap (statements_from statements_at) statements ∙ sym declared.has_statements in
        λ i. record {
          name = g.model;
          line = 2;
          names = first_appearances (nets i);
          inputs = sym declared.has_inputs i;
          outputs = sym declared.has_outputs i;
          clocks = sym declared.has_clocks i;
          statements = located i;
        }

    -- ---- the reading

    cut : logical_lines (text_of g.unknown_inits (file_of g)) ≡ spelled_lines 2 (model_line g.model ∷ behind)
    cut =
        ap (λ (l : List Said). logical_lines (unknown_line g.unknown_inits ++ flat_map line_text l)) lines_are
        ∙ lines_back_behind (unknown_comment g.unknown_inits) (model_line g.model ∷ behind) (decimal-no_feed g.unknown_inits) (plain_words (model_line g.model) (model-line g named).plain, plain_lines behind behind_fine)

    reads : Reads (text_of g.unknown_inits (file_of g)) (file_of g)
    reads =
        reads_lines 2 (model_line g.model ∷ behind) (text_of g.unknown_inits (file_of g)) (file_of g) cut ((model-line g named).is_name, are_statements behind behind_fine) tt (behind_next (model_line g.model) tt)
        (ap (λ (m : Model). m ∷ []) model_is ∙ sym (one-model_declared 2 g.model behind (are_in_model behind behind_fine))) refl named.limits

pub texts-are-read : (g : Named) → IsNamed g → IsOneReading (text_of g.unknown_inits (file_of g)) (file_of g)
texts-are-read g named = record { reads = reads g named; only = λ other h. one_reading (text_of g.unknown_inits (file_of g)) other (file_of g) h (reads g named) }
