-- What tables tell of lines.
use Rattle.std.proofs.Common.{◌≡◌, refl, sym, ◌∙◌, ap, ap₂, subst, ℕ, ◌≤◌, List, [], ◌∷◌, ◌++◌, map, filter_map, length, Bool, true, false, ◌||◌, ◌&&◌, not, cond, get_or, Option, None, Some, append-nil, append_assoc, arith}
use Rattle.std.specs.List.{flat_map, list_all, cons_option}
use Rattle.std.specs.Option.{option_or}
use Rattle.std.proofs.lemmas.Grind.{flat_map-append}
use Rattle.netlist_spec.specs.Netlist.{Name, stands_in, Cover, Clocking, Bind, Statement, names, latch, subckt, Model}
use Rattle.netlist_spec.specs.Reads.{control_nets}
use Rattle.netlist_spec.specs.Placed.{port_names}
use Rattle.netlist_spec.specs.Models.{Latch, as_latch, latch_outputs, data_inputs}
use Rattle.netlist_spec.specs.FileOrder.{Declared, an_input, an_output, a_clock, a_statement, Item, first_answer, declared_input, declared_output, declared_clock, inputs_among, outputs_among, clocks_among}
use Rattle.netlist_spec.specs.Ordered.{OrderFault, unordered, cell_nets, cells_among, gates_among, declared_cell, declared_gate, driven_by, is_at_fault}
use Rattle.imp_text.proofs.NamesLemmas.{stands_in-append}
use Rattle.blif_read.specs.declared.file.Port.{Port as ReadPort}
use Rattle.blif_read.specs.declared.file.Located.{Located as ReadLocated}
use Rattle.blif_read.specs.declared.file.Model.{Model as ReadModel}
use Rattle.netlist_spec.specs.FileRules.{HaveLines, first_line}
use Rattle.line_order.specs.Merge.{AreByLine}
use Rattle.line_order.proofs.MergeLemmas.{by_line_of}
use Rattle.blif_read.specs.View.{name_at, port_of, located_of, statement_of, model_of}
use Rattle.line_order.specs.declared.tables.Tables.{Tables}
use Rattle.line_order.specs.Marks.{Marks, controls_of, latch_output_of, cell_of}
use Rattle.line_order.specs.Tables.{AreTables, HaveSize, is_driven_before}

-- ---- names in place of numbers

pub ports_named : (all : List Name) (ports : List ReadPort) → map (λ (p : ReadPort). name_at all p.name) ports ≡ port_names (map (port_of all) ports)
ports_named all [] = refl
ports_named all (p ∷ ps) = ap (λ ns. name_at all p.name ∷ ns) (ports_named all ps)

one_control : (s : Statement) (ls : List Latch) → controls_of s ++ flat_map (λ l. control_nets l.clocking) ls ≡ flat_map (λ l. control_nets l.clocking) (cons_option (as_latch s) ls)
one_control (names ins out cover) ls = refl
one_control (latch d q clocking init) ls = refl
one_control (subckt model binds) ls = refl

pub controls_named : (all : List Name) (ss : List ReadLocated) → flat_map (λ (s : ReadLocated). controls_of (statement_of all s.what)) ss ≡ flat_map (λ l. control_nets l.clocking) (filter_map (λ s. as_latch s.what) (map (located_of all) ss))
controls_named all [] = refl
controls_named all (s ∷ ss) = ap (λ ns. controls_of (statement_of all s.what) ++ ns) (controls_named all ss) ∙ one_control (statement_of all s.what) (filter_map (λ s. as_latch s.what) (map (located_of all) ss))

one_output : (s : Statement) (ls : List Latch) → latch_output_of s ++ map (λ l. l.q) ls ≡ map (λ l. l.q) (cons_option (as_latch s) ls)
one_output (names ins out cover) ls = refl
one_output (latch d q clocking init) ls = refl
one_output (subckt model binds) ls = refl

pub latches_named : (all : List Name) (ss : List ReadLocated) → flat_map (λ (s : ReadLocated). latch_output_of (statement_of all s.what)) ss ≡ map (λ l. l.q) (filter_map (λ s. as_latch s.what) (map (located_of all) ss))
latches_named all [] = refl
latches_named all (s ∷ ss) = ap (λ ns. latch_output_of (statement_of all s.what) ++ ns) (latches_named all ss) ∙ one_output (statement_of all s.what) (filter_map (λ s. as_latch s.what) (map (located_of all) ss))

pub cells_named : (all : List Name) (ss : List ReadLocated) → flat_map (λ (s : ReadLocated). cell_of (statement_of all s.what)) ss ≡ flat_map (λ s. driven_by s.what) (map (located_of all) ss)
cells_named all [] = refl
cells_named all (s ∷ ss) = ap (λ ns. driven_by (statement_of all s.what) ++ ns) (cells_named all ss)

-- ---- what tests tell

pub input_told : (m : Model) (passed : List Item) (n : Name) (a b : Bool) → a ≡ stands_in n (inputs_among passed) → b ≡ stands_in n (cells_among passed) → (a || b) ≡ is_at_fault m passed (an_input n)
input_told m passed n a b e f = ap₂ (λ (x y : Bool). x || y) e f ∙ sym (three (stands_in n (inputs_among passed) || stands_in n (cells_among passed)))
  where
    three : (x : Bool) → (((x || false) || false) || false) ≡ x
    three true = refl
    three false = refl

pub clock_told : (m : Model) (passed : List Item) (n : Name) (a b : Bool) → a ≡ stands_in n (clocks_among passed) → b ≡ stands_in n (cells_among passed) → (a || b) ≡ is_at_fault m passed (a_clock n)
clock_told m passed n a b e f = ap₂ (λ (x y : Bool). x || y) e f ∙ sym (three (stands_in n (clocks_among passed) || stands_in n (cells_among passed)))
  where
    three : (x : Bool) → (((x || false) || false) || false) ≡ x
    three true = refl
    three false = refl

pub output_told : (m : Model) (passed : List Item) (n : Name) (a b : Bool) → a ≡ stands_in n (outputs_among passed) → b ≡ stands_in n (data_inputs m ++ cell_nets m) → (a || not b) ≡ is_at_fault m passed (an_output n)
output_told m passed n a b e f =
    ap₂ (λ (x y : Bool). x || not y) e (f ∙ stands_in-append n (data_inputs m) (cell_nets m)) ∙ sym (two (stands_in n (outputs_among passed)) (not (stands_in n (data_inputs m) || stands_in n (cell_nets m))))
  where
    two : (x y : Bool) → (((x || false) || y) || false) ≡ (x || y)
    two true y = refl
    two false true = refl
    two false false = refl

-- what may be read is what is known
known_as : (m : Model) (passed : List Item) (ns : List Name) → list_all (λ n. stands_in n ((data_inputs m ++ latch_outputs m) ++ gates_among passed)) ns
    ≡ list_all (λ n. (stands_in n (data_inputs m) || stands_in n (latch_outputs m)) || stands_in n (gates_among passed)) ns
known_as m passed [] = refl
known_as m passed (n ∷ ns) =
    ap₂ (λ (a b : Bool). a && b)
    (stands_in-append n (data_inputs m ++ latch_outputs m) (gates_among passed) ∙ ap (λ b. b || stands_in n (gates_among passed)) (stands_in-append n (data_inputs m) (latch_outputs m)))
    (known_as m passed ns)

pub gate_told : (m : Model) (passed : List Item) (ins : List Name) (out : Name) (driven known : Bool) → driven ≡ is_driven_before passed out → known ≡ list_all (λ n. stands_in n ((data_inputs m ++ latch_outputs m) ++ gates_among passed)) ins
    → (driven || not known) ≡ (((is_driven_before passed out || false) || not (list_all (λ n. (stands_in n (data_inputs m) || stands_in n (latch_outputs m)) || stands_in n (gates_among passed)) ins)) || false) || false
gate_told m passed ins out driven known e f =
    ap₂ (λ (x y : Bool). x || not y) e (f ∙ known_as m passed ins)
    ∙ sym (two (is_driven_before passed out) (not (list_all (λ n. (stands_in n (data_inputs m) || stands_in n (latch_outputs m)) || stands_in n (gates_among passed)) ins)))
  where
    two : (x y : Bool) → ((((x || false) || y) || false) || false) ≡ (x || y)
    two true y = refl
    two false true = refl
    two false false = refl

pub latch_told : (driven source alike declared driven' source' alike' declared' : Bool) → driven ≡ driven' → source ≡ source' → alike ≡ alike' → declared ≡ declared'
    → (((driven || not source) || not alike) || not declared) ≡ ((((driven' || false) || false) || not source') || (not alike' || not declared'))
latch_told driven source alike declared driven' source' alike' declared' e f g h =
    ap₂ (λ (x y : Bool). ((x || not y) || not alike) || not declared) e f ∙ (ap₂ (λ (x y : Bool). ((driven' || not source') || not x) || not y) g h ∙ four driven' (not source') (not alike') (not declared'))
  where
    four : (a b c d : Bool) → (((a || b) || c) || d) ≡ ((((a || false) || false) || b) || (c || d))
    four true b c d = refl
    four false true c d = refl
    four false false true d = refl
    four false false false d = refl

pub told_if : (b : Bool) (line : ℕ) (c : Bool) → b ≡ c → cond b (Some (unordered line)) None ≡ cond c (Some (unordered line)) None
told_if b line c e = ap (λ (x : Bool). cond x (Some (unordered line)) None) e

-- ---- one more line

pub among_more : (f : Declared → List Name) (passed : List Item) (i : Item) → flat_map (λ (j : Item). f j.what) (passed ++ i ∷ []) ≡ flat_map (λ (j : Item). f j.what) passed ++ f i.what
among_more f passed i = flat_map-append (λ (j : Item). f j.what) passed (i ∷ []) ∙ ap (λ ns. flat_map (λ (j : Item). f j.what) passed ++ ns) (append-nil (f i.what))

-- marks of what lines declare, with one more line
pub more_marked : (all : List Name) (marks : List Bool) (base : List Name) (f : Declared → List Name) (passed : List Item) (i : Item) → Marks all marks ((base ++ flat_map (λ (j : Item). f j.what) passed) ++ f i.what)
    → Marks all marks (base ++ flat_map (λ (j : Item). f j.what) (passed ++ i ∷ []))
more_marked all marks base f passed i m =
    subst (Marks all marks) (append_assoc base (flat_map (λ (j : Item). f j.what) passed) (f i.what) ∙ ap (λ ns. base ++ ns) (sym (among_more f passed i))) m

pub more_among : (all : List Name) (marks : List Bool) (f : Declared → List Name) (passed : List Item) (i : Item) → Marks all marks (flat_map (λ (j : Item). f j.what) passed ++ f i.what)
    → Marks all marks (flat_map (λ (j : Item). f j.what) (passed ++ i ∷ []))
more_among all marks f passed i m = more_marked all marks [] f passed i m

pub no_more : (all : List Name) (marks : List Bool) (base : List Name) (f : Declared → List Name) (passed : List Item) (i : Item) → f i.what ≡ [] → Marks all marks (base ++ flat_map (λ (j : Item). f j.what) passed)
    → Marks all marks (base ++ flat_map (λ (j : Item). f j.what) (passed ++ i ∷ []))
no_more all marks base f passed i none m =
    more_marked all marks base f passed i (subst (λ ns. Marks all marks ((base ++ flat_map (λ (j : Item). f j.what) passed) ++ ns)) (sym none) (subst (Marks all marks) (sym (append-nil (base ++ flat_map (λ (j : Item). f j.what) passed))) m))

pub sizes : (m : Model) (passed : List Item) (t : Tables) → AreTables m passed t → HaveSize (length m.names) t
sizes m passed t a =
    record {
      known = a.known.each_name;
      sources = a.sources.each_name;
      declared = a.declared.each_name;
      inputs = a.inputs.each_name;
      outputs = a.outputs.each_name;
      clocks = a.clocks.each_name;
      cells = a.cells.each_name;
    }

-- ---- the first line at fault

pub goes_on : (answer : List Item → Item → Option OrderFault) (passed left rest : List Item) (i : Item) → left ≡ i ∷ rest → answer passed i ≡ None → first_answer answer passed left ≡ first_answer answer (passed ++ i ∷ []) rest
goes_on answer passed left rest i e none =
    ap (first_answer answer passed) e ∙ ap (λ o. option_or o (first_answer answer (passed ++ i ∷ []) rest)) none

pub is_first : (answer : List Item → Item → Option OrderFault) (passed left rest : List Item) (i : Item) (fault : OrderFault) → left ≡ i ∷ rest → answer passed i ≡ Some fault → first_answer answer passed left ≡ Some fault
is_first answer passed left rest i fault e some =
    ap (first_answer answer passed) e ∙ ap (λ o. option_or o (first_answer answer (passed ++ i ∷ []) rest)) some

pub nothing_left : (answer : List Item → Item → Option OrderFault) (passed left : List Item) → left ≡ [] → first_answer answer passed left ≡ None
nothing_left answer passed left e = ap (first_answer answer passed) e

module _ (m : Model) (passed : List Item) (t : Tables) (a : AreTables m passed t) where
  abbrev base : List Name
  base = data_inputs m ++ latch_outputs m

  pub pass_input : (line : ℕ) (n : Name) (inputs : List Bool) → Marks m.names inputs (inputs_among passed ++ n ∷ []) → AreTables m (passed ++ record { line = line; what = an_input n } ∷ []) (record t { inputs = inputs })
  pass_input line n inputs k =
      let i : Item = record { line = line; what = an_input n } in
      record {
        known = no_more m.names t.known base declared_gate passed i refl a.known;
        sources = a.sources;
        declared = a.declared;
        inputs = more_among m.names inputs declared_input passed i k;
        outputs = no_more m.names t.outputs [] declared_output passed i refl a.outputs;
        clocks = no_more m.names t.clocks [] declared_clock passed i refl a.clocks;
        cells = no_more m.names t.cells [] declared_cell passed i refl a.cells;
        first = a.first;
        control = a.control;
      }

  pub pass_output : (line : ℕ) (n : Name) (outputs : List Bool) → Marks m.names outputs (outputs_among passed ++ n ∷ []) → AreTables m (passed ++ record { line = line; what = an_output n } ∷ []) (record t { outputs = outputs })
  pass_output line n outputs k =
      let i : Item = record { line = line; what = an_output n } in
      record {
        known = no_more m.names t.known base declared_gate passed i refl a.known;
        sources = a.sources;
        declared = a.declared;
        inputs = no_more m.names t.inputs [] declared_input passed i refl a.inputs;
        outputs = more_among m.names outputs declared_output passed i k;
        clocks = no_more m.names t.clocks [] declared_clock passed i refl a.clocks;
        cells = no_more m.names t.cells [] declared_cell passed i refl a.cells;
        first = a.first;
        control = a.control;
      }

  pub pass_clock : (line : ℕ) (n : Name) (clocks : List Bool) → Marks m.names clocks (clocks_among passed ++ n ∷ []) → AreTables m (passed ++ record { line = line; what = a_clock n } ∷ []) (record t { clocks = clocks })
  pass_clock line n clocks k =
      let i : Item = record { line = line; what = a_clock n } in
      record {
        known = no_more m.names t.known base declared_gate passed i refl a.known;
        sources = a.sources;
        declared = a.declared;
        inputs = no_more m.names t.inputs [] declared_input passed i refl a.inputs;
        outputs = no_more m.names t.outputs [] declared_output passed i refl a.outputs;
        clocks = more_among m.names clocks declared_clock passed i k;
        cells = no_more m.names t.cells [] declared_cell passed i refl a.cells;
        first = a.first;
        control = a.control;
      }

  pub pass_gate : (line : ℕ) (ins : List Name) (out : Name) (cover : Cover) (cells known : List Bool) → Marks m.names cells (cells_among passed ++ out ∷ []) → Marks m.names known ((base ++ gates_among passed) ++ out ∷ [])
      → AreTables m (passed ++ record { line = line; what = a_statement (names ins out cover) } ∷ []) (record t { cells = cells; known = known })
  pass_gate line ins out cover cells known k l =
      let i : Item = record { line = line; what = a_statement (names ins out cover) } in
      record {
        known = more_marked m.names known base declared_gate passed i l;
        sources = a.sources;
        declared = a.declared;
        inputs = no_more m.names t.inputs [] declared_input passed i refl a.inputs;
        outputs = no_more m.names t.outputs [] declared_output passed i refl a.outputs;
        clocks = no_more m.names t.clocks [] declared_clock passed i refl a.clocks;
        cells = more_among m.names cells declared_cell passed i k;
        first = a.first;
        control = a.control;
      }

  pub pass_latch : (line : ℕ) (d q : Name) (clocking : Clocking) (init : Option ℕ) (cells : List Bool) → Marks m.names cells (cells_among passed ++ q ∷ [])
      → AreTables m (passed ++ record { line = line; what = a_statement (latch d q clocking init) } ∷ []) (record t { cells = cells })
  pass_latch line d q clocking init cells k =
      let i : Item = record { line = line; what = a_statement (latch d q clocking init) } in
      record {
        known = no_more m.names t.known base declared_gate passed i refl a.known;
        sources = a.sources;
        declared = a.declared;
        inputs = no_more m.names t.inputs [] declared_input passed i refl a.inputs;
        outputs = no_more m.names t.outputs [] declared_output passed i refl a.outputs;
        clocks = no_more m.names t.clocks [] declared_clock passed i refl a.clocks;
        cells = more_among m.names cells declared_cell passed i k;
        first = a.first;
        control = a.control;
      }

  pub pass_subckt : (line : ℕ) (model : Name) (binds : List Bind) → AreTables m (passed ++ record { line = line; what = a_statement (subckt model binds) } ∷ []) t
  pass_subckt line model binds =
      let i : Item = record { line = line; what = a_statement (subckt model binds) } in
      record {
        known = no_more m.names t.known base declared_gate passed i refl a.known;
        sources = a.sources;
        declared = a.declared;
        inputs = no_more m.names t.inputs [] declared_input passed i refl a.inputs;
        outputs = no_more m.names t.outputs [] declared_output passed i refl a.outputs;
        clocks = no_more m.names t.clocks [] declared_clock passed i refl a.clocks;
        cells = no_more m.names t.cells [] declared_cell passed i refl a.cells;
        first = a.first;
        control = a.control;
      }

-- the lines of the first model
pub first_by_line : (ms : List ReadModel) (m : ReadModel) → m ≡ get_or ms 0 m → 1 ≤ length (map model_of ms) → HaveLines (map model_of ms) → AreByLine (model_of m)
first_by_line [] m e h l = absurd (omega arith)
first_by_line (x ∷ ms) m e h l = subst (λ (y : ReadModel). AreByLine (model_of y)) (sym e) (by_line_of (first_line (map model_of ms)) (model_of x) l.0)
