-- What the statements of a model give a simulator.
use Rattle.std.proofs.Common.{◌≡◌, refl, sym, ◌∙◌, ap, ap₂, subst, ℕ, zero, suc, ◌+◌, ◌<◌, ◌≤◌, List, [], ◌∷◌, ◌++◌, length, map, filter_map, take, drop, get_or, slice_get, Bool, true, false, Option, Some, None, All, IfSome, arith, drop-cons, length-append}
use Rattle.std.specs.Prelude.{option_to_list}
use Rattle.std.specs.List.{AllByRecursion, cons_option, flat_map}
use Rattle.std.proofs.lemmas.Option.{slice_get-get_or, slice_get_within}
use Rattle.std.proofs.lemmas.List.{take_more, take-append-drop}
use Rattle.std.proofs.lemmas.List.Elements.{filter_map-append}
use Rattle.netlist_spec.specs.Netlist.{Name, stands_in, are_distinct, Model as SpecModel}
use Rattle.netlist_spec.specs.Reads.{IsNarrow, IsWithinModelLimits}
use Rattle.netlist_spec.specs.SourceRun.{Bits}
use Rattle.netlist_spec.specs.Placed.{port_names}
use Rattle.netlist_spec.specs.Models.{Latch as SpecLatch, Gate, as_latch, as_gate, init_bit, data_inputs}
use Rattle.netlist_spec.specs.Ordered.{driven_by, cell_nets, IsOrdered}
use Rattle.netlist_spec.specs.FileRules.{IsFile}
use Rattle.audit_laws.proofs.GateOrder.{no_fault_of}
use Rattle.fault_sim.proofs.OrderLemmas.{cells_distinct}
use Rattle.imp_text.specs.declared.names.NameId.{NameId}
use Rattle.imp_text.specs.Names.{with_name}
use Rattle.imp_text.proofs.NamesLemmas.{twice, with_name-absent}
use Rattle.blif_read.specs.declared.file.Port.{Port as ReadPort}
use Rattle.blif_read.specs.declared.file.Located.{Located as ReadLocated}
use Rattle.blif_read.specs.declared.file.Statement.{Statement as ReadStatement}
use Rattle.blif_read.specs.declared.file.Statement.TheVariants.{Names, Latch, Subckt}
use Rattle.blif_read.specs.declared.file.Model.{Model as ReadModel}
use Rattle.blif_read.specs.declared.file.File.{File as ReadFile}
use Rattle.blif_read.specs.Ids.{HasIds, IsIdOf, ids_in}
use Rattle.blif_read.specs.View.{name_at, port_of, located_of, statement_of, cover_of, model_of, file_of}
use Rattle.line_order.proofs.MarkLemmas.{all_of}
use Rattle.fault_sim.specs.declared.cells.CellId.{CellId}
use Rattle.fault_sim.specs.declared.row.LatchCell.{LatchCell}
use Rattle.fault_sim.specs.Gates.{NumberedGate, named_gate, IsGateWithin}
use Rattle.fault_sim.specs.Build.{latch_of, gate_of, cell_of}
use Rattle.fault_sim.specs.Cells.{AreCells}
use Rattle.fault_sim.specs.Simulated.{HasModel, IsSimulator, simulated}

-- ---- names that are copied in order

absent : (ns : List Name) (i : ℕ) → are_distinct ns ≡ true → i < length ns → stands_in (get_or ns i []) (take i ns) ≡ false
absent ns i d h = at (stands_in (get_or ns i []) (take i ns)) refl
  where
    apart : take i ns ++ get_or ns i [] ∷ drop (suc i) ns ≡ ns
    apart = ap (λ (rest : List Name). take i ns ++ rest) (sym (drop-cons ns i [] h)) ∙ take-append-drop i ns

    at : (b : Bool) → stands_in (get_or ns i []) (take i ns) ≡ b → b ≡ false
    at true e = absurd (twice (take i ns) (drop (suc i) ns) (get_or ns i []) e (ap are_distinct apart ∙ d))
    at false e = refl

pub next_name : (ns : List Name) (i : ℕ) (n : Name) → are_distinct ns ≡ true → slice_get ns i ≡ Some n → with_name (take i ns) n ≡ take (i + 1) ns
next_name ns i n d e =
    let h = slice_get_within ns i n e in
    let is : get_or ns i [] ≡ n = cc (slice_get-get_or ns i [] h, e) in
    ap (with_name (take i ns)) (sym is) ∙ (with_name-absent (take i ns) (get_or ns i []) (absent ns i d h) ∙ sym (take_more ns i [] h))

-- ---- one more statement

as_list : {B : Type 0} (o : Option B) → cons_option o [] ≡ option_to_list o
as_list None = refl
as_list (Some x) = refl

pub one_given : {A B : Type 0} (f : A → Option B) (xs : List A) (i : ℕ) (x : A) → i < length xs → x ≡ get_or xs i x → filter_map f (take (i + 1) xs) ≡ filter_map f (take i xs) ++ option_to_list (f x)
one_given f xs i x h e =
    ap (filter_map f) (take_more xs i x h)
    ∙ (filter_map-append f (take i xs) (get_or xs i x ∷ []) ∙ ap (λ l. filter_map f (take i xs) ++ l) (as_list (f (get_or xs i x)) ∙ ap (λ y. option_to_list (f y)) (sym e)))

-- ---- names in place of numbers

pub ports_named : (all : List Name) (ports : List ReadPort) → map (name_at all) (map (λ (p : ReadPort). p.name) ports) ≡ port_names (map (port_of all) ports)
ports_named all [] = refl
ports_named all (p ∷ ps) = ap (λ ns. name_at all p.name ∷ ns) (ports_named all ps)

abbrev latches_in : List ReadLocated → List LatchCell
latches_in ss = filter_map (λ (s : ReadLocated). latch_of s.what) ss

abbrev sources_in : List Name → List ReadLocated → List SpecLatch
sources_in all ss = filter_map (λ s. as_latch s.what) (map (located_of all) ss)

-- some part of each latch
one_latch : {B : Type 0} (all : List Name) (f : LatchCell → B) (g : SpecLatch → B) (what : ReadStatement) (ls : List LatchCell) (ks : List SpecLatch)
    → ((q d : NameId) (init : Option ℕ) (k : SpecLatch) → k.q ≡ name_at all q → k.d ≡ name_at all d → k.init ≡ init → f (record { q = q; d = d; init = init_bit init }) ≡ g k)
    → map f ls ≡ map g ks → map f (cons_option (latch_of what) ls) ≡ map g (cons_option (as_latch (statement_of all what)) ks)
one_latch all f g (Names ins out cover) ls ks same h = h
one_latch all f g (Latch d q clocking init) ls ks same h = ap₂ (λ x xs. x ∷ xs) (same q d init _ refl refl refl) h
one_latch all f g (Subckt model binds) ls ks same h = h

latches_given : {B : Type 0} (all : List Name) (f : LatchCell → B) (g : SpecLatch → B) (ss : List ReadLocated)
    → ((q d : NameId) (init : Option ℕ) (k : SpecLatch) → k.q ≡ name_at all q → k.d ≡ name_at all d → k.init ≡ init → f (record { q = q; d = d; init = init_bit init }) ≡ g k)
    → map f (latches_in ss) ≡ map g (sources_in all ss)
latches_given all f g [] same = refl
latches_given all f g (s ∷ ss) same = one_latch all f g s.what (latches_in ss) (sources_in all ss) same (latches_given all f g ss same)

pub shown_given : (all : List Name) (ss : List ReadLocated) → map (λ (l : LatchCell). name_at all l.q) (latches_in ss) ≡ map (λ l. l.q) (sources_in all ss)
shown_given all ss = latches_given all (λ (l : LatchCell). name_at all l.q) (λ l. l.q) ss (λ q d init k e f g. sym e)

pub stores_given : (all : List Name) (ss : List ReadLocated) → map (λ (l : LatchCell). name_at all l.d) (latches_in ss) ≡ map (λ l. l.d) (sources_in all ss)
stores_given all ss = latches_given all (λ (l : LatchCell). name_at all l.d) (λ l. l.d) ss (λ q d init k e f g. sym f)

pub inits_given : (all : List Name) (ss : List ReadLocated) → map (λ (l : LatchCell). l.init) (latches_in ss) ≡ map (λ l. init_bit l.init) (sources_in all ss)
inits_given all ss = latches_given all (λ (l : LatchCell). l.init) (λ l. init_bit l.init) ss (λ q d init k e f g. ap init_bit (sym g))

one_gate : (all : List Name) (what : ReadStatement) (gs : List NumberedGate) (hs : List Gate) → map (named_gate all) gs ≡ hs → map (named_gate all) (cons_option (gate_of what) gs) ≡ cons_option (as_gate (statement_of all what)) hs
one_gate all (Names ins out cover) gs hs h = ap (λ xs. record { ins = map (name_at all) ins.items; out = name_at all out; cover = cover_of cover } ∷ xs) h
one_gate all (Latch d q clocking init) gs hs h = h
one_gate all (Subckt model binds) gs hs h = h

pub gates_given : (all : List Name) (ss : List ReadLocated) → map (named_gate all) (filter_map (λ (s : ReadLocated). gate_of s.what) ss) ≡ filter_map (λ s. as_gate s.what) (map (located_of all) ss)
gates_given all [] = refl
gates_given all (s ∷ ss) = one_gate all s.what (filter_map (λ (s : ReadLocated). gate_of s.what) ss) _ (gates_given all ss)

one_cell : (all : List Name) (what : ReadStatement) (ids : List NameId) (ns : List Name) → map (name_at all) ids ≡ ns → map (name_at all) (cons_option (cell_of what) ids) ≡ driven_by (statement_of all what) ++ ns
one_cell all (Names ins out cover) ids ns h = ap (λ xs. name_at all out ∷ xs) h
one_cell all (Latch d q clocking init) ids ns h = ap (λ xs. name_at all q ∷ xs) h
one_cell all (Subckt model binds) ids ns h = h

pub cells_given : (all : List Name) (ss : List ReadLocated) → map (name_at all) (filter_map (λ (s : ReadLocated). cell_of s.what) ss) ≡ flat_map (λ s. driven_by s.what) (map (located_of all) ss)
cells_given all [] = refl
cells_given all (s ∷ ss) = one_cell all s.what (filter_map (λ (s : ReadLocated). cell_of s.what) ss) _ (cells_given all ss)

-- ---- all numbers are those of nets

module _ (all : List Name) where
  abbrev Within : NameId → Type 0
  Within = IsIdOf all

  at_front : (xs ys : List NameId) → All Within (xs ++ ys) → All Within xs
  at_front [] ys h = λ k d g. absurd (omega arith)
  at_front (x ∷ xs) ys h = λ k d g. front k d g
    where
      keep : (zs : List NameId) (k : ℕ) (d : NameId) → k < length zs → get_or (zs ++ ys) k d ≡ get_or zs k d
      keep [] k d g = absurd (omega arith)
      keep (z ∷ zs) zero d g = refl
      keep (z ∷ zs) (suc k) d g = keep zs k d (omega arith)

      front : (k : ℕ) (d : NameId) → k < length (x ∷ xs) → Within (get_or (x ∷ xs) k d)
      front k d g = subst Within (keep (x ∷ xs) k d g) (h k d (omega (arith, length-append (x ∷ xs) ys)))

  at_last : (xs : List NameId) (y : NameId) → All Within (xs ++ y ∷ []) → Within y
  at_last [] y h = h 0 y (omega arith)
  at_last (x ∷ xs) y h = at_last xs y (λ k d g. h (suc k) d (omega arith))

  one_shown : (what : ReadStatement) (ls : List LatchCell) → All Within (ids_in what) → AllByRecursion (λ (l : LatchCell). Within l.q) ls → AllByRecursion (λ (l : LatchCell). Within l.q) (cons_option (latch_of what) ls)
  one_shown (Names ins out cover) ls h a = a
  one_shown (Latch d q clocking init) ls h a = (h 1 q (omega arith), a)
  one_shown (Subckt model binds) ls h a = a

  one_stored : (what : ReadStatement) (ls : List LatchCell) → All Within (ids_in what) → AllByRecursion (λ (l : LatchCell). Within l.d) ls → AllByRecursion (λ (l : LatchCell). Within l.d) (cons_option (latch_of what) ls)
  one_stored (Names ins out cover) ls h a = a
  one_stored (Latch d q clocking init) ls h a = (h 0 d (omega arith), a)
  one_stored (Subckt model binds) ls h a = a

  one_gate_in : (what : ReadStatement) (gs : List NumberedGate) → All Within (ids_in what) → AllByRecursion (IsGateWithin (length all)) gs → AllByRecursion (IsGateWithin (length all)) (cons_option (gate_of what) gs)
  one_gate_in (Names ins out cover) gs h a = (record { ins = at_front ins.items (out ∷ []) h; out = at_last ins.items out h }, a)
  one_gate_in (Latch d q clocking init) gs h a = a
  one_gate_in (Subckt model binds) gs h a = a

  one_cell_in : (what : ReadStatement) (ids : List NameId) → All Within (ids_in what) → AllByRecursion Within ids → AllByRecursion Within (cons_option (cell_of what) ids)
  one_cell_in (Names ins out cover) ids h a = (at_last ins.items out h, a)
  one_cell_in (Latch d q clocking init) ids h a = (h 1 q (omega arith), a)
  one_cell_in (Subckt model binds) ids h a = a

  later : (s : ReadLocated) (ss : List ReadLocated) → All (λ (x : ReadLocated). All Within (ids_in x.what)) (s ∷ ss) → All (λ (x : ReadLocated). All Within (ids_in x.what)) ss
  later s ss h = λ k d g. h (suc k) d (omega arith)

  pub shown_within : (ss : List ReadLocated) → All (λ (x : ReadLocated). All Within (ids_in x.what)) ss → AllByRecursion (λ (l : LatchCell). Within l.q) (filter_map (λ (s : ReadLocated). latch_of s.what) ss)
  shown_within [] h = tt
  shown_within (s ∷ ss) h = one_shown s.what _ (h 0 s (omega arith)) (shown_within ss (later s ss h))

  pub stores_within : (ss : List ReadLocated) → All (λ (x : ReadLocated). All Within (ids_in x.what)) ss → AllByRecursion (λ (l : LatchCell). Within l.d) (filter_map (λ (s : ReadLocated). latch_of s.what) ss)
  stores_within [] h = tt
  stores_within (s ∷ ss) h = one_stored s.what _ (h 0 s (omega arith)) (stores_within ss (later s ss h))

  pub gates_within : (ss : List ReadLocated) → All (λ (x : ReadLocated). All Within (ids_in x.what)) ss → AllByRecursion (IsGateWithin (length all)) (filter_map (λ (s : ReadLocated). gate_of s.what) ss)
  gates_within [] h = tt
  gates_within (s ∷ ss) h = one_gate_in s.what _ (h 0 s (omega arith)) (gates_within ss (later s ss h))

  pub cells_within : (ss : List ReadLocated) → All (λ (x : ReadLocated). All Within (ids_in x.what)) ss → AllByRecursion Within (filter_map (λ (s : ReadLocated). cell_of s.what) ss)
  cells_within [] h = tt
  cells_within (s ∷ ss) h = one_cell_in s.what _ (h 0 s (omega arith)) (cells_within ss (later s ss h))

  pub outputs_within : (ports : List ReadPort) → All (λ (p : ReadPort). Within p.name) ports → AllByRecursion Within (map (λ (p : ReadPort). p.name) ports)
  outputs_within [] h = tt
  outputs_within (p ∷ ps) h = (h 0 p (omega arith), outputs_within ps (λ k d g. h (suc k) d (omega arith)))

  pub cells_few : (ss : List ReadLocated) → length (filter_map (λ (s : ReadLocated). cell_of s.what) ss) ≤ length ss
  cells_few [] = omega arith
  cells_few (s ∷ ss) = one (cell_of s.what) (cells_few ss)
    where
      one : (o : Option NameId) → length (filter_map (λ (s : ReadLocated). cell_of s.what) ss) ≤ length ss → length (cons_option o (filter_map (λ (s : ReadLocated). cell_of s.what) ss)) ≤ length (s ∷ ss)
      one None h = omega arith
      one (Some id) h = omega arith

  -- covers are narrow
  one_narrow : (what : ReadStatement) → IsNarrow (statement_of all what) → IfSome (gate_of what) (λ g. length g.ins ≤ 16)
  one_narrow (Names ins out cover) h = let l : length (map (name_at all) ins.items) ≡ length ins.items = long ins.items in let k : length (map (name_at all) ins.items) ≤ 16 = h in omega arith
    where
      long : (ids : List NameId) → length (map (name_at all) ids) ≡ length ids
      long [] = refl
      long (id ∷ ids) = ap suc (long ids)
  one_narrow (Latch d q clocking init) h = tt
  one_narrow (Subckt model binds) h = tt

  pub narrow_at : (ss : List ReadLocated) → AllByRecursion (λ s. IsNarrow s.what) (map (located_of all) ss) → (k : ℕ) (d : ReadLocated) → k < length ss → IfSome (gate_of (get_or ss k d).what) (λ g. length g.ins ≤ 16)
  narrow_at [] a k d h = absurd (omega arith)
  narrow_at (s ∷ ss) a zero d h = one_narrow s.what a.0
  narrow_at (s ∷ ss) a (suc k) d h = narrow_at ss a.1 k d (omega arith)

-- ---- the simulator of a model

module _ (m : ReadModel) (inputs : List NameId) (latches : List LatchCell) (gates : List NumberedGate) (outputs cells : List NameId) (stored : Bits)
    (is_latches : latches ≡ filter_map (λ (s : ReadLocated). latch_of s.what) m.statements.items) (is_gates : gates ≡ filter_map (λ (s : ReadLocated). gate_of s.what) m.statements.items)
    (is_outputs : outputs ≡ map (λ (p : ReadPort). p.name) m.outputs.items) (is_cells : cells ≡ filter_map (λ (s : ReadLocated). cell_of s.what) m.statements.items) where
  abbrev all : List Name
  all = m.names

  pub has_model : map (name_at all) inputs ≡ data_inputs (model_of m) → HasModel (model_of m) (simulated all inputs latches gates outputs cells stored)
  has_model e =
      record {
        inputs = e;
        shown = ap (map (λ (l : LatchCell). name_at all l.q)) is_latches ∙ shown_given all m.statements.items;
        stores = ap (map (λ (l : LatchCell). name_at all l.d)) is_latches ∙ stores_given all m.statements.items;
        inits = ap (map (λ (l : LatchCell). l.init)) is_latches ∙ inits_given all m.statements.items;
        gates = ap (map (named_gate all)) is_gates ∙ gates_given all m.statements.items;
        outputs = ap (map (name_at all)) is_outputs ∙ ports_named all m.outputs.items;
        cells = ap (map (name_at all)) is_cells ∙ cells_given all m.statements.items;
      }

  pub is_simulator : (ids : HasIds m) → are_distinct all ≡ true → are_distinct (cell_nets (model_of m)) ≡ true → length m.statements.items ≤ 2000000 → IsWithinModelLimits (model_of m) → All (IsIdOf all) inputs → length inputs ≤ length m.inputs.items
      → (by_net : List (Option CellId)) (row : Bits) (forced : List (Option Bool)) → AreCells all (map (name_at all) cells) by_net → length stored ≡ length latches → length row ≡ length all → length forced ≡ length all
      → IsSimulator all inputs latches gates outputs cells by_net stored row forced
  is_simulator ids distinct apart few limits within fewer by_net row forced numbers long_stored long_row long_forced =
      let named : map (name_at all) cells ≡ cell_nets (model_of m) = ap (map (name_at all)) is_cells ∙ cells_given all m.statements.items in
      let count : length cells ≤ length m.statements.items = subst (λ (l : List NameId). length l ≤ length m.statements.items) (sym is_cells) (cells_few all m.statements.items) in
      let outs : length outputs ≡ length m.outputs.items = ap length is_outputs ∙ long (λ (p : ReadPort). p.name) m.outputs.items in
      let most_in : length m.inputs.items ≤ 131072 = subst (λ (n : ℕ). n ≤ 131072) (long (port_of all) m.inputs.items) limits.inputs in
      let most_out : length m.outputs.items ≤ 131072 = subst (λ (n : ℕ). n ≤ 131072) (long (port_of all) m.outputs.items) limits.outputs in
      record {
        distinct = distinct;
        inputs = within;
        shown = subst (All (λ (l : LatchCell). IsIdOf all l.q)) (sym is_latches) (all_of (λ (l : LatchCell). IsIdOf all l.q) _ (shown_within all m.statements.items ids.statements));
        stores = subst (All (λ (l : LatchCell). IsIdOf all l.d)) (sym is_latches) (all_of (λ (l : LatchCell). IsIdOf all l.d) _ (stores_within all m.statements.items ids.statements));
        gates = subst (All (IsGateWithin (length all))) (sym is_gates) (all_of (IsGateWithin (length all)) _ (gates_within all m.statements.items ids.statements));
        outputs = subst (All (IsIdOf all)) (sym is_outputs) (all_of (IsIdOf all) _ (outputs_within all m.outputs.items ids.outputs));
        cells = subst (All (IsIdOf all)) (sym is_cells) (all_of (IsIdOf all) _ (cells_within all m.statements.items ids.statements));
        apart = ap are_distinct named ∙ apart;
        few = omega arith;
        few_inputs = omega arith;
        few_outputs = omega arith;
        by_net = numbers;
        stored = long_stored;
        row = long_row;
        forced = long_forced;
      }
    where
      long : {A B : Type 0} (f : A → B) (xs : List A) → length (map f xs) ≡ length xs
      long f [] = refl
      long f (x ∷ xs) = ap suc (long f xs)

-- ---- the model of a file that is in order

module _ (file : ReadFile) (m : ReadModel) (first : m ≡ get_or file.models.items 0 m) (is_file : IsFile (file_of file)) where
  same_of : (ms : List ReadModel) (k : SpecModel) → m ≡ get_or ms 0 m → map model_of ms ≡ k ∷ [] → k ≡ model_of m
  same_of [] k e f = absurd (cc f)
  same_of (x ∷ ms) k e f = let g : model_of x ≡ k = cc f in sym g ∙ ap model_of (sym e)

  pub model_same : (o : IsOrdered (file_of file)) → o.model ≡ model_of m
  model_same o = same_of file.models.items o.model first o.one_model

  pub model_apart : (o : IsOrdered (file_of file)) → are_distinct (cell_nets (model_of m)) ≡ true
  model_apart o = ap (λ k. are_distinct (cell_nets k)) (sym (model_same o)) ∙ cells_distinct o.model (no_fault_of (file_of file) o)
