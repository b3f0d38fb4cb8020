-- The text of a guard whose nets are named has the shape of a guard of the source.
use Rattle.std.proofs.Common.{◌≡◌, refl, sym, ◌∙◌, ap, ap₂, subst, ℕ, zero, suc, ◌+◌, ◌≤◌, Bool, true, false, not, List, [], ◌∷◌, ◌++◌, length, map, filter, take, drop, get_or, slice_get, Some, arith, drop-cons, add-one, take_all, length-drop, length-append}
use Rattle.std.specs.List.{flat_map, range_with_len, enumerate_from}
use Rattle.std.proofs.lemmas.List.{length-map}
use Rattle.std.proofs.lemmas.List.FromFn.{length-range_with_len}
use Rattle.netlist_spec.specs.Netlist.{Name, stands_in, Clocking, Statement, Located, Model, File}
use Rattle.netlist_spec.specs.Models.{Latch, latches_of, Gate, gates_of, first_clocking, init_bits, latch_inputs, output_nets}
use Rattle.netlist_spec.specs.SourceRun.{Bits}
use Rattle.netlist_spec.specs.Gates.{LatchRow, Machine}
use Rattle.guard_spec.specs.Codes.{Code, IsCode, encoded}
use Rattle.guard_spec.specs.Words.{Words, Layout, bits_at, codewords}
use Rattle.netlist_spec.specs.CellBits.{cells_of, is_rail_name}
use Rattle.netlist_spec.specs.GuardNames.{store_name, next_name, rail_name, inner_name}
use Rattle.guard_spec.specs.Shaped.{latch_for, latches_for, guard_latches, check_outputs, rail_outputs, NeverBack, gate_cells, HasShape}
use Rattle.netlist_spec.specs.WrittenForm.{inner_outputs, HasWrittenForm}
use Rattle.netlist_spec.specs.Covers.{Library}
use Rattle.netlist_spec.specs.Elaborated.{Elaborated, IsElaborated}
use Rattle.netlist_spec.specs.Written.{Named, IsNamed, label_name, net_name, output_names, latch_labels, gate_labels, latch_statements, gate_statements, written_init_of, statements_from, line_count}
use Rattle.guard_spec.specs.Regions.{Guarded}
use Rattle.block_code.proofs.Coding.{length_encoded}
use Rattle.named_netlist.proofs.WrittenModel.{written_model}
use Rattle.named_netlist.proofs.NamedModels.{first_statement, own-names}
use Rattle.named_netlist.proofs.NamedFiles.{names-back, latches-of, gates-of, latch_at, gate_at, numbered_latches, numbered_gates, statements-long}
use Rattle.named_netlist.proofs.NamedForms.{gates-have_form}
use Rattle.containment.specs.Written.{IsWellNamed, NamesRails}
use Rattle.guard_laws.specs.Named.{place_names, stored_names, inner_gates, IsGuardNamed}
use Rattle.guard_laws.proofs.Lists.{get_map}
use Rattle.netlist_spec.proofs.WrittenFiles.{maps}

-- ---- lists

numbered_names : {A : Type 0} (names : List Name) (a : ℕ) (xs : List A) → a + length xs ≤ length names → map (λ (p : ℕ × A). get_or names p.0 []) (enumerate_from a xs) ≡ take (length xs) (drop a names)
numbered_names names a [] fits = refl
numbered_names names a (x ∷ xs) fits =
    ap (λ (rest : List Name). get_or names a [] ∷ rest) (numbered_names names (a + 1) xs (omega arith) ∙ ap (λ (k : ℕ). take (length xs) (drop k names)) (add-one a))
    ∙ ap (take (suc (length xs))) (sym (drop-cons names a [] (omega arith)))

items_back : {A B : Type 0} (f : A → B) (a : ℕ) (xs : List A) → map (λ (p : ℕ × A). f p.1) (enumerate_from a xs) ≡ map f xs
items_back f a [] = refl
items_back f a (x ∷ xs) = ap (λ l. f x ∷ l) (items_back f (a + 1) xs)

-- ---- latches from names

abbrev latches_by : Clocking → List Name → List Name → List Bool → List Latch
latches_by c [] ds bs = []
latches_by c (q ∷ qs) [] bs = []
latches_by c (q ∷ qs) (d ∷ ds) [] = []
latches_by c (q ∷ qs) (d ∷ ds) (b ∷ bs) = record { d = d; q = q; clocking = c; init = written_init_of b } ∷ latches_by c qs ds bs

by_rows : {A : Type 0} (c : Clocking) (q d : A → Name) (b : A → Bool) (xs : List A) → map {B = Latch} (λ x. record { d = d x; q = q x; clocking = c; init = written_init_of (b x) }) xs ≡ latches_by c (map q xs) (map d xs) (map b xs)
by_rows c q d b [] = refl
by_rows c q d b (x ∷ xs) = ap (λ (ls : List Latch). record { d = d x; q = q x; clocking = c; init = written_init_of (b x) } ∷ ls) (by_rows c q d b xs)

by_append : (c : Clocking) (qs ds : List Name) (bs : List Bool) (qs' ds' : List Name) (bs' : List Bool) → length qs ≡ length ds → length qs ≡ length bs → latches_by c (qs ++ qs') (ds ++ ds') (bs ++ bs') ≡ latches_by c qs ds bs ++ latches_by c qs' ds' bs'
by_append c [] [] [] qs' ds' bs' e f = refl
by_append c [] [] (b ∷ bs) qs' ds' bs' e f = absurd (omega arith)
by_append c [] (d ∷ ds) bs qs' ds' bs' e f = absurd (omega arith)
by_append c (q ∷ qs) [] bs qs' ds' bs' e f = absurd (omega arith)
by_append c (q ∷ qs) (d ∷ ds) [] qs' ds' bs' e f = absurd (omega arith)
by_append c (q ∷ qs) (d ∷ ds) (b ∷ bs) qs' ds' bs' e f = ap (λ (ls : List Latch). record { d = d; q = q; clocking = c; init = written_init_of b } ∷ ls) (by_append c qs ds bs qs' ds' bs' (omega arith) (omega arith))

one_word : (c : Clocking) (w a k : ℕ) (bits : Bits) → length bits ≡ k → latches_by c (map (store_name w) (range_with_len a k)) (map (next_name w) (range_with_len a k)) bits ≡ map (latch_for c w) (enumerate_from a bits)
one_word c w a zero [] e = refl
one_word c w a zero (b ∷ bits) e = absurd (omega arith)
one_word c w a (suc k) [] e = absurd (omega arith)
one_word c w a (suc k) (b ∷ bits) e = ap (λ (ls : List Latch). latch_for c w (a, b) ∷ ls) (one_word c w (a + 1) k bits (omega arith))

abbrev names_from : (ℕ → ℕ → Name) → ℕ → ℕ → Words → List Name
names_from name columns a words = flat_map (λ (word : ℕ × List ℕ). map (name word.0) (range_with_len 0 (length word.1 + columns))) (enumerate_from a words)

all_words : (code : Code) → IsCode code → (c : Clocking) (inits : Bits) (a : ℕ) (words : Words) → latches_by c (names_from store_name code.columns a words) (names_from next_name code.columns a words) (codewords code words inits) ≡ flat_map (latches_for code c inits) (enumerate_from a words)
all_words code is_code c inits a [] = refl
all_words code is_code c inits a (w ∷ words) =
    let long : length (encoded code (bits_at w inits)) ≡ length w + code.columns = length_encoded code is_code (bits_at w inits) ∙ ap (λ (n : ℕ). n + code.columns) (length-map w (λ i. get_or inits i false)) in
    let names_long : (name : ℕ → ℕ → Name) → length (map (name a) (range_with_len 0 (length w + code.columns))) ≡ length w + code.columns = λ name. length-map (range_with_len 0 (length w + code.columns)) (name a) ∙ length-range_with_len 0 (length w + code.columns) in
    by_append c (map (store_name a) (range_with_len 0 (length w + code.columns))) (map (next_name a) (range_with_len 0 (length w + code.columns))) (encoded code (bits_at w inits)) _ _ _ (names_long store_name ∙ sym (names_long next_name)) (names_long store_name ∙ sym long)
    ∙ ap₂ (λ (xs ys : List Latch). xs ++ ys) (one_word c a 0 (length w + code.columns) (encoded code (bits_at w inits)) long) (all_words code is_code c inits (a + 1) words)

-- ---- the model of a named gate list

module _ (n : Named) (named : IsNamed n) where
  names_long : length (map label_name n.labels) ≡ n.net.leaves + length n.net.gates
  names_long = length-map n.labels label_name ∙ named.labels

  latches_are : latches_of (written_model n) ≡ map (latch_at n) (numbered_latches n)
  latches_are = latches-of n named (first_statement n)

  gates_are : gates_of (written_model n) ≡ map (gate_at n) (numbered_gates n)
  gates_are = gates-of n named (first_statement n)

  gates_named : map (λ (k : Gate). k.out) (gates_of (written_model n)) ≡ gate_labels n
  gates_named =
      ap (map (λ (k : Gate). k.out)) gates_are ∙ maps (λ (k : Gate). k.out) (gate_at n) (numbered_gates n)
      ∙ numbered_names (map label_name n.labels) n.net.leaves n.net.gates (let a = names_long in omega arith)
      ∙ take_all (length n.net.gates) (drop n.net.leaves (map label_name n.labels)) (let a = names_long in let b = length-drop n.net.leaves (map label_name n.labels) in omega arith)

  shown_are : map (λ (p : ℕ × LatchRow). net_name n p.0) (numbered_latches n) ≡ latch_labels n
  shown_are = numbered_names (map label_name n.labels) n.data_inputs n.latches (let a = names_long in let b = named.leaves in omega arith)

  stored_are : map (λ (p : ℕ × LatchRow). net_name n p.1.d) (numbered_latches n) ≡ stored_names n
  stored_are = items_back (λ (r : LatchRow). net_name n r.d) n.data_inputs n.latches ∙ sym (maps (net_name n) (λ (r : LatchRow). r.d) n.latches)

  inits_are : map (λ (p : ℕ × LatchRow). p.1.init) (numbered_latches n) ≡ map (λ (r : LatchRow). r.init) n.latches
  inits_are = items_back (λ (r : LatchRow). r.init) n.data_inputs n.latches

  by_names : latches_of (written_model n) ≡ latches_by n.clocking (latch_labels n) (stored_names n) (map (λ (r : LatchRow). r.init) n.latches)
  by_names =
      latches_are ∙ by_rows n.clocking (λ (p : ℕ × LatchRow). net_name n p.0) (λ (p : ℕ × LatchRow). net_name n p.1.d) (λ (p : ℕ × LatchRow). p.1.init) (numbered_latches n)
      ∙ ap (λ (qs : List Name). latches_by n.clocking qs (map (λ (p : ℕ × LatchRow). net_name n p.1.d) (numbered_latches n)) (map (λ (p : ℕ × LatchRow). p.1.init) (numbered_latches n))) shown_are
      ∙ ap₂ (λ (ds : List Name) (bs : List Bool). latches_by n.clocking (latch_labels n) ds bs) stored_are inits_are

  inputs_stored : latch_inputs (written_model n) ≡ stored_names n
  inputs_stored = ap (map (λ (l : Latch). l.d)) latches_are ∙ maps (λ (l : Latch). l.d) (latch_at n) (numbered_latches n) ∙ stored_are

  outputs_named : output_nets (written_model n) ≡ output_names n
  outputs_named = names-back (3 + length n.inputs) (output_names n)

  lines_away : (k : ℕ) (ss : List Statement) → length (map (λ (s : Located). s.what) (statements_from k ss)) ≡ length ss
  lines_away k [] = refl
  lines_away k (s ∷ ss) = ap suc (lines_away (k + line_count s) ss)

  pub cells_counted : length (cells_of (written_model n)) ≡ length n.latches + length n.net.gates
  cells_counted = lines_away (first_statement n) (latch_statements n ++ gate_statements n) ∙ statements-long n named

  pub well_named : IsWellNamed n
  well_named = let own = own-names n named in record { leaves = named.leaves; labels = named.labels; apart = named.distinct; inputs = own.inputs }

  -- the cells that are neither outputs nor stored
  inner_are : inner_outputs (written_model n) (output_nets (written_model n) ++ latch_inputs (written_model n)) ≡ inner_gates n
  inner_are =
      ap₂ (λ (os ss : List Name). filter (λ k. not (stands_in k (os ++ ss))) (map (λ (k : Gate). k.out) (gates_of (written_model n)))) outputs_named inputs_stored
      ∙ ap (filter (λ k. not (stands_in k (output_names n ++ stored_names n)))) gates_named

  has_form : inner_gates n ≡ map inner_name (range_with_len 0 (length (inner_gates n))) → HasWrittenForm (written_model n) (output_nets (written_model n) ++ latch_inputs (written_model n))
  has_form numbered = record {
    gates = (gates-have_form n named).0;
    inner = inner_are ∙ numbered ∙ ap (λ (ns : List Name). map inner_name (range_with_len 0 (length ns))) (sym inner_are);
  }

  -- ---- beside a source
  module _ (file : File) (library : Library) (m : Model) (e : Elaborated) (g : Guarded) (code : Code) (l : Layout) (is_code : IsCode code) (elaborated : IsElaborated file library m e) (is : IsGuardNamed n g e code l)
      (starts : map (λ (r : LatchRow). r.init) g.machine.latches ≡ codewords code l.state (map (λ (r : LatchRow). r.init) e.machine.latches)) where
    inits_start : map (λ (r : LatchRow). r.init) n.latches ≡ codewords code l.state (init_bits m)
    inits_start = ap (λ (k : Machine). map (λ (r : LatchRow). r.init) k.latches) is.machine ∙ starts ∙ ap (codewords code l.state) elaborated.machine.inits

    guarding : latches_of (written_model n) ≡ guard_latches code (first_clocking (latches_of m)) (init_bits m) l.state
    guarding =
        by_names
        ∙ ap₂ (λ (qs ds : List Name). latches_by n.clocking qs ds (map (λ (r : LatchRow). r.init) n.latches)) is.shows is.stores
        ∙ ap₂ (λ (c : Clocking) (bs : Bits). latches_by c (place_names store_name code.columns l.state) (place_names next_name code.columns l.state) bs) (is.clocking ∙ elaborated.clocking) inits_start
        ∙ all_words code is_code (first_clocking (latches_of m)) (init_bits m) 0 l.state

    pub shape : NeverBack (written_model n) (gate_cells (written_model n)) → HasShape (written_model n) m code l g.rails
    shape order = record {
      name = is.model ∙ elaborated.model;
      inputs = names-back 3 n.inputs ∙ is.inputs ∙ elaborated.input_ports;
      clocks = names-back ((3 + length n.inputs) + length n.outputs) n.clocks ∙ is.clocks ∙ elaborated.clock_ports;
      outputs = outputs_named ∙ is.outputs ∙ ap (λ (os : List Name). os ++ check_outputs code l.output ++ rail_outputs g.rails) elaborated.output_names;
      latches = guarding;
      order = order;
      form = has_form is.inner;
    }

-- ---- rails

rail_is_named : (i : ℕ) → is_rail_name (rail_name i) ≡ true
rail_is_named i = refl

get_behind : {A : Type 0} (xs ys : List A) (i : ℕ) (x : A) → length xs ≤ i → slice_get (xs ++ ys) i ≡ Some x → (j : ℕ) × (slice_get ys j ≡ Some x)
get_behind [] ys i x h e = (i, e)
get_behind (a ∷ xs) ys zero x h e = absurd (omega arith)
get_behind (a ∷ xs) ys (suc i) x h e = get_behind xs ys i x (omega arith) e

from_map : {A B : Type 0} (f : A → B) (xs : List A) (i : ℕ) (y : B) → slice_get (map f xs) i ≡ Some y → (x : A) × (y ≡ f x)
from_map f [] i y e = cc e
from_map f (a ∷ xs) zero y e = (a, (let same : f a ≡ y = cc e in sym same))
from_map f (a ∷ xs) (suc i) y e = from_map f xs i y e

module _ (n : Named) (g : Guarded) (e : Elaborated) (code : Code) (l : Layout) (is : IsGuardNamed n g e code l) where
  front : List Name
  front = e.output_names ++ check_outputs code l.output

  pub rails_named : NamesRails n g.rails
  unfolding front
  rails_named i o at last =
      let whole : output_names n ≡ front ++ rail_outputs g.rails = is.outputs in
      let here : slice_get (front ++ rail_outputs g.rails) i ≡ Some (net_name n o) = sym (ap (λ (ns : List Name). slice_get ns i) whole) ∙ get_map (net_name n) n.outputs i o at in
      let long : length n.outputs ≡ length front + g.rails = sym (length-map n.outputs (net_name n)) ∙ ap length whole ∙ length-append front (rail_outputs g.rails) ∙ ap (λ (k : ℕ). length front + k) (length-map (range_with_len 0 g.rails) rail_name ∙ length-range_with_len 0 g.rails) in
      let late : length front ≤ i = omega arith in
      let (j, found) = get_behind front (rail_outputs g.rails) i (net_name n o) late here in
      let (k, same) = from_map rail_name (range_with_len 0 g.rails) j (net_name n o) found in
      subst (λ (x : Name). is_rail_name x ≡ true) (sym same) (rail_is_named k)
