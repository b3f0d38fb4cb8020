-- The file that a gate list is written as can be computed line by line.
use Rattle.std.proofs.Common.{◌≡◌, refl, sym, ◌∙◌, ap, ap₂, subst, ℕ, suc, ◌+◌, ◌<◌, ◌≤◌, List, [], ◌∷◌, ◌++◌, length, map, filter, take, drop, get_or, Bool, true, false, ◌||◌, ◌&&◌, not, cond, nat_le, Option, None, Some, inl, inr, append_assoc, append-nil, drop-cons, add-one, arith, ◌⊎◌, zero}
use Rattle.std.specs.Prelude.{IsTrue}
use Rattle.std.specs.Bool.{beq}
use Rattle.std.specs.Option.{option_or}
use Rattle.std.specs.List.{AllByRecursion, flat_map, list_all, enumerate_from}
use Rattle.std.specs.Cmp.Lexicographic.{bytes_decides}
use Rattle.std.proofs.lemmas.Grind.{common_steps, flat_map-append}
use Rattle.std.proofs.lemmas.Bool.{cases_lt}
use Rattle.std.proofs.lemmas.List.{take-append-drop, length-map}
use Rattle.netlist_spec.specs.Netlist.{Name, same_name, stands_in, are_distinct, HasControlAmong, Cover, Clocking, plain, edge, Statement, names, latch, Located, Model}
use Rattle.netlist_spec.specs.Models.{Latch, latches_of, latch_outputs, data_inputs, same_control, same_clocking, first_clocking, is_declared}
use Rattle.netlist_spec.specs.Gates.{GateForm, constant, one, two, ReadsBelow, LatchRow, gate_reads, gate_cover}
use Rattle.netlist_spec.specs.FileOrder.{Declared, an_input, an_output, a_clock, a_statement, Item, port_items, statement_items, place_item, by_line, items_of, first_answer, declared_input, declared_output, declared_clock, inputs_among, outputs_among, clocks_among}
use Rattle.netlist_spec.specs.Ordered.{driven_by, declared_cell, declared_gate, cells_among, gates_among, cell_nets, may_read, is_source, item_fault, IsOrdered}
use Rattle.netlist_spec.specs.Written.{Named, IsNamed, label_name, net_name, output_names, named_clocks, written_init_of, ports_from, line_count, statements_from, latch_statements, gate_statements, file_of}
use Rattle.netlist_spec.proofs.OneValue.{passes_both, none_both}
use Rattle.netlist_spec.proofs.NoFault.{other_way}
use Rattle.netlist_spec.proofs.Occurrences.{turn}
use Rattle.named_netlist.proofs.WrittenModel.{written_model}
use Rattle.named_netlist.proofs.NamedFiles.{names-back, latch_at, latch_written, gate_written, numbered_latches, numbered_gates, written_statements, statements-numbered}
use Rattle.named_netlist.proofs.NamedModels.{stands_in-append, same-latches, first-inputs, first-names}

-- ---- lines that never fall are in file order

abbrev IsRising : ℕ → List Item → Type 0
IsRising low [] = Unit {0}
IsRising low (x ∷ xs) = (low ≤ x.line) × IsRising x.line xs

rises_lower : (low high : ℕ) (xs : List Item) → low ≤ high → IsRising high xs → IsRising low xs
rises_lower low high [] h r = tt
rises_lower low high (x ∷ xs) h r = let e = r.0 in (omega arith, r.1)

below : (a b : ℕ) → a ≤ b → nat_le a b ≡ true
below a b h = grind (arith, common_steps, h)

place_front : (x : Item) (xs : List Item) → IsRising x.line xs → place_item x xs ≡ x ∷ xs
place_front x [] r = refl
place_front x (y ∷ ys) r = rw (below x.line y.line r.0) refl

in_order : (low : ℕ) (xs : List Item) → IsRising low xs → by_line xs ≡ xs
in_order low [] r = refl
in_order low (x ∷ xs) r = ap (place_item x) (in_order x.line xs r.1) ∙ place_front x xs r.1

ports_rise : (kind : Name → Declared) (n : ℕ) (ks : List Name) (rest : List Item) → IsRising (n + length ks) rest → IsRising n (port_items kind (ports_from n ks) ++ rest)
ports_rise kind n [] rest r = rises_lower n (n + 0) rest (omega arith) r
ports_rise kind n (k ∷ ks) rest r =
    let place : n + suc (length ks) ≡ (n + 1) + length ks = omega arith in
    let later = ports_rise kind (n + 1) ks rest (subst (λ (l : ℕ). IsRising l rest) place r) in
    (omega arith, rises_lower n (n + 1) _ (omega arith) later)

statements_rise : (n : ℕ) (ss : List Statement) → IsRising n (statement_items (statements_from n ss))
statements_rise n [] = tt
statements_rise n (s ∷ ss) = (omega arith, rises_lower n (n + line_count s) _ (omega arith) (statements_rise (n + line_count s) ss))

-- ---- names that stand in lists

abbrev AreNew : List Name → List Name → Type 0
AreNew seen ks = AllByRecursion (λ k. stands_in k seen ≡ false) ks

none_new : (ks : List Name) → AreNew [] ks
none_new [] = tt
none_new (k ∷ ks) = (refl, none_new ks)

fails_both : (a b : Bool) → (a || b) ≡ false → (a ≡ false) × (b ≡ false)
fails_both true b h = absurd (cc)
fails_both false b h = (refl, h)

still_new : (k n : Name) (seen : List Name) → stands_in k seen ≡ false → same_name n k ≡ false → stands_in k (seen ++ n ∷ []) ≡ false
still_new k n seen h e = stands_in-append k seen (n ∷ []) ∙ ap₂ (λ (a b : Bool). a || (b || false)) h (other_way n k e)

all_new : (n : Name) (seen ks : List Name) → AreNew seen ks → stands_in n ks ≡ false → AreNew (seen ++ n ∷ []) ks
all_new n seen [] h e = tt
all_new n seen (k ∷ ks) h e =
    let parts = fails_both (same_name n k) (stands_in n ks) e in
    (still_new k n seen h.0 parts.0, all_new n seen ks h.1 parts.1)

-- names that stand behind others in a list of distinct ones
front_absent : (x : Name) (ys : List Name) → stands_in x ys ≡ false → (xs : List Name) → AreNew xs ys → AreNew (x ∷ xs) ys
front_absent x [] h xs new = tt
front_absent x (y ∷ ys) h xs new =
    let parts = fails_both (same_name x y) (stands_in x ys) h in
    (ap₂ (λ (a b : Bool). a || b) (other_way x y parts.0) new.0, front_absent x ys parts.1 xs new.1)

behind_front : (xs ys : List Name) → are_distinct (xs ++ ys) ≡ true → AreNew xs ys × (are_distinct ys ≡ true)
behind_front [] ys d = (none_new ys, d)
behind_front (x ∷ xs) ys d =
    let both = passes_both _ _ d in
    let rest = behind_front xs ys both.1 in
    let none = turn _ both.0 in
    (front_absent x ys (fails_both (stands_in x xs) (stands_in x ys) (sym (stands_in-append x xs ys) ∙ none)).1 xs rest.0, rest.1)

self : (n : Name) → same_name n n ≡ true
self n = (bytes_decides n n).1 refl

stands_first : (n : Name) (ns : List Name) (b : Bool) → b ≡ true → (b || stands_in n ns) ≡ true
stands_first n ns true h = refl
stands_first n ns false h = cc h

stands_left : (n : Name) (xs ys : List Name) → stands_in n xs ≡ true → stands_in n (xs ++ ys) ≡ true
stands_left n xs ys h = stands_in-append n xs ys ∙ ap (λ (b : Bool). b || stands_in n ys) h

either_true : (a : Bool) → (a || true) ≡ true
either_true true = refl
either_true false = refl

stands_right : (n : Name) (xs ys : List Name) → stands_in n ys ≡ true → stands_in n (xs ++ ys) ≡ true
stands_right n xs ys h = stands_in-append n xs ys ∙ ap (λ (b : Bool). stands_in n xs || b) h ∙ either_true (stands_in n xs)

-- a name from the front of a list stands in that front
stands_taken : (ns : List Name) (k i : ℕ) → i < k → i < length ns → stands_in (get_or ns i []) (take k ns) ≡ true
stands_taken [] k i h inside = absurd (omega arith)
stands_taken (n ∷ ns) zero i h inside = absurd (omega arith)
stands_taken (n ∷ ns) (suc k) zero h inside = stands_first n (take k ns) (same_name n n) (self n)
stands_taken (n ∷ ns) (suc k) (suc i) h inside =
    ap (λ (b : Bool). same_name (get_or ns i []) n || b) (stands_taken ns k i (omega arith) (omega arith)) ∙ either_true (same_name (get_or ns i []) n)

-- a name that passes a test stands in a list where it stands in what the test keeps
absent_before : (p : Name → Bool) (n : Name) → p n ≡ true → (ns : List Name) → stands_in n (filter p ns) ≡ false → stands_in n ns ≡ false
absent_before p n h [] none = refl
absent_before p n h (k ∷ ks) none = by_test (p k) refl (absent_before p n h ks) none
  where
    unequal : (b : Bool) → same_name n k ≡ b → p k ≡ false → b ≡ false
    unequal true e f = absurd (cc (ap p ((bytes_decides n k).0 e), h, f))
    unequal false e f = refl

    by_test : (b : Bool) → p k ≡ b → (stands_in n (filter p ks) ≡ false → stands_in n ks ≡ false) → stands_in n (cond b (k ∷ filter p ks) (filter p ks)) ≡ false → stands_in n (k ∷ ks) ≡ false
    by_test true e rest none = let parts = fails_both (same_name n k) (stands_in n (filter p ks)) none in ap₂ (λ (a b : Bool). a || b) parts.0 (rest parts.1)
    by_test false e rest none = ap₂ (λ (a b : Bool). a || b) (unequal (same_name n k) refl e) (rest none)

all_absent : (p : Name → Bool) (ns ks : List Name) → AllByRecursion (λ k. IsTrue (p k)) ks → AreNew (filter p ns) ks → AreNew ns ks
all_absent p ns [] pass new = tt
all_absent p ns (k ∷ ks) pass new = (absent_before p k pass.0 ns new.0, all_absent p ns ks pass.1 new.1)

all_behind : {A : Type 0} (P : A → Type 0) (k : ℕ) (xs : List A) → AllByRecursion P xs → AllByRecursion P (drop k xs)
all_behind P zero xs h = h
all_behind P (suc k) [] h = tt
all_behind P (suc k) (x ∷ xs) h = all_behind P k xs h.1

no_clocks : (g : Named) (ks : List Name) → AllByRecursion (λ n. IsTrue (not (stands_in n (named_clocks g)))) ks → AreNew g.clocks ks
no_clocks g [] h = tt
no_clocks g (k ∷ ks) h =
    ((fails_both (stands_in k g.clocks) _ (sym (stands_in-append k g.clocks _) ∙ turn _ h.0)).0, no_clocks g ks h.1)

-- ---- what some items declare

none_among : (f : Declared → List Name) (kind : Name → Declared) → ((n : Name) → f (kind n) ≡ []) → (k : ℕ) (ns : List Name) → flat_map (λ i. f i.what) (port_items kind (ports_from k ns)) ≡ []
none_among f kind e k [] = refl
none_among f kind e k (n ∷ ns) = ap₂ (λ (a b : List Name). a ++ b) (e n) (none_among f kind e (k + 1) ns)

all_among : (f : Declared → List Name) (kind : Name → Declared) → ((n : Name) → f (kind n) ≡ n ∷ []) → (k : ℕ) (ns : List Name) → flat_map (λ i. f i.what) (port_items kind (ports_from k ns)) ≡ ns
all_among f kind e k [] = refl
all_among f kind e k (n ∷ ns) = ap₂ (λ (a b : List Name). a ++ b) (e n) (all_among f kind e (k + 1) ns)

abbrev among : (Declared → List Name) → List Item → List Name
among f items = flat_map (λ i. f i.what) items

same_among : (f : Declared → List Name) (earlier : List Item) (x : Item) → f x.what ≡ [] → among f (earlier ++ x ∷ []) ≡ among f earlier
same_among f earlier x e = flat_map-append (λ i. f i.what) earlier (x ∷ []) ∙ ap (λ (l : List Name). among f earlier ++ (l ++ [])) e ∙ append-nil (among f earlier)

more_among : (f : Declared → List Name) (earlier : List Item) (x : Item) (n : Name) → f x.what ≡ n ∷ [] → among f (earlier ++ x ∷ []) ≡ among f earlier ++ n ∷ []
more_among f earlier x n e = flat_map-append (λ i. f i.what) earlier (x ∷ []) ∙ ap (λ (l : List Name). among f earlier ++ (l ++ [])) e

-- ---- no line is at fault

same_clock : (c : Clocking) → same_clocking c c ≡ true
same_clock plain = refl
same_clock (edge rising control) = both (beq rising rising) (same_control control control) (same_bit rising) (same_name_of control)
  where
    same_bit : (b : Bool) → beq b b ≡ true
    same_bit true = refl
    same_bit false = refl

    same_name_of : (o : Option Name) → same_control o o ≡ true
    same_name_of None = refl
    same_name_of (Some n) = self n

    both : (a b : Bool) → a ≡ true → b ≡ true → (a && b) ≡ true
    both true b ha hb = hb
    both false b ha hb = cc ha

module _ (m : Model) where
  abbrev NoFault : List Item → List Item → Type 0
  NoFault earlier items = first_answer (item_fault m) earlier items ≡ None

  one_more : (earlier : List Item) (x : Item) (xs : List Item) → item_fault m earlier x ≡ None → NoFault (earlier ++ x ∷ []) xs → NoFault earlier (x ∷ xs)
  one_more earlier x xs here more = ap₂ option_or here more

  all_sound : (earlier xs ys : List Item) → NoFault earlier xs → NoFault (earlier ++ xs) ys → NoFault earlier (xs ++ ys)
  all_sound earlier [] ys h k = rw append-nil at k
  all_sound earlier (x ∷ xs) ys h k =
      let parts = none_both (item_fault m earlier x) (first_answer (item_fault m) (earlier ++ x ∷ []) xs) h in
      one_more earlier x (xs ++ ys) parts.0 (all_sound (earlier ++ x ∷ []) xs ys parts.1 (subst (λ (l : List Item). NoFault l ys) (sym (append_assoc earlier (x ∷ []) xs)) k))

  input_sound : (earlier : List Item) (n : Name) (line : ℕ) → stands_in n (inputs_among earlier) ≡ false → cells_among earlier ≡ [] → item_fault m earlier (record { line = line; what = an_input n }) ≡ None
  input_sound earlier n line new cells = rw (new, cells) refl

  inputs_sound : (earlier : List Item) (k : ℕ) (ns : List Name) → AreNew (inputs_among earlier) ns → cells_among earlier ≡ [] → are_distinct ns ≡ true → NoFault earlier (port_items (λ n. an_input n) (ports_from k ns))
  inputs_sound earlier k [] new cells distinct = refl
  inputs_sound earlier k (n ∷ ns) new cells distinct =
      let x : Item = record { line = k; what = an_input n } in
      let both = passes_both _ _ distinct in
      one_more earlier x (port_items (λ n. an_input n) (ports_from (k + 1) ns)) (input_sound earlier n k new.0 cells)
      (inputs_sound (earlier ++ x ∷ []) (k + 1) ns (subst (λ (l : List Name). AreNew l ns) (sym (more_among declared_input earlier x n refl)) (all_new n (inputs_among earlier) ns new.1 (turn _ both.0)))
      (same_among declared_cell earlier x refl ∙ cells) both.1)

  clock_sound : (earlier : List Item) (n : Name) (line : ℕ) → stands_in n (clocks_among earlier) ≡ false → cells_among earlier ≡ [] → item_fault m earlier (record { line = line; what = a_clock n }) ≡ None
  clock_sound earlier n line new cells = rw (new, cells) refl

  clocks_sound : (earlier : List Item) (k : ℕ) (ns : List Name) → AreNew (clocks_among earlier) ns → cells_among earlier ≡ [] → are_distinct ns ≡ true → NoFault earlier (port_items (λ n. a_clock n) (ports_from k ns))
  clocks_sound earlier k [] new cells distinct = refl
  clocks_sound earlier k (n ∷ ns) new cells distinct =
      let x : Item = record { line = k; what = a_clock n } in
      let both = passes_both _ _ distinct in
      one_more earlier x (port_items (λ n. a_clock n) (ports_from (k + 1) ns)) (clock_sound earlier n k new.0 cells)
      (clocks_sound (earlier ++ x ∷ []) (k + 1) ns (subst (λ (l : List Name). AreNew l ns) (sym (more_among declared_clock earlier x n refl)) (all_new n (clocks_among earlier) ns new.1 (turn _ both.0)))
      (same_among declared_cell earlier x refl ∙ cells) both.1)

  output_sound : (earlier : List Item) (n : Name) (line : ℕ) → stands_in n (outputs_among earlier) ≡ false → is_source m n ≡ true → item_fault m earlier (record { line = line; what = an_output n }) ≡ None
  output_sound earlier n line new source = rw (new, source) refl

  outputs_sound : (earlier : List Item) (k : ℕ) (ns : List Name) → AreNew (outputs_among earlier) ns → AllByRecursion (λ n. is_source m n ≡ true) ns → are_distinct ns ≡ true → NoFault earlier (port_items (λ n. an_output n) (ports_from k ns))
  outputs_sound earlier k [] new sources distinct = refl
  outputs_sound earlier k (n ∷ ns) new sources distinct =
      let x : Item = record { line = k; what = an_output n } in
      let both = passes_both _ _ distinct in
      one_more earlier x (port_items (λ n. an_output n) (ports_from (k + 1) ns)) (output_sound earlier n k new.0 sources.0)
      (outputs_sound (earlier ++ x ∷ []) (k + 1) ns (subst (λ (l : List Name). AreNew l ns) (sym (more_among declared_output earlier x n refl)) (all_new n (outputs_among earlier) ns new.1 (turn _ both.0))) sources.1 both.1)

  -- Names of cells that nothing before drives.
  record AreUndriven (earlier : List Item) (ks : List Name) : Type 0 where
    inputs : AreNew (inputs_among earlier) ks
    clocks : AreNew (clocks_among earlier) ks
    cells : AreNew (cells_among earlier) ks

  next_cell : (earlier : List Item) (x : Item) (k : Name) (ks : List Name) → declared_input x.what ≡ [] → declared_clock x.what ≡ [] → declared_cell x.what ≡ k ∷ [] → stands_in k ks ≡ false → AreUndriven earlier (k ∷ ks) → AreUndriven (earlier ++ x ∷ []) ks
  next_cell earlier x k ks i c d none h =
      record {
        inputs = subst (λ (l : List Name). AreNew l ks) (sym (same_among declared_input earlier x i)) h.inputs.1;
        clocks = subst (λ (l : List Name). AreNew l ks) (sym (same_among declared_clock earlier x c)) h.clocks.1;
        cells = subst (λ (l : List Name). AreNew l ks) (sym (more_among declared_cell earlier x k d)) (all_new k (cells_among earlier) ks h.cells.1 none);
      }

  latch_sound : (earlier : List Item) (line : ℕ) (d q : Name) (c : Clocking) (init : Option ℕ) → stands_in q (inputs_among earlier) ≡ false → stands_in q (clocks_among earlier) ≡ false → stands_in q (cells_among earlier) ≡ false
      → is_source m d ≡ true → same_clocking c (first_clocking (latches_of m)) ≡ true → is_declared m c ≡ true → item_fault m earlier (record { line = line; what = a_statement (latch d q c init) }) ≡ None
  latch_sound earlier line d q c init i k n source same declared = rw (i, k, n, source, same, declared) refl

  gate_sound : (earlier : List Item) (line : ℕ) (s : List Name) (y : Name) (cover : Cover) → stands_in y (inputs_among earlier) ≡ false → stands_in y (clocks_among earlier) ≡ false → stands_in y (cells_among earlier) ≡ false
      → list_all (may_read m earlier) s ≡ true → item_fault m earlier (record { line = line; what = a_statement (names s y cover) }) ≡ None
  gate_sound earlier line s y cover i k n reads = rw (i, k, n, reads) refl

-- ---- the items of the file

module _ (g : Named) where
  abbrev m : Model
  m = written_model g

  abbrev outputs_at : ℕ
  outputs_at = 3 + length g.inputs

  abbrev clocks_at : ℕ
  clocks_at = outputs_at + length g.outputs

  abbrev statements_at : ℕ
  statements_at = clocks_at + length g.clocks

  abbrev input_items : List Item
  input_items = port_items (λ n. an_input n) (ports_from 3 g.inputs)

  abbrev output_items : List Item
  output_items = port_items (λ n. an_output n) (ports_from outputs_at (output_names g))

  abbrev clock_items : List Item
  clock_items = port_items (λ n. a_clock n) (ports_from clocks_at g.clocks)

  abbrev cell_items : ℕ → List (ℕ × LatchRow) → List (ℕ × GateForm) → List Item
  cell_items n zs ys = statement_items (statements_from n (map (latch_written g) zs ++ map (gate_written g) ys))

  abbrev cell_names : List (ℕ × LatchRow) → List (ℕ × GateForm) → List Name
  cell_names zs ys = map (λ (p : ℕ × LatchRow). net_name g p.0) zs ++ map (λ (p : ℕ × GateForm). net_name g p.0) ys

  abbrev gate_names : List (ℕ × GateForm) → List Name
  gate_names ys = map (λ (p : ℕ × GateForm). net_name g p.0) ys

  abbrev all_names : List Name
  all_names = map label_name g.labels

  long : IsNamed g → length all_names ≡ g.net.leaves + length g.net.gates
  long named = length-map g.labels label_name ∙ named.labels

  -- the names of the cells are those behind the data inputs
  pub gates_behind : (a : ℕ) (ys : List GateForm) → a + length ys ≡ length all_names → gate_names (enumerate_from a ys) ≡ drop a all_names
  gates_behind a [] h = sym (none_left a all_names (omega arith))
    where
      none_left : (a : ℕ) (ns : List Name) → length ns ≤ a → drop a ns ≡ []
      none_left zero [] h = refl
      none_left zero (n ∷ ns) h = absurd (omega arith)
      none_left (suc a) [] h = refl
      none_left (suc a) (n ∷ ns) h = none_left a ns (omega arith)
  gates_behind a (y ∷ ys) h =
      let rest : gate_names (enumerate_from (a + 1) ys) ≡ drop (suc a) all_names = gates_behind (a + 1) ys (omega arith) ∙ ap (λ (k : ℕ). drop k all_names) (add-one a) in
      ap (λ (l : List Name). net_name g a ∷ l) rest ∙ sym (drop-cons all_names a [] (omega arith))

  cells_behind : (a : ℕ) (zs : List LatchRow) (b : ℕ) (ys : List GateForm) → a + length zs ≡ b → b + length ys ≡ length all_names → cell_names (enumerate_from a zs) (enumerate_from b ys) ≡ drop a all_names
  cells_behind a [] b ys e h =
      let same : b ≡ a = omega arith in
      gates_behind b ys h ∙ ap (λ (k : ℕ). drop k all_names) same
  cells_behind a (z ∷ zs) b ys e h =
      let rest : cell_names (enumerate_from (a + 1) zs) (enumerate_from b ys) ≡ drop (suc a) all_names = cells_behind (a + 1) zs b ys (omega arith) h ∙ ap (λ (k : ℕ). drop k all_names) (add-one a) in
      ap (λ (l : List Name). net_name g a ∷ l) rest ∙ sym (drop-cons all_names a [] (omega arith))

  -- ---- what may be read, and where a net comes from

  abbrev IsReadable : List Item → ℕ → Type 0
  IsReadable earlier k = (a : ℕ) → a < k → may_read m earlier (net_name g a) ≡ true

  shown_by : (a : ℕ) (ls : List LatchRow) (i : ℕ) → a ≤ i → i < a + length ls → stands_in (net_name g i) (map (λ (l : Latch). l.q) (map (latch_at g) (enumerate_from a ls))) ≡ true
  shown_by a [] i low high = absurd (omega arith)
  shown_by a (l ∷ ls) i low high = by_case (cases_lt a i) (λ above. shown_by (a + 1) ls i (omega (arith, above)) (omega arith))
    where
      by_case : (a < i) ⊎ (i ≤ a) → (a < i → stands_in (net_name g i) (map (λ (l : Latch). l.q) (map (latch_at g) (enumerate_from (a + 1) ls))) ≡ true)
          → stands_in (net_name g i) (map (λ (l : Latch). l.q) (map (latch_at g) (enumerate_from a (l ∷ ls)))) ≡ true
      by_case (inl above) rest =
          ap (λ (b : Bool). same_name (net_name g i) (net_name g a) || b) (rest above) ∙ either_true (same_name (net_name g i) (net_name g a))
      by_case (inr under) rest =
          let same : i ≡ a = omega arith in
          stands_first (net_name g i) (map (λ (l : Latch). l.q) (map (latch_at g) (enumerate_from (a + 1) ls))) (same_name (net_name g i) (net_name g a)) (ap (λ (k : ℕ). same_name (net_name g i) (net_name g k)) (sym same) ∙ self (net_name g i))

  or_more : (p r s : Bool) → (r ≡ true → s ≡ true) → (p || r) ≡ true → (p || s) ≡ true
  or_more true r s f h = refl
  or_more false r s f h = f h

  or_second : (p r : Bool) → r ≡ true → (p || r) ≡ true
  or_second p r h = ap (λ (b : Bool). p || b) h ∙ either_true p

  or_first : (p r : Bool) → p ≡ true → (p || r) ≡ true
  or_first true r h = refl
  or_first false r h = cc h

  readable_more : (earlier : List Item) (x : Item) (k : ℕ) → declared_gate x.what ≡ net_name g k ∷ [] → IsReadable earlier k → IsReadable (earlier ++ x ∷ []) (k + 1)
  readable_more earlier x k e h a below = by_case (cases_lt a k)
    where
      more : among declared_gate (earlier ++ x ∷ []) ≡ among declared_gate earlier ++ net_name g k ∷ []
      more = more_among declared_gate earlier x (net_name g k) e

      by_case : (a < k) ⊎ (k ≤ a) → may_read m (earlier ++ x ∷ []) (net_name g a) ≡ true
      by_case (inl under) =
          or_more (stands_in (net_name g a) (data_inputs m) || stands_in (net_name g a) (latch_outputs m)) (stands_in (net_name g a) (gates_among earlier)) (stands_in (net_name g a) (gates_among (earlier ++ x ∷ [])))
          (λ s. ap (stands_in (net_name g a)) more ∙ stands_left (net_name g a) (among declared_gate earlier) (net_name g k ∷ []) s) (h a under)
      by_case (inr above) =
          let same : k ≡ a = omega arith in
          or_second (stands_in (net_name g a) (data_inputs m) || stands_in (net_name g a) (latch_outputs m)) (stands_in (net_name g a) (gates_among (earlier ++ x ∷ [])))
          (ap (stands_in (net_name g a)) more
          ∙ stands_right (net_name g a) (among declared_gate earlier) (net_name g k ∷ []) (or_first (same_name (net_name g a) (net_name g k)) false (ap (λ (j : ℕ). same_name (net_name g a) (net_name g j)) same ∙ self (net_name g a))))

  reads_pass : (earlier : List Item) (k : ℕ) (x : GateForm) → ReadsBelow k x → IsReadable earlier k → list_all (may_read m earlier) (map (net_name g) (gate_reads x)) ≡ true
  reads_pass earlier k (constant b) r h = refl
  reads_pass earlier k (one inv a) r h = ap (λ (t : Bool). t && true) (h a r)
  reads_pass earlier k (two op a b) r h = ap₂ (λ (s t : Bool). s && (t && true)) (h a r.0) (h b r.1)

  gates_sound : (ys : List GateForm) (k : ℕ) (earlier : List Item) (n : ℕ) → AllByRecursion (λ (p : ℕ × GateForm). ReadsBelow p.0 p.1) (enumerate_from k ys)
      → AreUndriven m earlier (gate_names (enumerate_from k ys)) → are_distinct (gate_names (enumerate_from k ys)) ≡ true → IsReadable earlier k → NoFault m earlier (cell_items n [] (enumerate_from k ys))
  gates_sound [] k earlier n reads new distinct readable = refl
  gates_sound (y ∷ ys) k earlier n reads new distinct readable =
      let s = gate_written g (k, y) in
      let x : Item = record { line = n; what = a_statement s } in
      let both = passes_both _ _ distinct in
      one_more m earlier x (cell_items (n + line_count s) [] (enumerate_from (k + 1) ys))
      (gate_sound m earlier n (map (net_name g) (gate_reads y)) (net_name g k) (gate_cover y) new.inputs.0 new.clocks.0 new.cells.0 (reads_pass earlier k y reads.0 readable))
      (gates_sound ys (k + 1) (earlier ++ x ∷ []) (n + line_count s) reads.1 (next_cell m earlier x (net_name g k) (gate_names (enumerate_from (k + 1) ys)) refl refl refl (turn _ both.0) new) both.1 (readable_more earlier x k refl readable))

  module _ (named : IsNamed g) where
    cells_are : cell_nets m ≡ drop g.data_inputs all_names
    cells_are =
        without_lines statements_at (latch_statements g ++ gate_statements g) ∙ ap (flat_map driven_by) (statements-numbered g named)
        ∙ driven (numbered_latches g) (numbered_gates g)
        ∙ cells_behind g.data_inputs g.latches g.net.leaves g.net.gates (sym named.leaves) (sym (long named))
      where
        without_lines : (n : ℕ) (ss : List Statement) → flat_map (λ (s : Located). driven_by s.what) (statements_from n ss) ≡ flat_map driven_by ss
        without_lines n [] = refl
        without_lines n (s ∷ ss) = ap (λ (l : List Name). driven_by s ++ l) (without_lines (n + line_count s) ss)

        driven_gates : (ys : List (ℕ × GateForm)) → flat_map driven_by (map (gate_written g) ys) ≡ gate_names ys
        driven_gates [] = refl
        driven_gates (y ∷ ys) = ap (λ (l : List Name). net_name g y.0 ∷ l) (driven_gates ys)

        driven : (zs : List (ℕ × LatchRow)) (ys : List (ℕ × GateForm)) → flat_map driven_by (map (latch_written g) zs ++ map (gate_written g) ys) ≡ cell_names zs ys
        driven [] ys = driven_gates ys
        driven (z ∷ zs) ys = ap (λ (l : List Name). net_name g z.0 ∷ l) (driven zs ys)

    from_input : (a : ℕ) → a < g.data_inputs → stands_in (net_name g a) (data_inputs m) ≡ true
    from_input a h = ap (stands_in (net_name g a)) (first-inputs g named) ∙ stands_taken all_names g.data_inputs a h (let e = long named in let l = named.leaves in omega arith)

    sourced : (a : ℕ) → a < g.net.leaves + length g.net.gates → is_source m (net_name g a) ≡ true
    sourced a h = by_case (cases_lt a g.data_inputs)
      where
        stands_dropped : (ns : List Name) (k i : ℕ) → k ≤ i → i < length ns → stands_in (get_or ns i []) (drop k ns) ≡ true
        stands_dropped [] k i low inside = absurd (omega arith)
        stands_dropped (n ∷ ns) zero i low inside = stands_taken_all (n ∷ ns) i inside
          where
            stands_taken_all : (ns : List Name) (i : ℕ) → i < length ns → stands_in (get_or ns i []) ns ≡ true
            stands_taken_all [] i h = absurd (omega arith)
            stands_taken_all (n ∷ ns) zero h = stands_first n ns (same_name n n) (self n)
            stands_taken_all (n ∷ ns) (suc i) h = or_second (same_name (get_or ns i []) n) (stands_in (get_or ns i []) ns) (stands_taken_all ns i (omega arith))
        stands_dropped (n ∷ ns) (suc k) zero low inside = absurd (omega arith)
        stands_dropped (n ∷ ns) (suc k) (suc i) low inside = stands_dropped ns k i (omega arith) (omega arith)

        by_case : (a < g.data_inputs) ⊎ (g.data_inputs ≤ a) → is_source m (net_name g a) ≡ true
        by_case (inl under) = or_first (stands_in (net_name g a) (data_inputs m)) (stands_in (net_name g a) (cell_nets m)) (from_input a under)
        by_case (inr above) =
            or_second (stands_in (net_name g a) (data_inputs m)) (stands_in (net_name g a) (cell_nets m))
            (ap (stands_in (net_name g a)) cells_are ∙ stands_dropped all_names g.data_inputs a above (let e = long named in omega arith))

    sourced_all : (ns : List ℕ) → AllByRecursion (λ n. n < g.net.leaves + length g.net.gates) ns → AllByRecursion (λ n. is_source m n ≡ true) (map (net_name g) ns)
    sourced_all [] h = tt
    sourced_all (n ∷ ns) h = (sourced n h.0, sourced_all ns h.1)

    readable_leaves : (earlier : List Item) → IsReadable earlier g.net.leaves
    readable_leaves earlier a h =
        or_first (stands_in (net_name g a) (data_inputs m) || stands_in (net_name g a) (latch_outputs m)) (stands_in (net_name g a) (gates_among earlier)) (by_case (cases_lt a g.data_inputs))
      where
        by_case : (a < g.data_inputs) ⊎ (g.data_inputs ≤ a) → (stands_in (net_name g a) (data_inputs m) || stands_in (net_name g a) (latch_outputs m)) ≡ true
        by_case (inl under) = or_first (stands_in (net_name g a) (data_inputs m)) (stands_in (net_name g a) (latch_outputs m)) (from_input a under)
        by_case (inr above) =
            or_second (stands_in (net_name g a) (data_inputs m)) (stands_in (net_name g a) (latch_outputs m))
            (ap (λ (ls : List Latch). stands_in (net_name g a) (map (λ (l : Latch). l.q) ls)) (same-latches g named) ∙ shown_by g.data_inputs g.latches a above (let e = named.leaves in omega arith))

    first_clock : first_clocking (latches_of m) ≡ g.clocking
    first_clock = ap first_clocking (same-latches g named) ∙ first g.data_inputs g.latches named.clocking
      where
        first : (a : ℕ) (ls : List LatchRow) → (ls ≡ [] → g.clocking ≡ plain) → first_clocking (map (latch_at g) (enumerate_from a ls)) ≡ g.clocking
        first a [] h = sym (h refl)
        first a (l ∷ ls) h = refl

    clocked : same_clocking g.clocking (first_clocking (latches_of m)) ≡ true
    clocked = ap (same_clocking g.clocking) first_clock ∙ same_clock g.clocking

    declared : is_declared m g.clocking ≡ true
    declared = by_clocking g.clocking named.control
      where
        by_clocking : (c : Clocking) → HasControlAmong (g.inputs ++ g.clocks) c → is_declared m c ≡ true
        by_clocking plain h = refl
        by_clocking (edge rising None) h = refl
        by_clocking (edge rising (Some n)) h =
            ap₂ (λ (xs ys : List Name). stands_in n xs || stands_in n ys) (names-back 3 g.inputs) (names-back clocks_at g.clocks) ∙ (sym (stands_in-append n g.inputs g.clocks) ∙ h.0)

    latches_sound : (zs : List LatchRow) (a : ℕ) (earlier : List Item) (n : ℕ) → AllByRecursion (λ (l : LatchRow). l.d < g.net.leaves + length g.net.gates) zs
        → AreUndriven m earlier (cell_names (enumerate_from a zs) (numbered_gates g)) → are_distinct (cell_names (enumerate_from a zs) (numbered_gates g)) ≡ true → NoFault m earlier (cell_items n (enumerate_from a zs) (numbered_gates g))
    latches_sound [] a earlier n stores new distinct = gates_sound g.net.gates g.net.leaves earlier n named.gates new distinct (readable_leaves earlier)
    latches_sound (z ∷ zs) a earlier n stores new distinct =
        let s = latch_written g (a, z) in
        let x : Item = record { line = n; what = a_statement s } in
        let both = passes_both _ _ distinct in
        one_more m earlier x (cell_items (n + 1) (enumerate_from (a + 1) zs) (numbered_gates g))
        (latch_sound m earlier n (net_name g z.d) (net_name g a) g.clocking (written_init_of z.init) new.inputs.0 new.clocks.0 new.cells.0 (sourced z.d stores.0) clocked declared)
        (latches_sound zs (a + 1) (earlier ++ x ∷ []) (n + 1) stores.1 (next_cell m earlier x (net_name g a) (cell_names (enumerate_from (a + 1) zs) (numbered_gates g)) refl refl refl (turn _ both.0) new) both.1)

    -- ---- all lines

    abbrev cells_written : List Item
    cells_written = cell_items statements_at (numbered_latches g) (numbered_gates g)

    items_are : items_of m ≡ ((input_items ++ output_items) ++ clock_items) ++ cells_written
    items_are =
        let behind : outputs_at + length (output_names g) ≡ clocks_at = ap (λ (k : ℕ). outputs_at + k) (length-map g.outputs (net_name g)) in
        let last = statements_rise statements_at (written_statements g) in
        let clocks = ports_rise (λ n. a_clock n) clocks_at g.clocks cells_written last in
        let outputs = ports_rise (λ n. an_output n) outputs_at (output_names g) (clock_items ++ cells_written) (subst (λ (k : ℕ). IsRising k (clock_items ++ cells_written)) (sym behind) clocks) in
        let inputs = ports_rise (λ n. an_input n) 3 g.inputs (output_items ++ (clock_items ++ cells_written)) outputs in
        ap (λ (ss : List Statement). by_line (((input_items ++ output_items) ++ clock_items) ++ statement_items (statements_from statements_at ss))) (statements-numbered g named)
        ∙ in_order 3 (((input_items ++ output_items) ++ clock_items) ++ cells_written)
        (subst (λ (l : List Item). IsRising 3 l) (regroup input_items output_items clock_items cells_written) inputs)
      where
        regroup : (a b c d : List Item) → a ++ (b ++ (c ++ d)) ≡ ((a ++ b) ++ c) ++ d
        regroup a b c d = sym (simp append_assoc)

    two_among : (f : Declared → List Name) (xs ys : List Item) (a b : List Name) → among f xs ≡ a → among f ys ≡ b → among f (xs ++ ys) ≡ a ++ b
    two_among f xs ys a b ea eb = flat_map-append (λ i. f i.what) xs ys ∙ ap₂ (λ (p q : List Name). p ++ q) ea eb

    undriven : AreUndriven m ((input_items ++ output_items) ++ clock_items) (cell_names (numbered_latches g) (numbered_gates g))
    undriven =
        let p : Name → Bool = λ n. not (stands_in n (named_clocks g)) in
        let cells = cells_behind g.data_inputs g.latches g.net.leaves g.net.gates (sym named.leaves) (sym (long named)) in
        let behind = drop g.data_inputs all_names in
        let parts = behind_front (take g.data_inputs all_names) behind (ap are_distinct (take-append-drop g.data_inputs all_names) ∙ named.distinct) in
        let pass = all_behind (λ n. IsTrue (p n)) g.data_inputs all_names named.no_clock in
        let inputs : AreNew g.inputs behind = all_absent p g.inputs behind pass (subst (λ (l : List Name). AreNew l behind) (first-names g named) parts.0) in
        let are_inputs : inputs_among ((input_items ++ output_items) ++ clock_items) ≡ g.inputs
        = two_among declared_input (input_items ++ output_items) clock_items (g.inputs ++ []) []
        (two_among declared_input input_items output_items g.inputs [] (all_among declared_input (λ n. an_input n) (λ n. refl) 3 g.inputs) (none_among declared_input (λ n. an_output n) (λ n. refl) outputs_at (output_names g)))
        (none_among declared_input (λ n. a_clock n) (λ n. refl) clocks_at g.clocks) ∙ append-nil (g.inputs ++ []) ∙ append-nil g.inputs in
        let are_clocks : clocks_among ((input_items ++ output_items) ++ clock_items) ≡ g.clocks
        = two_among declared_clock (input_items ++ output_items) clock_items [] g.clocks no_clocks_yet (all_among declared_clock (λ n. a_clock n) (λ n. refl) clocks_at g.clocks) in
        let are_cells : cells_among ((input_items ++ output_items) ++ clock_items) ≡ []
        = two_among declared_cell (input_items ++ output_items) clock_items [] [] no_cells_yet (none_among declared_cell (λ n. a_clock n) (λ n. refl) clocks_at g.clocks) in
        subst (λ (l : List Name). AreUndriven m ((input_items ++ output_items) ++ clock_items) l) (sym cells) (record {
          inputs = subst (λ (l : List Name). AreNew l behind) (sym are_inputs) inputs;
          clocks = subst (λ (l : List Name). AreNew l behind) (sym are_clocks) (no_clocks g behind pass);
          cells = subst (λ (l : List Name). AreNew l behind) (sym are_cells) (none_new behind);
        })
      where
        no_clocks_yet : clocks_among (input_items ++ output_items) ≡ []
        no_clocks_yet =
            two_among declared_clock input_items output_items [] [] (none_among declared_clock (λ n. an_input n) (λ n. refl) 3 g.inputs) (none_among declared_clock (λ n. an_output n) (λ n. refl) outputs_at (output_names g))

        no_cells_yet : cells_among (input_items ++ output_items) ≡ []
        no_cells_yet =
            two_among declared_cell input_items output_items [] [] (none_among declared_cell (λ n. an_input n) (λ n. refl) 3 g.inputs) (none_among declared_cell (λ n. an_output n) (λ n. refl) outputs_at (output_names g))

    distinct_cells : are_distinct (cell_names (numbered_latches g) (numbered_gates g)) ≡ true
    distinct_cells =
        ap are_distinct (cells_behind g.data_inputs g.latches g.net.leaves g.net.gates (sym named.leaves) (sym (long named)))
        ∙ (behind_front (take g.data_inputs all_names) (drop g.data_inputs all_names) (ap are_distinct (take-append-drop g.data_inputs all_names) ∙ named.distinct)).1

    no_fault : NoFault m [] (items_of m)
    no_fault =
        let first = inputs_sound m [] 3 g.inputs (none_new g.inputs) refl named.inputs in
        let no_outputs = none_among declared_output (λ n. an_input n) (λ n. refl) 3 g.inputs in
        let second = outputs_sound m input_items outputs_at (output_names g) (subst (λ (l : List Name). AreNew l (output_names g)) (sym no_outputs) (none_new (output_names g))) (sourced_all g.outputs named.outputs) named.once in
        let no_clocks_yet = two_among declared_clock input_items output_items [] [] (none_among declared_clock (λ n. an_input n) (λ n. refl) 3 g.inputs) (none_among declared_clock (λ n. an_output n) (λ n. refl) outputs_at (output_names g)) in
        let no_cells_yet = two_among declared_cell input_items output_items [] [] (none_among declared_cell (λ n. an_input n) (λ n. refl) 3 g.inputs) (none_among declared_cell (λ n. an_output n) (λ n. refl) outputs_at (output_names g)) in
        let third = clocks_sound m (input_items ++ output_items) clocks_at g.clocks (subst (λ (l : List Name). AreNew l g.clocks) (sym no_clocks_yet) (none_new g.clocks)) no_cells_yet named.clocks in
        let fourth = latches_sound g.latches g.data_inputs ((input_items ++ output_items) ++ clock_items) statements_at named.stores undriven distinct_cells in
        ap (first_answer (item_fault m) []) items_are
        ∙ all_sound m [] ((input_items ++ output_items) ++ clock_items) cells_written
        (all_sound m [] (input_items ++ output_items) clock_items (all_sound m [] input_items output_items first second) third) fourth

pub files-ordered : (g : Named) → IsNamed g → IsOrdered (file_of g)
files-ordered g named = record { model = written_model g; one_model = refl; no_fault = ap (λ f. option_or f None) (no_fault g named) }
