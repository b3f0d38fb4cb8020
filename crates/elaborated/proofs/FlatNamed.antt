-- The flat netlist of an elaborated source is a gate list with names.
use Rattle.std.proofs.Common.{◌≡◌, refl, sym, ◌∙◌, ap, ap₂, subst, ℕ, suc, ◌+◌, ◌<◌, ◌≤◌, ◌^◌, Bool, true, false, not, List, [], ◌∷◌, ◌++◌, length, map, filter, take, drop, get_or, zip, Some, None, arith, length-append}
use Rattle.std.specs.Prelude.{nat_lt, if◌then◌else◌, IsTrue, sum_by}
use Rattle.std.specs.List.{AllByRecursion, AllZip, range_with_len, enumerate_from, flat_map}
use Rattle.std.proofs.lemmas.Bool.{or_from, or_left, or_right, or_parts, ltb-true}
use Rattle.std.proofs.lemmas.Grind.{flat_map-append}
use Rattle.std.proofs.lemmas.List.{map-append, length-map, append_assoc, append-nil, take_at, drop_at, get_or_append_left, get_or-append-add}
use Rattle.std.proofs.lemmas.List.Elements.{filter-append}
use Rattle.std.proofs.lemmas.List.FromFn.{length-range_with_len}
use Rattle.std.proofs.lemmas.List.Sums.{sum_by-cons}
use Rattle.std.proofs.lemmas.Option.{get_or_from_slice_get}
use Rattle.netlist_spec.specs.Netlist.{Name, IsWordName, same_name, stands_in, are_distinct, is_reserved, HasControlAmong, Clocking, plain, edge, Statement}
use Rattle.netlist_spec.specs.Reads.{control_nets, first_appearances, IsNarrow, latch_count_of, IsWithinLimits}
use Rattle.netlist_spec.specs.Gates.{GateForm, constant, one, two, IsGateList, ReadsBelow, LatchRow, gate_reads}
use Rattle.netlist_spec.specs.GuardNames.{inner_name}
use Rattle.netlist_spec.specs.Elaborated.{Elaborated, HasElaboratedForm, IsLeafWhereNamed, leaf_names, elaborated_clocks}
use Rattle.netlist_spec.specs.Written.{given, inner, label_name, Named, IsNamed, net_name, output_names, latch_labels, gate_labels, given_name, taken_names, file_of, ports_from, line_count, statements_from, latch_statement, latch_statements, gate_statement, gate_statements}
use Rattle.netlist_spec.proofs.OneValue.{at_name, All_append}
use Rattle.netlist_spec.proofs.Occurrences.{first_stands}
use Rattle.netlist_spec.proofs.ReadNames.{All_filter}
use Rattle.imp_text.proofs.NamesLemmas.{same_name-true, same_name_self, stands_in-append}
use Rattle.gate_net.specs.GateNet.{net_count}
use Rattle.elaborated.specs.Flat.{at_gates, copies_of, output_cells, cell_names, flat_labels, flat_named, IsFlatNamed}
use Rattle.elaborated.proofs.Cells.{few_at_gates}
use Rattle.elaborated.proofs.FlatSteps.{same-steps}
use Rattle.elaborated.proofs.DistinctNames.{AreOff, off_append, distinct_append, distinct_back, distinct_off, absent_filtered, distinct_filtered, passes_filter, all_kept, none_kept, distinct_at_gates, all_at_gates, gates_have, as_many_at_gates, inner_distinct, AreFree, inner_off, off_inner, place_of}

-- ---- lists

maps-given : (ns : List Name) → map label_name (map (λ n. given n) ns) ≡ ns
maps-given [] = refl
maps-given (n ∷ ns) = ap (λ l. n ∷ l) (maps-given ns)

maps-inner : (ks : List ℕ) → map label_name (map (λ i. inner i) ks) ≡ map inner_name ks
maps-inner [] = refl
maps-inner (k ∷ ks) = ap (λ l. inner_name k ∷ l) (maps-inner ks)

names-given : (ns : List Name) → flat_map given_name (map (λ n. given n) ns) ≡ ns
names-given [] = refl
names-given (n ∷ ns) = ap (λ l. n ∷ l) (names-given ns)

names-inner : (ks : List ℕ) → flat_map given_name (map (λ i. inner i) ks) ≡ []
names-inner [] = refl
names-inner (k ∷ ks) = names-inner ks

all_split : {A : Type 0} (P : A → Type 0) (xs ys : List A) → AllByRecursion P (xs ++ ys) → AllByRecursion P xs × AllByRecursion P ys
all_split P [] ys h = (tt, h)
all_split P (x ∷ xs) ys h = let rest = all_split P xs ys h.1 in ((h.0, rest.0), rest.1)

all_by : {A : Type 0} (P Q : A → Type 0) → ((x : A) → P x → Q x) → (xs : List A) → AllByRecursion P xs → AllByRecursion Q xs
all_by P Q f [] h = tt
all_by P Q f (x ∷ xs) h = (f x h.0, all_by P Q f xs h.1)

-- what holds of some names holds of a control among them
all_control : (P : Name → Type 0) (ports : List Name) (c : Clocking) → AllByRecursion P ports → HasControlAmong ports c → AllByRecursion P (control_nets c)
all_control P ports plain h among = tt
all_control P ports (edge rising None) h among = tt
all_control P ports (edge rising (Some n)) h among = (at_name P n ports h among.0, tt)

-- each name of a list stands in it
stands_later : (x : Name) (all ns : List Name) → AllByRecursion (λ n. stands_in n all ≡ true) ns → AllByRecursion (λ n. stands_in n (x ∷ all) ≡ true) ns
stands_later x all [] h = tt
stands_later x all (n ∷ ns) h = (or_right _ _ h.0, stands_later x all ns h.1)

each_stands : (ns : List Name) → AllByRecursion (λ n. stands_in n ns ≡ true) ns
each_stands [] = tt
each_stands (n ∷ ns) = (or_left _ _ (same_name_self n), stands_later n ns ns (each_stands ns))

-- ---- gates

reads_append : (a : ℕ) (gates more : List GateForm) → AllByRecursion (λ (p : ℕ × GateForm). ReadsBelow p.0 p.1) (enumerate_from a gates) → AllByRecursion (λ (p : ℕ × GateForm). ReadsBelow p.0 p.1) (enumerate_from (a + length gates) more)
    → AllByRecursion (λ (p : ℕ × GateForm). ReadsBelow p.0 p.1) (enumerate_from a (gates ++ more))
reads_append a [] more h k =
    let e : a + 0 ≡ a = omega arith in
    subst (λ (j : ℕ). AllByRecursion (λ (p : ℕ × GateForm). ReadsBelow p.0 p.1) (enumerate_from j more)) e k
reads_append a (g ∷ gates) more h k =
    let e : a + suc (length gates) ≡ (a + 1) + length gates = omega arith in
    (h.0, reads_append (a + 1) gates more h.1 (subst (λ (j : ℕ). AllByRecursion (λ (p : ℕ × GateForm). ReadsBelow p.0 p.1) (enumerate_from j more)) e k))

copies_read : (bound a : ℕ) (ns : List ℕ) → AllByRecursion (λ n. n < bound) ns → bound ≤ a → AllByRecursion (λ (p : ℕ × GateForm). ReadsBelow p.0 p.1) (enumerate_from a (map (λ n. one false n) ns))
copies_read bound a [] h low = tt
copies_read bound a (n ∷ ns) h low = (omega (arith, h.0), copies_read bound (a + 1) ns h.1 (omega arith))

cells_within : (leaves next bound : ℕ) (ns : List ℕ) → leaves ≤ bound → next + length (at_gates leaves ns ns) ≤ bound → AllByRecursion (λ n. n < bound) (output_cells leaves next ns)
cells_within leaves next bound [] low room = tt
cells_within leaves next bound (n ∷ ns) low room = by_test (nat_lt n leaves) refl (cells_within leaves next bound ns low) (cells_within leaves (next + 1) bound ns low) room
  where
    by_test : (b : Bool) → nat_lt n leaves ≡ b → (next + length (at_gates leaves ns ns) ≤ bound → AllByRecursion (λ k. k < bound) (output_cells leaves next ns))
        → ((next + 1) + length (at_gates leaves ns ns) ≤ bound → AllByRecursion (λ k. k < bound) (output_cells leaves (next + 1) ns))
        → next + length (if b then at_gates leaves ns ns else n ∷ at_gates leaves ns ns) ≤ bound
        → AllByRecursion (λ n. n < bound) (if b then n ∷ output_cells leaves next ns else next ∷ output_cells leaves (next + 1) ns)
    by_test true e same more r = (let h = ltb-true n leaves e in omega arith, same r)
    by_test false e same more r = (omega arith, more (omega arith))

-- the names of the outputs' nets, from a net on
cells_named : (all : List Name) (leaves next : ℕ) (os : List Name) (ns : List ℕ) → AllZip (λ o n. n < leaves → get_or all n [] ≡ o) os ns
    → ((j : ℕ) → j < length (at_gates leaves os ns) → get_or all (next + j) [] ≡ get_or (at_gates leaves os ns) j []) → map (λ k. get_or all k []) (output_cells leaves next ns) ≡ os
cells_named all leaves next [] [] h later = refl
cells_named all leaves next [] (n ∷ ns) h later = absurd h
cells_named all leaves next (o ∷ os) [] h later = absurd h
cells_named all leaves next (o ∷ os) (n ∷ ns) h later = by_test (nat_lt n leaves) refl (cells_named all leaves next os ns h.1) (cells_named all leaves (next + 1) os ns h.1) later
  where
    by_test : (b : Bool) → nat_lt n leaves ≡ b
        → (((j : ℕ) → j < length (at_gates leaves os ns) → get_or all (next + j) [] ≡ get_or (at_gates leaves os ns) j []) → map (λ k. get_or all k []) (output_cells leaves next ns) ≡ os)
        → (((j : ℕ) → j < length (at_gates leaves os ns) → get_or all ((next + 1) + j) [] ≡ get_or (at_gates leaves os ns) j []) → map (λ k. get_or all k []) (output_cells leaves (next + 1) ns) ≡ os)
        → ((j : ℕ) → j < length (if b then at_gates leaves os ns else o ∷ at_gates leaves os ns) → get_or all (next + j) [] ≡ get_or (if b then at_gates leaves os ns else o ∷ at_gates leaves os ns) j [])
        → map (λ k. get_or all k []) (if b then n ∷ output_cells leaves next ns else next ∷ output_cells leaves (next + 1) ns) ≡ o ∷ os
    by_test true e same more f = ap₂ (λ (x : Name) (xs : List Name). x ∷ xs) (h.0 (ltb-true n leaves e)) (same f)
    by_test false e same more f =
        let here : next + 0 ≡ next = omega arith in
        ap₂ (λ (x : Name) (xs : List Name). x ∷ xs) (ap (λ k. get_or all k []) (sym here) ∙ f 0 (omega arith))
        (more (λ j l. let place : (next + 1) + j ≡ next + suc j = omega arith in ap (λ k. get_or all k []) place ∙ f (suc j) (omega arith)))

-- ---- statements

few_statements : {A B : Type 0} (f : A × B → Statement) (ns : List A) (xs : List B) → length (map f (zip ns xs)) ≤ length xs
few_statements f [] [] = omega arith
few_statements f [] (x ∷ xs) = omega arith
few_statements f (n ∷ ns) [] = omega arith
few_statements f (n ∷ ns) (x ∷ xs) = let rest = few_statements f ns xs in omega arith

length-from : (k : ℕ) (ss : List Statement) → length (statements_from k ss) ≡ length ss
length-from k [] = refl
length-from k (s ∷ ss) = ap suc (length-from (k + line_count s) ss)

length-ports : (k : ℕ) (ns : List Name) → length (ports_from k ns) ≡ length ns
length-ports k [] = refl
length-ports k (n ∷ ns) = ap suc (length-ports (k + 1) ns)

module _ (g : Named) where
  narrow_gates : (k : ℕ) (zs : List (Name × GateForm)) → AllByRecursion (λ s. IsNarrow s.what) (statements_from k (map (gate_statement g) zs))
  narrow_gates k [] = tt
  narrow_gates k (z ∷ zs) = (few z.1, narrow_gates (k + line_count (gate_statement g z)) zs)
    where
      few : (gate : GateForm) → length (map (net_name g) (gate_reads gate)) ≤ 16
      few (constant b) = omega arith
      few (one inv a) = omega arith
      few (two op a b) = omega arith

  narrow_latches : (k : ℕ) (ls : List (Name × LatchRow)) (zs : List (Name × GateForm)) → AllByRecursion (λ s. IsNarrow s.what) (statements_from k (map (latch_statement g) ls ++ map (gate_statement g) zs))
  narrow_latches k [] zs = narrow_gates k zs
  narrow_latches k (l ∷ ls) zs = (tt, narrow_latches (k + 1) ls zs)

  gates_are_none : (k : ℕ) (zs : List (Name × GateForm)) → sum_by (λ s. latch_count_of s.what) (statements_from k (map (gate_statement g) zs)) ≡ 0
  gates_are_none k [] = refl
  gates_are_none k (z ∷ zs) =
      let first = sum_by-cons (λ s. latch_count_of s.what) (record { line = k; what = gate_statement g z }) (statements_from (k + line_count (gate_statement g z)) (map (gate_statement g) zs)) in
      let rest = gates_are_none (k + line_count (gate_statement g z)) zs in
      omega (arith, first, rest)

  latches_counted : (k : ℕ) (ls : List (Name × LatchRow)) (zs : List (Name × GateForm)) → sum_by (λ s. latch_count_of s.what) (statements_from k (map (latch_statement g) ls ++ map (gate_statement g) zs)) ≡ length ls
  latches_counted k [] zs = gates_are_none k zs
  latches_counted k (l ∷ ls) zs =
      let first = sum_by-cons (λ s. latch_count_of s.what) (record { line = k; what = latch_statement g l }) (statements_from (k + 1) (map (latch_statement g) ls ++ map (gate_statement g) zs)) in
      let rest = latches_counted (k + 1) ls zs in
      omega (arith, first, rest)

  few_zipped : {A B : Type 0} (ns : List A) (xs : List B) → length (zip ns xs) ≤ length xs
  few_zipped [] [] = omega arith
  few_zipped [] (x ∷ xs) = omega arith
  few_zipped (n ∷ ns) [] = omega arith
  few_zipped (n ∷ ns) (x ∷ xs) = let rest = few_zipped ns xs in omega arith

  -- a file of few ports, latches and gates is within its limits
  pub within : length g.inputs ≤ 131072 → length g.outputs ≤ 131072 → length g.clocks ≤ 131072 → length g.latches ≤ 131072 → length g.latches + length g.net.gates ≤ 2000000 → IsWithinLimits (file_of g)
  within ins outs clocks latches both =
      let at = 3 + length g.inputs + length g.outputs + length g.clocks in
      let ls = zip (latch_labels g) g.latches in
      let zs = zip (gate_labels g) g.net.gates in
      let all = latch_statements g ++ gate_statements g in
      let few_latches = few_zipped (latch_labels g) g.latches in
      let count = latches_counted at ls zs in
      let long = length-from at all in
      let parts = length-append (latch_statements g) (gate_statements g) in
      let a = few_statements (latch_statement g) (latch_labels g) g.latches in
      let b = few_statements (gate_statement g) (gate_labels g) g.net.gates in
      record {
        models = (
          record {
            covers = narrow_latches at ls zs;
            inputs = omega (arith, length-ports 3 g.inputs);
            outputs = omega (arith, length-ports (3 + length g.inputs) (output_names g), length-map g.outputs (net_name g));
            clocks = omega (arith, length-ports (3 + length g.inputs + length g.outputs) g.clocks);
            latches = omega arith;
          },
          tt,
        );
        statements = omega arith;
      }

-- ---- the flat netlist

reassociated : {A : Type 0} (a b c d : List A) → ((a ++ b) ++ c) ++ d ≡ a ++ (b ++ (c ++ d))
reassociated a b c d = append_assoc (a ++ b) c d ∙ append_assoc a b (c ++ d)

zip_by : {A B : Type 0} (R S : A → B → Type 0) → ((x : A) (y : B) → R x y → S x y) → (xs : List A) (ys : List B) → AllZip R xs ys → AllZip S xs ys
zip_by R S f [] [] h = tt
zip_by R S f [] (y ∷ ys) h = absurd h
zip_by R S f (x ∷ xs) [] h = absurd h
zip_by R S f (x ∷ xs) (y ∷ ys) h = (f x y h.0, zip_by R S f xs ys h.1)

-- a name that stands in no port stands in no list of ports
off_among : (n : Name) (ports ns : List Name) → stands_in n ports ≡ false → AllByRecursion (λ k. stands_in k ports ≡ true) ns → stands_in n ns ≡ false
off_among n ports [] h among = refl
off_among n ports (k ∷ ns) h among = or_from _ _ (by_test (same_name n k) refl) (off_among n ports ns h among.1)
  where
    by_test : (b : Bool) → same_name n k ≡ b → b ≡ false
    by_test true e = absurd (let there : stands_in n ports ≡ true = ap (λ m. stands_in m ports) (same_name-true n k e) ∙ among.0 in cc (there, h))
    by_test false e = refl

controls_among : (ports : List Name) (c : Clocking) → HasControlAmong ports c → AllByRecursion (λ k. stands_in k ports ≡ true) (control_nets c)
controls_among ports plain among = tt
controls_among ports (edge rising None) among = tt
controls_among ports (edge rising (Some n)) among = (among.0, tt)

no_items : {A B : Type 0} (xs : List A) (ys : List B) → length xs ≡ length ys → ys ≡ [] → xs ≡ []
no_items [] ys e h = refl
no_items (x ∷ xs) [] e h = absurd (omega arith)
no_items (x ∷ xs) (y ∷ ys) e h = absurd (cc h)

module _ (e : Elaborated) (form : HasElaboratedForm e) where
  abbrev inner_names : List Name
  inner_names = map inner_name (range_with_len 0 (length e.machine.net.gates))

  abbrev flat_names : List Name
  flat_names = ((e.data_names ++ e.latch_names) ++ inner_names) ++ cell_names e

  names_are : map label_name (flat_labels e) ≡ flat_names
  names_are =
      let a = map (λ n. given n) e.data_names in
      let b = map (λ n. given n) e.latch_names in
      let c = map (λ i. inner i) (range_with_len 0 (length e.machine.net.gates)) in
      let d = map (λ n. given n) (cell_names e) in
      map-append label_name ((a ++ b) ++ c) d
      ∙ ap₂ (λ (x y : List Name). x ++ y)
      (map-append label_name (a ++ b) c ∙ ap₂ (λ (x y : List Name). x ++ y) (map-append label_name a b ∙ ap₂ (λ (x y : List Name). x ++ y) (maps-given e.data_names) (maps-given e.latch_names)) (maps-inner (range_with_len 0 (length e.machine.net.gates))))
      (maps-given (cell_names e))

  leaves_are : length (e.data_names ++ e.latch_names) ≡ e.machine.net.leaves
  leaves_are = omega (arith, length-append e.data_names e.latch_names, form.inputs, form.latches, form.well_formed.leaves)

  inners_are : length inner_names ≡ length e.machine.net.gates
  inners_are = length-map (range_with_len 0 (length e.machine.net.gates)) inner_name ∙ length-range_with_len 0 (length e.machine.net.gates)

  gates_at : length ((e.data_names ++ e.latch_names) ++ inner_names) ≡ net_count e.machine.net
  gates_at = omega (arith, length-append (e.data_names ++ e.latch_names) inner_names, leaves_are, inners_are)

  -- ---- what holds of the names of its parts

  module _ (P : Name → Type 0) (all : AllByRecursion P (e.input_ports ++ e.clock_ports ++ e.output_names ++ e.latch_names)) where
    on_latches : AllByRecursion P e.latch_names
    on_latches = (all_split P (e.input_ports ++ e.clock_ports ++ e.output_names) e.latch_names all).1

    on_outputs : AllByRecursion P e.output_names
    on_outputs = (all_split P (e.input_ports ++ e.clock_ports) e.output_names (all_split P (e.input_ports ++ e.clock_ports ++ e.output_names) e.latch_names all).0).1

    on_ports : AllByRecursion P (e.input_ports ++ e.clock_ports)
    on_ports = (all_split P (e.input_ports ++ e.clock_ports) e.output_names (all_split P (e.input_ports ++ e.clock_ports ++ e.output_names) e.latch_names all).0).0

    on_data : AllByRecursion P e.data_names
    on_data = subst (λ (l : List Name). AllByRecursion P l) (sym form.data_inputs) (All_filter P (λ n. not (stands_in n (elaborated_clocks e))) e.input_ports (all_split P e.input_ports e.clock_ports on_ports).0)

    on_cells : AllByRecursion P (cell_names e)
    on_cells = all_at_gates P e.machine.net.leaves e.output_names e.machine.outputs on_outputs

    on_clocks : AllByRecursion P (elaborated_clocks e)
    on_clocks = All_append P e.clock_ports (control_nets e.clocking) (all_split P e.input_ports e.clock_ports on_ports).1 (all_control P (e.input_ports ++ e.clock_ports) e.clocking on_ports form.control)

    given_are : flat_map given_name (flat_labels e) ≡ ((e.data_names ++ e.latch_names) ++ []) ++ cell_names e
    given_are =
        let a = map (λ n. given n) e.data_names in
        let b = map (λ n. given n) e.latch_names in
        let c = map (λ i. inner i) (range_with_len 0 (length e.machine.net.gates)) in
        let d = map (λ n. given n) (cell_names e) in
        flat_map-append given_name ((a ++ b) ++ c) d
        ∙ ap₂ (λ (x y : List Name). x ++ y)
        (flat_map-append given_name (a ++ b) c ∙ ap₂ (λ (x y : List Name). x ++ y) (flat_map-append given_name a b ∙ ap₂ (λ (x y : List Name). x ++ y) (names-given e.data_names) (names-given e.latch_names)) (names-inner (range_with_len 0 (length e.machine.net.gates))))
        (names-given (cell_names e))

    on_taken : AllByRecursion P (taken_names (flat_named e))
    on_taken =
        All_append P (flat_map given_name (flat_labels e) ++ e.input_ports) (elaborated_clocks e)
        (All_append P (flat_map given_name (flat_labels e)) e.input_ports
        (subst (λ (l : List Name). AllByRecursion P l) (sym given_are) (All_append P ((e.data_names ++ e.latch_names) ++ []) (cell_names e) (All_append P (e.data_names ++ e.latch_names) [] (All_append P e.data_names e.latch_names on_data on_latches) tt) on_cells))
        (all_split P e.input_ports e.clock_ports on_ports).0)
        on_clocks

  -- ---- the names are apart

  absent_before : (n : Name) (ns : List Name) → stands_in n (first_appearances ns) ≡ false → stands_in n ns ≡ false
  absent_before n ns h = by_test (stands_in n ns) refl
    where
      by_test : (b : Bool) → stands_in n ns ≡ b → b ≡ false
      by_test true there = absurd (let first = first_stands n ns there in cc (first, h))
      by_test false there = refl

  latches_off_ports : AreOff (e.input_ports ++ e.clock_ports) e.latch_names
  latches_off_ports =
      all_by (λ n. stands_in n (first_appearances (e.input_ports ++ e.clock_ports)) ≡ false) (λ n. stands_in n (e.input_ports ++ e.clock_ports) ≡ false) (λ n h. absent_before n (e.input_ports ++ e.clock_ports) h) e.latch_names
      (distinct_off (first_appearances (e.input_ports ++ e.clock_ports)) e.latch_names form.drivers)

  port_parts : (n : Name) → stands_in n (e.input_ports ++ e.clock_ports) ≡ false → (stands_in n e.input_ports ≡ false) × (stands_in n e.clock_ports ≡ false)
  port_parts n h = or_parts _ _ (sym (stands_in-append n e.input_ports e.clock_ports) ∙ h)

  latches_off_data : AreOff e.data_names e.latch_names
  latches_off_data =
      all_by (λ n. stands_in n (e.input_ports ++ e.clock_ports) ≡ false) (λ n. stands_in n e.data_names ≡ false)
      (λ n h. ap (stands_in n) form.data_inputs ∙ absent_filtered (λ k. not (stands_in k (elaborated_clocks e))) n e.input_ports (port_parts n h).0) e.latch_names latches_off_ports

  leaves_distinct : are_distinct (e.data_names ++ e.latch_names) ≡ true
  leaves_distinct =
      distinct_append e.data_names e.latch_names (ap are_distinct form.data_inputs ∙ distinct_filtered (λ k. not (stands_in k (elaborated_clocks e))) e.input_ports form.input_ports)
      (distinct_back (first_appearances (e.input_ports ++ e.clock_ports)) e.latch_names form.drivers) latches_off_data

  few_inners : 0 + length e.machine.net.gates ≤ 2 ^ 64
  few_inners = omega (arith, form.few_gates)

  cells_off_leaves : AreOff (e.data_names ++ e.latch_names) (cell_names e)
  cells_off_leaves =
      gates_have (λ o. stands_in o (leaf_names e) ≡ false) (λ o n. IsLeafWhereNamed e o n) e.machine.net.leaves
      (λ o n r low. absent o n r low (stands_in o (leaf_names e)) refl) e.output_names e.machine.outputs form.leaves
    where
      absent : (o : Name) (n : ℕ) → IsLeafWhereNamed e o n → e.machine.net.leaves ≤ n → (b : Bool) → stands_in o (leaf_names e) ≡ b → b ≡ false
      absent o n r low true there =
          absurd (let at = place_of o (leaf_names e) there in
          let inside : at.0 < e.machine.net.leaves = omega (arith, at.1, leaves_are) in
          let same = (r at.0 inside).1 at.2 in
          omega arith)
      absent o n r low false there = refl

  names_distinct : are_distinct flat_names ≡ true
  names_distinct =
      let free_leaves : AreFree (e.data_names ++ e.latch_names) = All_append (λ n. IsTrue (not (is_reserved n))) e.data_names e.latch_names (on_data (λ n. IsTrue (not (is_reserved n))) form.free) (on_latches (λ n. IsTrue (not (is_reserved n))) form.free) in
      let free_cells : AreFree (cell_names e) = on_cells (λ n. IsTrue (not (is_reserved n))) form.free in
      distinct_append ((e.data_names ++ e.latch_names) ++ inner_names) (cell_names e)
      (distinct_append (e.data_names ++ e.latch_names) inner_names leaves_distinct (inner_distinct 0 (length e.machine.net.gates) few_inners) (inner_off (e.data_names ++ e.latch_names) 0 (length e.machine.net.gates) free_leaves))
      (distinct_at_gates e.machine.net.leaves e.output_names e.machine.outputs form.output_ports)
      (off_append (e.data_names ++ e.latch_names) inner_names (cell_names e) cells_off_leaves (off_inner (cell_names e) 0 (length e.machine.net.gates) free_cells))

  -- no net has the name of a clock net

  abbrev IsNoClock : Name → Type 0
  IsNoClock n = IsTrue (not (stands_in n (elaborated_clocks e)))

  latches_no_clocks : AllByRecursion IsNoClock e.latch_names
  latches_no_clocks =
      all_by (λ n. stands_in n (e.input_ports ++ e.clock_ports) ≡ false) IsNoClock
      (λ n h. ap not (stands_in-append n e.clock_ports (control_nets e.clocking) ∙ or_from _ _ (port_parts n h).1 (off_among n (e.input_ports ++ e.clock_ports) (control_nets e.clocking) h (controls_among (e.input_ports ++ e.clock_ports) e.clocking form.control))))
      e.latch_names latches_off_ports

  no_clocks : AllByRecursion IsNoClock flat_names
  no_clocks =
      All_append IsNoClock ((e.data_names ++ e.latch_names) ++ inner_names) (cell_names e)
      (All_append IsNoClock (e.data_names ++ e.latch_names) inner_names
      (All_append IsNoClock e.data_names e.latch_names (subst (λ (l : List Name). AllByRecursion IsNoClock l) (sym form.data_inputs) (passes_filter (λ n. not (stands_in n (elaborated_clocks e))) e.input_ports)) latches_no_clocks)
      (all_by (λ n. stands_in n (elaborated_clocks e) ≡ false) IsNoClock (λ n h. ap not h) inner_names (inner_off (elaborated_clocks e) 0 (length e.machine.net.gates) (on_clocks (λ n. IsTrue (not (is_reserved n))) form.free))))
      (all_at_gates IsNoClock e.machine.net.leaves e.output_names e.machine.outputs form.clocks_unread)

  -- ---- the nets

  more_gates : length (e.machine.net.gates ++ copies_of e.machine.net.leaves e.machine.outputs) ≡ length e.machine.net.gates + length (at_gates e.machine.net.leaves e.machine.outputs e.machine.outputs)
  more_gates = length-append e.machine.net.gates (copies_of e.machine.net.leaves e.machine.outputs) ∙ ap (λ k. length e.machine.net.gates + k) (length-map (at_gates e.machine.net.leaves e.machine.outputs e.machine.outputs) (λ n. one false n))

  flat_gates : IsGateList (flat_named e).net
  flat_gates =
      reads_append e.machine.net.leaves e.machine.net.gates (copies_of e.machine.net.leaves e.machine.outputs) form.well_formed.gates
      (copies_read (net_count e.machine.net) (net_count e.machine.net) (at_gates e.machine.net.leaves e.machine.outputs e.machine.outputs)
      (all_at_gates (λ n. n < net_count e.machine.net) e.machine.net.leaves e.machine.outputs e.machine.outputs form.well_formed.outputs) (omega arith))

  labels_long : length (flat_labels e) ≡ net_count (flat_named e).net
  labels_long =
      let all = sym (length-map (flat_labels e) label_name) ∙ ap length names_are in
      let parts = length-append ((e.data_names ++ e.latch_names) ++ inner_names) (cell_names e) in
      let cells = as_many_at_gates e.machine.net.leaves e.output_names e.machine.outputs e.machine.outputs form.outputs in
      omega (arith, all, parts, cells, gates_at, more_gates)

  data_first : take e.machine.inputs (flat_labels e) ≡ map (λ n. given n) (filter (λ n. not (stands_in n (elaborated_clocks e))) e.input_ports)
  data_first =
      let a = map (λ n. given n) e.data_names in
      let b = map (λ n. given n) e.latch_names in
      let c = map (λ i. inner i) (range_with_len 0 (length e.machine.net.gates)) in
      let d = map (λ n. given n) (cell_names e) in
      ap (take e.machine.inputs) (reassociated a b c d) ∙ take_at a (b ++ (c ++ d)) e.machine.inputs (length-map e.data_names (λ n. given n) ∙ form.inputs) ∙ ap (map (λ n. given n)) form.data_inputs

  pub outputs-named : output_names (flat_named e) ≡ e.output_names
  outputs-named =
      ap (λ (all : List Name). map (λ k. get_or all k []) (flat_named e).outputs) names_are
      ∙ cells_named flat_names e.machine.net.leaves (net_count e.machine.net) e.output_names e.machine.outputs
      (zip_by (λ o n. IsLeafWhereNamed e o n) (λ o n. n < e.machine.net.leaves → get_or flat_names n [] ≡ o) leaf_named e.output_names e.machine.outputs form.leaves)
      (λ j inside. ap (λ k. get_or flat_names (k + j) []) (sym gates_at) ∙ get_or-append-add ((e.data_names ++ e.latch_names) ++ inner_names) (cell_names e) j [])
    where
      leaf_named : (o : Name) (n : ℕ) → IsLeafWhereNamed e o n → n < e.machine.net.leaves → get_or flat_names n [] ≡ o
      leaf_named o n r low =
          let inside : n < length (e.data_names ++ e.latch_names) = omega (arith, leaves_are) in
          let there : n < length ((e.data_names ++ e.latch_names) ++ inner_names) = omega (arith, gates_at) in
          get_or_append_left ((e.data_names ++ e.latch_names) ++ inner_names) (cell_names e) [] n there
          ∙ get_or_append_left (e.data_names ++ e.latch_names) inner_names [] n inside
          ∙ get_or_from_slice_get (leaf_names e) n o [] ((r n low).0 refl)

  pub latches-named : latch_labels (flat_named e) ≡ e.latch_names
  latches-named =
      ap (λ (all : List Name). take (length e.machine.latches) (drop e.machine.inputs all)) (names_are ∙ reassociated e.data_names e.latch_names inner_names (cell_names e))
      ∙ ap (take (length e.machine.latches)) (drop_at e.data_names (e.latch_names ++ (inner_names ++ cell_names e)) e.machine.inputs form.inputs)
      ∙ take_at e.latch_names (inner_names ++ cell_names e) (length e.machine.latches) form.latches

  gate_labels_are : gate_labels (flat_named e) ≡ inner_names ++ cell_names e
  gate_labels_are =
      ap (drop e.machine.net.leaves) (names_are ∙ append_assoc (e.data_names ++ e.latch_names) inner_names (cell_names e))
      ∙ drop_at (e.data_names ++ e.latch_names) (inner_names ++ cell_names e) e.machine.net.leaves leaves_are

  stores_within : (bound more : ℕ) (ls : List LatchRow) → bound ≤ more → AllByRecursion (λ l. l.d < bound) ls → AllByRecursion (λ l. l.d < more) ls
  stores_within bound more [] low h = tt
  stores_within bound more (l ∷ ls) low h = (omega (arith, h.0), stores_within bound more ls low h.1)

  pub flat-is_named : IsNamed (flat_named e)
  flat-is_named =
      record {
        gates = flat_gates;
        leaves = form.well_formed.leaves;
        labels = labels_long;
        distinct = ap are_distinct names_are ∙ names_distinct;
        first_labels = data_first;
        no_clock = subst (λ (l : List Name). AllByRecursion IsNoClock l) (sym names_are) no_clocks;
        inputs = form.input_ports;
        clocks = form.clock_ports;
        control = form.control;
        clocking = λ none. form.clocking (no_items e.latch_names e.machine.latches form.latches none);
        outputs = cells_within e.machine.net.leaves (net_count e.machine.net) (net_count (flat_named e).net) e.machine.outputs (omega (arith, more_gates)) (omega (arith, more_gates));
        once = ap are_distinct outputs-named ∙ form.output_ports;
        stores = stores_within (net_count e.machine.net) (net_count (flat_named e).net) e.machine.latches (omega (arith, more_gates)) form.well_formed.stores;
        model = form.model;
        words = on_taken IsWordName form.words;
        free = on_taken (λ n. IsTrue (not (is_reserved n))) form.free;
        limits =
            let few = few_at_gates e.machine.net.leaves e.machine.outputs e.machine.outputs in
            let outs = ap length outputs-named in
            within (flat_named e) (omega (arith, form.few_inputs.1)) (omega (arith, outs, length-map (flat_named e).outputs (net_name (flat_named e)), form.few_outputs)) (omega (arith, form.few_inputs.2)) (omega (arith, form.latches, form.few_latches))
            (omega (arith, more_gates, form.latches, form.few_latches, form.few_gates, form.few_outputs, form.outputs));
      }

  few_copies : length (flat_named e).net.gates ≤ length e.machine.net.gates + length e.output_names
  few_copies = omega (arith, more_gates, few_at_gates e.machine.net.leaves e.machine.outputs e.machine.outputs, form.outputs)

  -- the cells that are no outputs are the machine's gates
  inner_cells : filter (λ n. not (stands_in n e.output_names)) (gate_labels (flat_named e)) ≡ inner_names
  inner_cells =
      let test : Name → Bool = λ n. not (stands_in n e.output_names) in
      ap (filter test) gate_labels_are
      ∙ filter-append test inner_names (cell_names e)
      ∙ ap₂ (λ (x y : List Name). x ++ y)
      (all_kept test inner_names (all_by (λ n. stands_in n e.output_names ≡ false) (λ n. test n ≡ true) (λ n h. ap not h) inner_names (inner_off e.output_names 0 (length e.machine.net.gates) (on_outputs (λ n. IsTrue (not (is_reserved n))) form.free))))
      (none_kept test (cell_names e) (all_at_gates (λ n. test n ≡ false) e.machine.net.leaves e.output_names e.machine.outputs (all_by (λ n. stands_in n e.output_names ≡ true) (λ n. test n ≡ false) (λ n h. ap not h) e.output_names (each_stands e.output_names))))
      ∙ append-nil inner_names

  pub flat-is_flat : IsFlatNamed e (flat_named e)
  flat-is_flat =
      record {
        model = refl;
        unknown_inits = refl;
        inputs = refl;
        clocks = refl;
        clocking = refl;
        data_inputs = refl;
        output_names = outputs-named;
        latch_names = latches-named;
        latches = refl;
        steps = same-steps e.machine form.well_formed (record { gates = flat_gates; leaves = form.well_formed.leaves; stores = flat-is_named.stores; outputs = flat-is_named.outputs });
        inner = inner_cells;
        size = few_copies;
      }
