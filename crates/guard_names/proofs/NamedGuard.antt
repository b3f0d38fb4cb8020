-- The gate list of a guard with its labels is a gate list with names, and has the names of a guard.
use Rattle.std.proofs.Common.{◌≡◌, refl, sym, ◌∙◌, ap, ap₂, subst, ℕ, zero, suc, ◌+◌, ◌*◌, ◌<◌, ◌≤◌, ◌^◌, ◌⊎◌, inl, inr, Bool, true, false, not, List, [], ◌∷◌, ◌++◌, length, map, filter, take, drop, Some, None, slice_get, arith, length-append, append_assoc}
use Rattle.std.specs.Prelude.{IsTrue}
use Rattle.std.specs.List.{AllByRecursion, AllZip, flat_map, range_with_len}
use Rattle.std.proofs.Math.Nat.{mul-le-mul_left}
use Rattle.std.proofs.lemmas.Bool.{or_from, or_left, or_right, not-true}
use Rattle.std.proofs.lemmas.List.{map-append, length-map, take_at, drop_at}
use Rattle.std.proofs.lemmas.List.Elements.{filter-append}
use Rattle.std.proofs.lemmas.List.FromFn.{length-map-range_with_len}
use Rattle.std.proofs.lemmas.List.Sums.{sum_by-cons}
use Rattle.std.proofs.lemmas.Option.{get_or_from_slice_get, slice_get_within}
use Rattle.netlist_spec.specs.Netlist.{Name, IsWordName, same_name, stands_in, are_distinct, is_reserved, HasControlAmong, Clocking, plain, edge}
use Rattle.netlist_spec.specs.Reads.{control_nets}
use Rattle.netlist_spec.specs.Gates.{LatchRow, Machine}
use Rattle.netlist_spec.specs.GuardNames.{inner_name}
use Rattle.netlist_spec.specs.Elaborated.{Elaborated, HasElaboratedForm, IsLeafWhereNamed, leaf_names, elaborated_clocks}
use Rattle.netlist_spec.specs.Written.{Label, given, store, next, check, rail, inner, label_name, given_name, Named, IsNamed, net_name, output_names, latch_labels, gate_labels, taken_names}
use Rattle.netlist_spec.proofs.OneValue.{at_name}
use Rattle.imp_text.proofs.NamesLemmas.{same_name-true, same_name_self}
use Rattle.gate_net.specs.GateNet.{net_count}
use Rattle.guard_spec.specs.Codes.{Code, IsCode, Mode, data_places}
use Rattle.guard_spec.specs.Words.{Words, Layout, IsPartition}
use Rattle.guard_spec.specs.Regions.{Guarded}
use Rattle.guard_laws.specs.Promised.{IsGuardOf, cell_count}
use Rattle.guard_laws.specs.Places.{latches_of_words}
use Rattle.guard_laws.specs.Named.{IsGuardNamed, stored_names, inner_gates}
use Rattle.guard_laws.proofs.Lists.{get_map, below_or}
use Rattle.elaborated.proofs.FlatNamed.{within}
use Rattle.size_laws.specs.BitOrder.{labels_from, IsLabelledByBits}
use Rattle.size_laws.specs.Labels.{IsFreeLabel, AreFreeLabels, AreGuardLabels, HasFewPlaces, word_labels, is_next, is_inner}
use Rattle.size_laws.specs.TakenOver.{names_from, taken_over}
use Rattle.size_laws.proofs.DistinctLabels.{same_label}
use Rattle.size_laws.proofs.LabelKinds.{free_labels, guard_labels_small, guard_names_distinct}
use Rattle.size_laws.proofs.BitOrder.{labelled_in_order, labelled_names, source_names_distinct}
use Rattle.size_laws.proofs.TakenOver.{taken_over_distinct, taken_over_free}
use Rattle.guard_names.specs.Labels.{IsRising, end_of, beside_gates, between}
use Rattle.guard_names.proofs.Lists.{all_by, all_of, all_join, all_split, all_map, all_filter, passes_filter, none_kept, filter_names, all_row, all_places, zip_split, zip_at, zip_maps, as_many, gates_split, gates_of_source, each_shown, all_from}
use Rattle.guard_names.proofs.Rising.{own_rise, own_end, all_beside, at_append}
use Rattle.guard_names.proofs.Between.{between_long, placed, bits_of, bits_own, by_bits, between_all}
use Rattle.guard_names.proofs.Counts.{few_words, no_words, short_words, few_latches, codewords_long, places_long, checks_long}
use Rattle.guard_names.proofs.Mapped.{given_named, stores_named, nexts_named, shown_named}

-- ---- names

all_control : (P : Name → Type 0) (ports : List Name) (c : Clocking) → AllByRecursion P ports → HasControlAmong ports c → AllByRecursion P (control_nets c)
all_control P ports plain h among = tt
all_control P ports (edge rising None) h among = tt
all_control P ports (edge rising (Some n)) h among = (at_name P n ports h among.0, tt)

-- a reserved name is none of some that aren't
reserved_off : (n : Name) (ns : List Name) → is_reserved n ≡ true → AllByRecursion (λ k. IsTrue (not (is_reserved k))) ns → stands_in n ns ≡ false
reserved_off n [] e h = refl
reserved_off n (k ∷ ns) e h = or_from _ _ (by_test (same_name n k) refl) (reserved_off n ns e h.1)
  where
    by_test : (b : Bool) → same_name n k ≡ b → b ≡ false
    by_test true s = absurd (let same : is_reserved k ≡ true = ap is_reserved (sym (same_name-true n k s)) ∙ e in let other : is_reserved k ≡ false = not-true _ h.0 in cc (same, other))
    by_test false s = refl

-- each label's name stands among those of its list
named_later : (y : Label) (all xs : List Label) → AllByRecursion (λ x. stands_in (label_name x) (map label_name all) ≡ true) xs → AllByRecursion (λ x. stands_in (label_name x) (map label_name (y ∷ all)) ≡ true) xs
named_later y all xs h = all_by (λ x. stands_in (label_name x) (map label_name all) ≡ true) (λ x. stands_in (label_name x) (map label_name (y ∷ all)) ≡ true) (λ x k. or_right (same_name (label_name x) (label_name y)) _ k) xs h

each_named : (xs : List Label) → AllByRecursion (λ x. stands_in (label_name x) (map label_name xs) ≡ true) xs
each_named [] = tt
each_named (x ∷ xs) = (or_left _ _ (same_name_self (label_name x)), named_later x xs xs (each_named xs))

-- the name of an inner label is that of no other label
inner_off : (i : ℕ) (xs : List Label) → i < 2 ^ 64 → AllByRecursion IsFreeLabel xs → AllByRecursion (λ x. is_inner x ≡ false) xs → stands_in (inner_name i) (map label_name xs) ≡ false
inner_off i [] small free others = refl
inner_off i (x ∷ xs) small free others = or_from _ _ (by_test (same_name (inner_name i) (label_name x)) refl) (inner_off i xs small free.1 others.1)
  where
    by_test : (b : Bool) → same_name (inner_name i) (label_name x) ≡ b → b ≡ false
    by_test true s =
        absurd
        (let same = same_label (inner i) x small free.0 (same_name-true (inner_name i) (label_name x) s) in
        let other : is_inner (inner i) ≡ false = ap is_inner same ∙ others.0 in
        let clash : true ≡ false = other in cc clash)
    by_test false s = refl

no_items : {A : Type 0} (xs : List A) → length xs ≡ 0 → xs ≡ []
no_items [] e = refl
no_items (x ∷ xs) e = absurd (omega arith)

no_bits : (xs : List Label) → xs ≡ labels_from 0 (map (λ (x : Label). (0, x)) xs)
no_bits [] = refl
no_bits (x ∷ xs) = ap (λ (ls : List Label). x ∷ ls) (no_bits xs)

bits_back : (xs : List Label) → map (λ (bit : ℕ × Label). bit.1) (map (λ (x : Label). (0, x)) xs) ≡ xs
bits_back [] = refl
bits_back (x ∷ xs) = ap (λ (ls : List Label). x ∷ ls) (bits_back xs)

-- ---- the guard

module _ (e : Elaborated) (form : HasElaboratedForm e) (code : Code) (is_code : IsCode code) (l : Layout) (state : IsPartition (length e.latch_names) (data_places code) l.state) (output : IsPartition (length e.output_names) (data_places code) l.output) (g : Guarded) (mode : Mode) (radius : ℕ) (guard : IsGuardOf g e.machine code mode radius g.rails l) where
  abbrev leaves : ℕ
  leaves = g.machine.net.leaves

  abbrev outs : List ℕ
  outs = g.machine.outputs

  abbrev stored : List ℕ
  stored = map (λ r. r.d) g.machine.latches

  abbrev own_numbers : List ℕ
  own_numbers = stored ++ beside_gates leaves outs outs

  abbrev stores : List Label
  stores = word_labels store (λ w. length w + code.columns) l.state

  abbrev nexts : List Label
  nexts = word_labels next (λ w. length w + code.columns) l.state

  abbrev sources : List Label
  sources = map (λ n. given n) e.output_names

  abbrev checks : List Label
  checks = word_labels check (λ w. code.columns) l.output

  abbrev all_rails : List Label
  all_rails = map rail (range_with_len 0 g.rails)

  -- the labels of all outputs
  abbrev all_shown : List Label
  all_shown = sources ++ checks ++ all_rails

  abbrev own : List Label
  own = nexts ++ beside_gates leaves all_shown outs

  abbrev data_labels : List Label
  data_labels = map (λ n. given n) e.data_names

  abbrev gates_labelled : List Label
  gates_labelled = between (λ i. inner i) leaves 0 own_numbers own

  abbrev all_labels : List Label
  all_labels = data_labels ++ stores ++ gates_labelled

  abbrev pub guard_named : Named
  guard_named =
      record {
        model = e.model;
        unknown_inits = e.unknown_inits;
        inputs = e.input_ports;
        clocks = e.clock_ports;
        outputs = outs;
        clocking = e.clocking;
        net = g.machine.net;
        labels = all_labels;
        latches = g.machine.latches;
        data_inputs = e.machine.inputs;
      }

  -- ---- counts

  pub latch_count : length g.machine.latches ≡ latches_of_words code l.state
  latch_count = sym (length-map g.machine.latches (λ r. r.init)) ∙ ap length guard.inits ∙ codewords_long code is_code (map (λ r. r.init) e.machine.latches) l.state

  pub leaves_are : length e.data_names + latches_of_words code l.state ≡ leaves
  leaves_are = let a = latch_count in let b = guard.is_machine.leaves in let c = guard.own_nets.inputs in let d = form.inputs in omega arith

  front_long : length (data_labels ++ stores) ≡ leaves
  front_long = let a = length-append data_labels stores in let b = length-map e.data_names (λ n. given n) in let c = places_long store code l.state in let d = leaves_are in omega arith

  pub outs_long : length outs ≡ length e.output_names + length l.output * code.columns + g.rails
  outs_long = let a = guard.outputs in let b = form.outputs in omega arith

  shown_long : length outs ≡ length all_shown
  shown_long =
      let a = outs_long in
      let b = length-append (sources ++ checks) all_rails in
      let c = length-append sources checks in
      let d = length-map e.output_names (λ n. given n) in
      let f = checks_long check code.columns l.output in
      let h = length-map-range_with_len rail 0 g.rails in
      omega arith

  stored_long : length stored ≡ length nexts
  stored_long = length-map g.machine.latches (λ r. r.d) ∙ latch_count ∙ sym (places_long next code l.state)

  own_long : length own_numbers ≡ length own
  own_long =
      let a = length-append stored (beside_gates leaves outs outs) in
      let b = length-append nexts (beside_gates leaves all_shown outs) in
      let c = stored_long in
      let d = as_many leaves outs all_shown outs shown_long in
      omega arith

  pub rises : IsRising leaves own_numbers
  rises = own_rise g e.machine guard.is_machine guard.own_nets guard.covers guard.separate

  labels_long : length all_labels ≡ net_count g.machine.net
  labels_long =
      let a = length-append (data_labels ++ stores) gates_labelled in
      let b = front_long in
      let c = between_long (λ i. inner i) leaves 0 own_numbers own rises own_long in
      let d = own_end g e.machine guard.is_machine guard.own_nets guard.covers guard.separate in
      omega arith

  -- ---- bit by bit

  abbrev kept_outputs : List Name
  kept_outputs = names_from e.machine.inputs e.output_names e.machine.outputs

  late : (i n : ℕ) → length sources ≤ i → slice_get outs i ≡ Some n → leaves ≤ n
  late i n far at = by_size (below_or n leaves)
    where
      by_size : (n < leaves) ⊎ (leaves ≤ n) → leaves ≤ n
      by_size (inr high) = high
      by_size (inl low) =
          absurd
          (let inside_source = slice_get_within e.machine.outputs i n (guard.own_nets.passes i n at low).1 in
          let a = length-map e.output_names (λ n. given n) in
          let b = form.outputs in
          omega arith)

  outputs_split : beside_gates leaves all_shown outs ≡ map (λ n. given n) kept_outputs ++ (checks ++ all_rails)
  outputs_split =
      let whole : length outs ≡ length sources + length (checks ++ all_rails) = (let a = shown_long in let b = ap length (append_assoc sources checks all_rails) in let c = length-append sources (checks ++ all_rails) in omega arith) in
      let low : e.machine.inputs ≤ leaves = (let a = guard.is_machine.leaves in let b = guard.own_nets.inputs in omega arith) in
      let few : length e.machine.outputs ≤ length outs = (let a = guard.outputs in omega arith) in
      ap (λ (ls : List Label). beside_gates leaves ls outs) (append_assoc sources checks all_rails)
      ∙ gates_split leaves sources (checks ++ all_rails) outs whole late
      ∙ ap (λ (ls : List Label). ls ++ (checks ++ all_rails)) (gates_of_source e.machine.inputs leaves e.output_names e.machine.outputs outs low form.outputs few guard.own_nets.passes_all guard.own_nets.passes)

  abbrev bits : List (ℕ × Label)
  bits = bits_of leaves own_numbers own

  labelled : IsLabelledByBits code l g.rails e.data_names kept_outputs bits all_labels
  labelled = record {
    own =
        bits_own leaves own_numbers own own_long
        ∙ ap (λ (ls : List Label). nexts ++ ls) outputs_split
        ∙ sym (append_assoc (nexts ++ map (λ n. given n) kept_outputs) checks all_rails ∙ append_assoc nexts (map (λ n. given n) kept_outputs) (checks ++ all_rails));
    all = ap (λ (ls : List Label). data_labels ++ stores ++ ls) (by_bits leaves 0 own_numbers own);
  }

  few_all : length g.machine.latches + length g.machine.net.gates ≤ 1000000 → net_count g.machine.net ≤ 2000000
  few_all cells = let a = guard.is_machine.leaves in let b = guard.own_nets.inputs in let c = form.inputs in let d = form.few_inputs.0 in omega arith

  module _ (cells : cell_count g ≤ 1000000) (few_rails : g.rails ≤ 17) where
    few_state : length l.state ≤ 4096
    few_state = let a = few_words (length e.latch_names) (data_places code) l.state state in let b = form.few_latches in omega arith

    few_output : length l.output ≤ 4096
    few_output = let a = few_words (length e.output_names) (data_places code) l.output output in let b = form.few_outputs in omega arith

    few_places : HasFewPlaces code l g.rails all_labels
    few_places = record {
      state = let a = few_state in omega arith;
      output = let a = few_output in omega arith;
      places = all_by (λ w. length w ≤ data_places code) (λ w. length w + code.columns ≤ 2 ^ 64) (λ w h. let a = is_code.rows.1 in let b = is_code.columns.1 in omega arith) l.state (short_words (length e.latch_names) (data_places code) l.state state);
      columns = let b = is_code.columns.1 in omega arith;
      few_rails = omega arith;
      few_labels = let a = labels_long in let b = few_all cells in omega arith;
    }

    in_order : AreGuardLabels code l g.rails all_labels
    in_order = labelled_in_order code l g.rails e.data_names kept_outputs bits all_labels labelled (taken_over_distinct e form)

    given_are : flat_map given_name all_labels ≡ taken_over e
    given_are = labelled_names code l g.rails e.data_names kept_outputs bits all_labels labelled

    free : AreFreeLabels all_labels
    free = free_labels all_labels (guard_labels_small code l g.rails all_labels in_order few_places) (subst (λ (ns : List Name). AllByRecursion (λ n. IsTrue (not (is_reserved n))) ns) (sym given_are) (taken_over_free e form))

    -- ---- the outputs alone

    abbrev outputs_alone : Layout
    outputs_alone = record { state = []; output = l.output }

    abbrev shown_bits : List (ℕ × Label)
    shown_bits = map (λ (x : Label). (0, x)) all_shown

    shown_labelled : IsLabelledByBits code outputs_alone g.rails [] e.output_names shown_bits all_shown
    shown_labelled = record { own = bits_back all_shown; all = no_bits all_shown }

    shown_in_order : AreGuardLabels code outputs_alone g.rails all_shown
    shown_in_order = labelled_in_order code outputs_alone g.rails [] e.output_names shown_bits all_shown shown_labelled form.output_ports

    outputs_within : length outs ≤ 131072
    outputs_within =
        let a = outs_long in
        let b = form.few_outputs in
        let c : length l.output * code.columns ≤ 4096 * 16 = most (length l.output) code.columns few_output is_code.columns.1 in
        omega arith
      where
        most : (x y : ℕ) → x ≤ 4096 → y ≤ 16 → x * y ≤ 4096 * 16
        most x y h k = omega (arith, mul-le-mul_left x k)

    few_shown : HasFewPlaces code outputs_alone g.rails all_shown
    few_shown = record {
      state = omega arith;
      output = let a = few_output in omega arith;
      places = tt;
      columns = let b = is_code.columns.1 in omega arith;
      few_rails = omega arith;
      few_labels = let a = shown_long in let b = outputs_within in omega arith;
    }

    -- ---- what holds of the names of its parts

    module _ (P : Name → Type 0) (all : AllByRecursion P (e.input_ports ++ e.clock_ports ++ e.output_names ++ e.latch_names)) where
      on_outputs : AllByRecursion P e.output_names
      on_outputs = (all_split P (e.input_ports ++ e.clock_ports) e.output_names (all_split P (e.input_ports ++ e.clock_ports ++ e.output_names) e.latch_names all).0).1

      on_ports : AllByRecursion P (e.input_ports ++ e.clock_ports)
      on_ports = (all_split P (e.input_ports ++ e.clock_ports) e.output_names (all_split P (e.input_ports ++ e.clock_ports ++ e.output_names) e.latch_names all).0).0

      on_inputs : AllByRecursion P e.input_ports
      on_inputs = (all_split P e.input_ports e.clock_ports on_ports).0

      on_data : AllByRecursion P e.data_names
      on_data = subst (λ (ns : List Name). AllByRecursion P ns) (sym form.data_inputs) (all_filter P (λ n. not (stands_in n (elaborated_clocks e))) e.input_ports on_inputs)

      on_clocks : AllByRecursion P (elaborated_clocks e)
      on_clocks = all_join P e.clock_ports (control_nets e.clocking) (all_split P e.input_ports e.clock_ports on_ports).1 (all_control P (e.input_ports ++ e.clock_ports) e.clocking on_ports form.control)

      on_taken : AllByRecursion P (taken_names guard_named)
      on_taken =
          all_join P (flat_map given_name all_labels ++ e.input_ports) (elaborated_clocks e)
          (all_join P (flat_map given_name all_labels) e.input_ports
          (subst (λ (ns : List Name). AllByRecursion P ns) (sym given_are) (all_join P e.data_names kept_outputs on_data (all_from P e.machine.inputs e.output_names e.machine.outputs on_outputs)))
          on_inputs)
          on_clocks

    abbrev IsUnreserved : Name → Type 0
    IsUnreserved n = IsTrue (not (is_reserved n))

    shown_free : AreFreeLabels all_shown
    shown_free =
        free_labels all_shown (guard_labels_small code outputs_alone g.rails all_shown shown_in_order few_shown)
        (subst (λ (ns : List Name). AllByRecursion IsUnreserved ns) (sym (labelled_names code outputs_alone g.rails [] e.output_names shown_bits all_shown shown_labelled)) (on_outputs IsUnreserved form.free))

    shown_distinct : IsTrue (are_distinct (map label_name all_shown))
    shown_distinct =
        guard_names_distinct code outputs_alone g.rails all_shown shown_in_order few_shown
        (subst (λ (ns : List Name). AllByRecursion IsUnreserved ns) (sym (labelled_names code outputs_alone g.rails [] e.output_names shown_bits all_shown shown_labelled)) (on_outputs IsUnreserved form.free))

    -- ---- the names of nets

    net_at : (k : ℕ) (x : Label) → slice_get all_labels k ≡ Some x → net_name guard_named k ≡ label_name x
    net_at k x at = get_or_from_slice_get (map label_name all_labels) k (label_name x) [] (get_map label_name all_labels k x at)

    abbrev Has : ℕ → Label → Type 0
    Has n x = slice_get all_labels n ≡ Some x

    own_placed : AllZip (λ n x. slice_get all_labels n ≡ Some x) own_numbers own
    own_placed = placed (λ i. inner i) (data_labels ++ stores) leaves 0 own_numbers own front_long rises own_long

    own_parts : AllZip Has stored nexts × AllZip Has (beside_gates leaves outs outs) (beside_gates leaves all_shown outs)
    own_parts = zip_split Has stored (beside_gates leaves outs outs) nexts (beside_gates leaves all_shown outs) stored_long own_placed

    stores_are : stored_names guard_named ≡ map label_name nexts
    stores_are = zip_maps (net_name guard_named) label_name Has (λ n x at. net_at n x at) stored nexts own_parts.0

    leaf_named : (i n : ℕ) (x : Label) → slice_get outs i ≡ Some n → n < leaves → slice_get all_shown i ≡ Some x → net_name guard_named n ≡ label_name x
    leaf_named i n x at low shown =
        let (small, there) = guard.own_nets.passes i n at low in
        let (name, named, is) = zip_at (IsLeafWhereNamed e) e.output_names e.machine.outputs i n form.leaves there in
        let source_leaves = form.well_formed.leaves in
        let leaf : slice_get (leaf_names e) n ≡ Some name = (is n (omega arith)).0 refl in
        let many = form.inputs in
        let is_data : slice_get e.data_names n ≡ Some name = in_front e.data_names e.latch_names n name (omega arith) leaf in
        let label : slice_get all_labels n ≡ Some (given name) = at_append (data_labels ++ stores) gates_labelled n (given name) (at_append data_labels stores n (given name) (get_map (λ k. given k) e.data_names n name is_data)) in
        let here : slice_get all_shown i ≡ Some (given name) = at_append (sources ++ checks) all_rails i (given name) (at_append sources checks i (given name) (get_map (λ k. given k) e.output_names i name named)) in
        let same : given name ≡ x = (let both : Some (given name) ≡ Some x = sym here ∙ shown in cc both) in
        net_at n (given name) label ∙ ap label_name same
      where
        in_front : (xs ys : List Name) (k : ℕ) (y : Name) → k < length xs → slice_get (xs ++ ys) k ≡ Some y → slice_get xs k ≡ Some y
        in_front [] ys k y h f = absurd (omega arith)
        in_front (z ∷ xs) ys zero y h f = f
        in_front (z ∷ xs) ys (suc k) y h f = in_front xs ys k y (omega arith) f

    outputs_are : output_names guard_named ≡ map label_name all_shown
    outputs_are =
        each_shown leaves (net_name guard_named) label_name all_shown outs shown_long leaf_named
        (zip_by (beside_gates leaves outs outs) (beside_gates leaves all_shown outs) own_parts.1)
      where
        zip_by : (ns : List ℕ) (xs : List Label) → AllZip Has ns xs → AllZip (λ n x. net_name guard_named n ≡ label_name x) ns xs
        zip_by [] [] h = tt
        zip_by [] (x ∷ xs) h = absurd h
        zip_by (n ∷ ns) [] h = absurd h
        zip_by (n ∷ ns) (x ∷ xs) h = (net_at n x h.0, zip_by ns xs h.1)

    names_are : map label_name all_labels ≡ (e.data_names ++ map label_name stores) ++ map label_name gates_labelled
    names_are =
        map-append label_name (data_labels ++ stores) gates_labelled
        ∙ ap (λ (ns : List Name). ns ++ map label_name gates_labelled) (map-append label_name data_labels stores ∙ ap (λ (ns : List Name). ns ++ map label_name stores) (given_named e.data_names))

    shows_are : latch_labels guard_named ≡ map label_name stores
    shows_are =
        ap (λ (ns : List Name). take (length g.machine.latches) (drop e.machine.inputs ns)) (names_are ∙ append_assoc e.data_names (map label_name stores) (map label_name gates_labelled))
        ∙ ap (take (length g.machine.latches)) (drop_at e.data_names (map label_name stores ++ map label_name gates_labelled) e.machine.inputs form.inputs)
        ∙ take_at (map label_name stores) (map label_name gates_labelled) (length g.machine.latches) (length-map stores label_name ∙ places_long store code l.state ∙ sym latch_count)

    gates_are : gate_labels guard_named ≡ map label_name gates_labelled
    gates_are =
        ap (drop leaves) (map-append label_name (data_labels ++ stores) gates_labelled)
        ∙ drop_at (map label_name (data_labels ++ stores)) (map label_name gates_labelled) leaves (length-map (data_labels ++ stores) label_name ∙ front_long)

    -- ---- inner cells

    abbrev named_labels : List Label
    named_labels = all_shown ++ nexts

    outer_names : output_names guard_named ++ stored_names guard_named ≡ map label_name named_labels
    outer_names = ap₂ (λ (xs ys : List Name). xs ++ ys) outputs_are stores_are ∙ sym (map-append label_name all_shown nexts)

    abbrev IsOuter : Label → Type 0
    IsOuter x = is_inner x ≡ false

    shown_outer : AllByRecursion IsOuter all_shown
    shown_outer =
        all_join IsOuter (sources ++ checks) all_rails
        (all_join IsOuter sources checks (all_map IsOuter (λ n. given n) e.output_names (all_of (λ (n : Name). is_inner (given n) ≡ false) (λ n. refl) e.output_names)) (all_places IsOuter check (λ w. code.columns) (λ w i. refl) l.output))
        (all_row IsOuter rail (λ i. refl) g.rails)

    nexts_outer : AllByRecursion IsOuter nexts
    nexts_outer = all_places IsOuter next (λ w. length w + code.columns) (λ w i. refl) l.state

    nexts_free : AllByRecursion IsFreeLabel nexts
    nexts_free = subst (λ (ls : List Label). AllByRecursion IsFreeLabel ls) in_order.nexts (all_filter IsFreeLabel is_next all_labels free)

    abbrev test : Name → Bool
    test k = not (stands_in k (map label_name named_labels))

    tested : AllByRecursion (λ x. test (label_name x) ≡ is_inner x) gates_labelled
    tested =
        between_all (λ x. test (label_name x) ≡ is_inner x) (λ i. inner i) leaves 0 own_numbers own rises
        (λ i small. ap not (inner_off i named_labels (few_inner i small) (all_join IsFreeLabel all_shown nexts shown_free nexts_free) (all_join IsOuter all_shown nexts shown_outer nexts_outer)))
        (all_join (λ x. test (label_name x) ≡ is_inner x) nexts (beside_gates leaves all_shown outs)
        (both nexts nexts_outer parts.1)
        (all_beside (λ x. test (label_name x) ≡ is_inner x) leaves all_shown outs (both all_shown shown_outer parts.0)))
      where
        few_inner : (i : ℕ) → i + leaves < 0 + end_of leaves own_numbers → i < 2 ^ 64
        few_inner i small = let d = own_end g e.machine guard.is_machine guard.own_nets guard.covers guard.separate in let b = few_all cells in omega arith

        parts : AllByRecursion (λ x. stands_in (label_name x) (map label_name named_labels) ≡ true) all_shown × AllByRecursion (λ x. stands_in (label_name x) (map label_name named_labels) ≡ true) nexts
        parts = all_split (λ x. stands_in (label_name x) (map label_name named_labels) ≡ true) all_shown nexts (each_named named_labels)

        both : (xs : List Label) → AllByRecursion IsOuter xs → AllByRecursion (λ x. stands_in (label_name x) (map label_name named_labels) ≡ true) xs → AllByRecursion (λ x. test (label_name x) ≡ is_inner x) xs
        both [] h k = tt
        both (x ∷ xs) h k = (ap not k.0 ∙ sym h.0, both xs h.1 k.1)

    front_outer : AllByRecursion IsOuter (data_labels ++ stores)
    front_outer =
        all_join IsOuter data_labels stores (all_map IsOuter (λ n. given n) e.data_names (all_of (λ (n : Name). is_inner (given n) ≡ false) (λ n. refl) e.data_names))
        (all_places IsOuter store (λ w. length w + code.columns) (λ w i. refl) l.state)

    inner_kept : filter is_inner gates_labelled ≡ map inner (range_with_len 0 (length (filter is_inner all_labels)))
    inner_kept =
        let whole : filter is_inner all_labels ≡ filter is_inner gates_labelled
        = filter-append is_inner (data_labels ++ stores) gates_labelled ∙ ap (λ (ls : List Label). ls ++ filter is_inner gates_labelled) (none_kept is_inner (data_labels ++ stores) front_outer) in
        sym whole ∙ in_order.inner

    inner_are : inner_gates guard_named ≡ map inner_name (range_with_len 0 (length (filter is_inner all_labels)))
    inner_are =
        ap₂ (λ (ks ns : List Name). filter (λ k. not (stands_in k ks)) ns) outer_names gates_are
        ∙ filter_names label_name test is_inner gates_labelled tested
        ∙ ap (map label_name) inner_kept
        ∙ inner_row 0 (length (filter is_inner all_labels))
      where
        inner_row : (a n : ℕ) → map label_name (map inner (range_with_len a n)) ≡ map inner_name (range_with_len a n)
        inner_row a zero = refl
        inner_row a (suc n) = ap (λ (ns : List Name). inner_name a ∷ ns) (inner_row (a + 1) n)

    inner_numbered : inner_gates guard_named ≡ map inner_name (range_with_len 0 (length (inner_gates guard_named)))
    inner_numbered =
        let count : length (inner_gates guard_named) ≡ length (filter is_inner all_labels) = ap (λ (ns : List Name). length ns) inner_are ∙ length-map-range_with_len inner_name 0 (length (filter is_inner all_labels)) in
        inner_are ∙ ap (λ k. map inner_name (range_with_len 0 k)) (sym count)

    -- ---- no net has the name of a clock net

    abbrev IsNoClock : Label → Type 0
    IsNoClock x = IsTrue (not (stands_in (label_name x) (elaborated_clocks e)))

    added : (x : Label) → is_reserved (label_name x) ≡ true → IsNoClock x
    added x reserved = ap not (reserved_off (label_name x) (elaborated_clocks e) reserved (on_clocks IsUnreserved form.free))

    no_clocks : AllByRecursion IsNoClock all_labels
    no_clocks =
        all_join IsNoClock (data_labels ++ stores) gates_labelled
        (all_join IsNoClock data_labels stores
        (all_map IsNoClock (λ n. given n) e.data_names (subst (λ (ns : List Name). AllByRecursion (λ n. IsTrue (not (stands_in n (elaborated_clocks e)))) ns) (sym form.data_inputs) (passes_filter (λ n. not (stands_in n (elaborated_clocks e))) e.input_ports)))
        (all_places IsNoClock store (λ w. length w + code.columns) (λ w i. added (store w i) refl) l.state))
        (between_all IsNoClock (λ i. inner i) leaves 0 own_numbers own rises (λ i small. added (inner i) refl)
        (all_join IsNoClock nexts (beside_gates leaves all_shown outs) (all_places IsNoClock next (λ w. length w + code.columns) (λ w i. added (next w i) refl) l.state)
        (all_beside IsNoClock leaves all_shown outs
        (all_join IsNoClock (sources ++ checks) all_rails
        (all_join IsNoClock sources checks (all_map IsNoClock (λ n. given n) e.output_names form.clocks_unread) (all_places IsNoClock check (λ w. code.columns) (λ w i. added (check w i) refl) l.output))
        (all_row IsNoClock rail (λ i. added (rail i) refl) g.rails)))))

    -- ---- all of it

    unclocked : g.machine.latches ≡ [] → e.clocking ≡ plain
    unclocked none =
        let no_latch : latches_of_words code l.state ≡ 0 = sym latch_count ∙ ap (λ (rs : List LatchRow). length rs) none in
        form.clocking (no_items e.latch_names (no_words (length e.latch_names) (data_places code) l.state state (no_state l.state no_latch)))
      where
        no_state : (words : Words) → latches_of_words code words ≡ 0 → words ≡ []
        no_state [] f = refl
        no_state (w ∷ words) f = absurd (let s = sum_by-cons (λ v. length v + code.columns) w words in let c = is_code.columns.0 in omega arith)

    pub is_named : IsNamed guard_named
    is_named = record {
      gates = guard.is_machine.gates;
      leaves = let a = guard.is_machine.leaves in let b = guard.own_nets.inputs in omega arith;
      labels = labels_long;
      distinct = source_names_distinct e code l g.rails bits all_labels form few_places labelled;
      first_labels =
          ap (take e.machine.inputs) (append_assoc data_labels stores gates_labelled)
          ∙ take_at data_labels (stores ++ gates_labelled) e.machine.inputs (length-map e.data_names (λ n. given n) ∙ form.inputs)
          ∙ ap (map (λ n. given n)) form.data_inputs;
      no_clock = all_map (λ n. IsTrue (not (stands_in n (elaborated_clocks e)))) label_name all_labels no_clocks;
      inputs = form.input_ports;
      clocks = form.clock_ports;
      control = form.control;
      clocking = unclocked;
      outputs = guard.is_machine.outputs;
      once = subst (λ (ns : List Name). IsTrue (are_distinct ns)) (sym outputs_are) shown_distinct;
      stores = guard.is_machine.stores;
      model = form.model;
      words = on_taken IsWordName form.words;
      free = on_taken IsUnreserved form.free;
      limits =
          let a = few_latches code (length e.latch_names) l.state state is_code.columns.1 form.few_latches in
          let b = latch_count in
          within guard_named (let c = form.few_inputs.1 in omega arith) outputs_within (let c = form.few_inputs.2 in omega arith) (omega arith) (omega arith);
    }

    pub is_guard : IsGuardNamed guard_named g e code l
    is_guard = record {
      machine = ap (λ (n : ℕ). let m : Machine = record { net = g.machine.net; inputs = n; latches = g.machine.latches; outputs = g.machine.outputs } in m) (sym guard.own_nets.inputs);
      model = refl;
      unknown_inits = refl;
      inputs = refl;
      clocks = refl;
      clocking = refl;
      outputs = outputs_are ∙ shown_named e.output_names code l.output g.rails;
      shows = shows_are ∙ stores_named code.columns l.state;
      stores = stores_are ∙ nexts_named code.columns l.state;
      inner = inner_numbered;
    }
