-- A machine whose nets are numbered as leaves and as gates of their drivers is that of its source.
use Rattle.std.proofs.Common.{◌≡◌, refl, sym, ◌∙◌, ap, subst, ℕ, zero, suc, ◌+◌, ◌<◌, List, [], ◌∷◌, ◌++◌, length, map, ◌⊎◌, inl, inr, Some, arith}
use Rattle.std.proofs.lemmas.List.{length-map}
use Rattle.std.proofs.lemmas.List.FromFn.{length-range_with_len}
use Rattle.std.specs.Prelude.{◌↔◌, slice_get}
use Rattle.std.specs.List.{AllZip, flat_map, range_with_len}
use Rattle.netlist_spec.specs.Netlist.{Name, Statement, Model, File}
use Rattle.netlist_spec.specs.Covers.{Library}
use Rattle.netlist_spec.specs.Placed.{port_names}
use Rattle.netlist_spec.specs.Models.{latches_of, clock_nets, data_inputs, latch_inputs, latch_outputs, output_nets}
use Rattle.netlist_spec.specs.Sound.{drives, reads, read_nets, IsMain, IsSoundModel, IsSound}
use Rattle.netlist_spec.specs.Gates.{LatchRow, Machine}
use Rattle.netlist_spec.specs.Elaborated.{IsMachineOf}
use Rattle.source_laws.specs.Costs.{statements_of, StandsFor, a_leaf, a_gate, IsDriver}
use Rattle.source_laws.specs.Nets.{Nets}
use Rattle.source_laws.specs.Numbered.{IsNumbered}
use Rattle.source_laws.proofs.Lists.{Among, contained, among_front, among_back, among_either, stands}
use Rattle.source_laws.proofs.Agree.{given_or_combined, driven_where_read}
use Rattle.source_laws.proofs.OneOutcome.{clock_or_data, stored_is_read}
use Rattle.source_laws.proofs.Tallies.{get_from_front, get_back}
use Rattle.source_laws.specs.Settling.{given_nets}
use Rattle.netlist_spec.specs.Reads.{control_nets}
use Rattle.source_laws.proofs.Nets.{has_bits, read_off_clocks}
use Rattle.source_laws.proofs.Lowered.{machine_of}

-- the place of an element
pub place_of : (ns : List Name) (x : Name) → Among x ns → (i : ℕ) × (slice_get ns i ≡ Some x)
place_of [] x h = absurd h
place_of (n ∷ ns) x (inl e) = (0, ap (λ (k : Name). Some k) e)
place_of (n ∷ ns) x (inr h) = let (i, e) = place_of ns x h in (suc i, e)

pub at_place : (ns : List Name) (i : ℕ) (x : Name) → slice_get ns i ≡ Some x → Among x ns
at_place [] i x e = cc e
at_place (n ∷ ns) zero x e = inl (let same : n ≡ x = cc e in same)
at_place (n ∷ ns) (suc i) x e = inr (at_place ns i x e)

-- names that are numbered from a number on
pub number_at : (nets : Nets) (ns : List Name) (a k : ℕ) → map nets ns ≡ range_with_len a k → (i : ℕ) (x : Name) → slice_get ns i ≡ Some x → nets x ≡ a + i
number_at nets [] a k e i x g = cc g
number_at nets (n ∷ ns) a zero e i x g = absurd (let l = ap length e in omega arith)
number_at nets (n ∷ ns) a (suc k) e zero x g =
    let whole : nets n ∷ map nets ns ≡ a ∷ range_with_len (a + 1) k = e in
    let first : nets n ≡ a = cc whole in
    let same : n ≡ x = cc g in
    ap nets (sym same) ∙ (first ∙ (let z : a ≡ a + 0 = omega arith in z))
number_at nets (n ∷ ns) a (suc k) e (suc i) x g =
    let whole : nets n ∷ map nets ns ≡ a ∷ range_with_len (a + 1) k = e in
    let rest : map nets ns ≡ range_with_len (a + 1) k = cc whole in
    number_at nets ns (a + 1) k rest i x g ∙ (let z : (a + 1) + i ≡ a + suc i = omega arith in z)

zip_mapped : {A B C : Type 0} (R : A → B → Type 0) (f : A → B) (g : C → B) (xs : List A) (ys : List C) → map f xs ≡ map g ys → ((x : A) → Among x xs → R x (f x)) → AllZip (λ x y. R x (g y)) xs ys
zip_mapped R f g [] [] e h = tt
zip_mapped R f g [] (y ∷ ys) e h = absurd (let l = ap length e in omega arith)
zip_mapped R f g (x ∷ xs) [] e h = absurd (let l = ap length e in omega arith)
zip_mapped R f g (x ∷ xs) (y ∷ ys) e h =
    let whole : f x ∷ map f xs ≡ g y ∷ map g ys = e in
    let first : f x ≡ g y = cc whole in
    let rest : map f xs ≡ map g ys = cc whole in
    (subst (R x) first (h x (inl refl)), zip_mapped R f g xs ys rest (λ z k. h z (inr k)))

same_list : (ns : List ℕ) → map (λ n. n) ns ≡ ns
same_list [] = refl
same_list (n ∷ ns) = ap (λ (ks : List ℕ). n ∷ ks) (same_list ns)

pub zip_named : (R : Name → ℕ → Type 0) (nets : Nets) (xs : List Name) (ns : List ℕ) → map nets xs ≡ ns → ((x : Name) → Among x xs → R x (nets x)) → AllZip R xs ns
zip_named R nets xs ns e h = zip_mapped R nets (λ n. n) xs ns (e ∙ sym (same_list ns)) h

module _ (file : File) (library : Library) (m : Model) (machine : Machine) (owners : List ℕ) (nets : Nets) (sound : IsSound file library) (main : IsMain file m) (is : IsNumbered file library m machine owners nets) where
  abbrev model_is : IsSoundModel file library m
  model_is = sound.used m (m, main, 0, refl)

  pub input_count : machine.inputs ≡ length (data_inputs m)
  input_count =
      let a = ap length is.inputs in
      let b = length-map (data_inputs m) nets in
      let c = length-range_with_len 0 machine.inputs in
      omega arith

  pub latch_count : length machine.latches ≡ length (latch_outputs m)
  latch_count =
      let a = ap length is.state in
      let b = length-map (latch_outputs m) nets in
      let c = length-range_with_len machine.inputs (length machine.latches) in
      omega arith

  -- the leaves of a machine, by name
  pub leaf_number : (i : ℕ) (x : Name) → slice_get (data_inputs m ++ latch_outputs m) i ≡ Some x → nets x ≡ i
  leaf_number i x e = by_case (order i (length (data_inputs m)))
    where
      order : (i n : ℕ) → (i < n) ⊎ ((j : ℕ) × (i ≡ n + j))
      order i zero = inr (i, omega arith)
      order zero (suc n) = inl (omega arith)
      order (suc i) (suc n) = elim (order i n) [ inl h ↦ inl (omega arith) | inr k ↦ (let (j, same) = k in inr (j, omega arith)) ]

      by_case : (i < length (data_inputs m)) ⊎ ((j : ℕ) × (i ≡ length (data_inputs m) + j)) → nets x ≡ i
      by_case (inl h) = number_at nets (data_inputs m) 0 machine.inputs is.inputs i x (get_from_front (data_inputs m) (latch_outputs m) i x h e) ∙ (let z : 0 + i ≡ i = omega arith in z)
      by_case (inr (j, same)) =
          let at : slice_get (latch_outputs m) j ≡ Some x = sym (get_back (data_inputs m) (latch_outputs m) j) ∙ (ap (slice_get (data_inputs m ++ latch_outputs m)) (sym same) ∙ e) in
          let number = number_at nets (latch_outputs m) machine.inputs (length machine.latches) is.state j x at in
          let a = input_count in
          omega arith

  leaf_place : (x : Name) → Among x (data_inputs m ++ latch_outputs m) → slice_get (data_inputs m ++ latch_outputs m) (nets x) ≡ Some x
  leaf_place x h = let (i, e) = place_of (data_inputs m ++ latch_outputs m) x h in ap (slice_get (data_inputs m ++ latch_outputs m)) (leaf_number i x e) ∙ e

  -- a net that is read is a leaf, or a gate of its driver
  leaf_or_gate : (x : Name) → Among x (read_nets file library m) → Among x (data_inputs m ++ latch_outputs m) ⊎ ((s : Statement) × IsDriver file library m s x)
  leaf_or_gate x h =
      elim (given_or_combined file library m x (driven_where_read file library m model_is x h)) [
        | inl g ↦ inl (given_leaf g)
        | inr d ↦ let (s, in_s, c, r) = d in inr (s, record { stands = contained (statements_of m) s in_s; combines = c; drives = stands x (drives file library s) r })
      ]
    where
      never : Among x (clock_nets m) → ⊥
      never c = read_off_clocks file library m machine nets sound main x h c

      given_leaf : Among x (given_nets m) → Among x (data_inputs m ++ latch_outputs m)
      given_leaf g =
          elim (among_either (port_names m.inputs ++ port_names m.clocks) (latch_outputs m) x g) [
            | inl p ↦ elim (among_either (port_names m.inputs) (port_names m.clocks) x p) [
              | inl i ↦ elim (clock_or_data file library m x i) [ inl c ↦ absurd (never c) | inr d ↦ among_front (data_inputs m) (latch_outputs m) x d ]
              | inr c ↦ absurd (never (among_front (port_names m.clocks) (flat_map (λ l. control_nets l.clocking) (latches_of m)) x c))
            ]
            | inr q ↦ among_back (data_inputs m) (latch_outputs m) x q
          ]

  stands_for : (x : Name) → Among x (read_nets file library m) → StandsFor file library m machine.net.leaves owners x (nets x)
  stands_for x h =
      elim (leaf_or_gate x h) [
        | inl l ↦ a_leaf (leaf_place x l)
        | inr g ↦ let (s, d) = g in let gate = is.driven x s d in a_gate gate.place gate.owner s gate.number gate.owns gate.statement d.combines d.drives
      ]

  pub output_is_read : (x : Name) → Among x (output_nets m) → Among x (read_nets file library m)
  output_is_read x h = among_back (flat_map (λ s. reads file library s.what) m.statements) (port_names m.outputs) x h

  store_is_read : (x : Name) → Among x (latch_inputs m) → Among x (read_nets file library m)
  store_is_read x h = among_front (flat_map (λ s. reads file library s.what) m.statements) (port_names m.outputs) x (stored_is_read file library m.statements x h)

  pub numbered_machine : IsMachineOf file library m machine
  numbered_machine =
      machine_of file library m machine owners sound main
      (record {
        well_formed = is.well_formed;
        inputs = input_count;
        inits = is.inits;
        gates = is.gates;
        stores = zip_mapped (λ x n. StandsFor file library m machine.net.leaves owners x n) nets (λ (r : LatchRow). r.d) (latch_inputs m) machine.latches is.stores (λ x h. stands_for x (store_is_read x h));
        outputs = zip_named (λ x n. StandsFor file library m machine.net.leaves owners x n) nets (output_nets m) machine.outputs is.outputs (λ x h. stands_for x (output_is_read x h));
        meaning = has_bits file library m machine nets sound main is.fit is.inputs is.state is.outputs is.stores;
      })

  -- an output's net is a leaf exactly where the output has that leaf's name
  pub output_leaf : (x : Name) → Among x (output_nets m) → (i : ℕ) → i < machine.net.leaves → (nets x ≡ i) ↔ (slice_get (data_inputs m ++ latch_outputs m) i ≡ Some x)
  output_leaf x h i below = (
    λ e. elim (leaf_or_gate x (output_is_read x h)) [
      | inl l ↦ ap (slice_get (data_inputs m ++ latch_outputs m)) (sym e) ∙ leaf_place x l
      | inr g ↦ let (s, d) = g in let gate = is.driven x s d in let number = gate.number in absurd (omega arith)
    ],
    λ at. leaf_number i x at,
  )
