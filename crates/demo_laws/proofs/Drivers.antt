-- Each net of the demo design has one driver, and each net that is read is driven.
use Rattle.std.proofs.Common.{◌≡◌, ◌≢◌, refl, sym, ◌∙◌, ap, subst, ℕ, ◌+◌, ◌*◌, ◌<◌, ◌≤◌, List, [], ◌∷◌, ◌++◌, map, inl, inr, arith}
use Rattle.std.specs.Prelude.{IsTrue}
use Rattle.std.specs.List.{AllByRecursion, flat_map}
use Rattle.netlist_spec.specs.Netlist.{Name, stands_in, are_distinct, Statement}
use Rattle.netlist_spec.specs.Reads.{first_appearances, ports_at}
use Rattle.netlist_spec.specs.Placed.{port_names}
use Rattle.netlist_spec.specs.Sound.{reads, driven_nets, HasOneDriverEach, IsDrivenWhereRead}
use Rattle.program_spec.specs.Demo.{numbered, state_bits, moved_to}
use Rattle.netlist_spec.proofs.Occurrences.{occ, occ_append, first_stands}
use Rattle.source_laws.proofs.Lists.{Among, among_front, among_back, stands, standing}
use Rattle.source_laws.proofs.SomeValuation.{once_distinct}
use Rattle.demo_laws.specs.DemoFile.{loaded, shown, stored, next, substituted, load, demo_statements, demo_located, input_names, output_names, demo_model, demo_file}
use Rattle.demo_laws.specs.DemoLaws.{IsDemoSize}
use Rattle.demo_laws.proofs.Names.{first_letter, number_back, IsKind, kind_of, kind_of_one, first_few}
use Rattle.demo_laws.proofs.Moves.{moved_within, moved_once, moved_on, moved_from, from_within}
use Rattle.demo_laws.proofs.Ranges.{among_mapped, all_unmapped, all_flat, each_mapped}
use Rattle.demo_laws.proofs.Parts.{library, box_reads, statements_are, each_statement, driven_names, driven_are}
use Rattle.netlist_spec.proofs.OneValue.{All_append}

pub ports_named : (line : ℕ) (ns : List Name) → port_names (ports_at line ns) ≡ ns
ports_named line [] = refl
ports_named line (n ∷ ns) = ap (λ l. n ∷ l) (ports_named line ns)

module _ (n : ℕ) (size : IsDemoSize n) where
  numbers_back : (letter i j : ℕ) → i < 4 * n → j < 4 * n → numbered letter i ≡ numbered letter j → i ≡ j
  numbers_back letter i j hi hj e = number_back letter i j (omega (arith, size)) (omega (arith, size)) e

  kind_of_letter : (letter : ℕ) → IsKind letter (map (numbered letter) (state_bits n))
  kind_of_letter letter = kind_of letter (numbered letter) (4 * n) (λ i. refl) (numbers_back letter)

  next_kind : IsKind 110 (map (λ i. next (moved_to n i)) (state_bits n))
  next_kind =
      kind_of 110 (λ i. next (moved_to n i)) (4 * n) (λ i. refl) (λ i j hi hj e.
      moved_once n size.0 i j (numbers_back 110 (moved_to n i) (moved_to n j) (moved_within n size.0 i hi) (moved_within n size.0 j hj) e))

  abbrev all_driven : List Name
  all_driven = first_appearances (port_names (ports_at 2 (input_names n)) ++ []) ++ driven_names n

  pub nets_are : driven_nets (demo_file n) library (demo_model n) ≡ all_driven
  nets_are = ap (λ l. first_appearances (port_names (ports_at 2 (input_names n)) ++ []) ++ l) (driven_are n)

  letter_cases : (h : ℕ) (a b c d e f : ℕ)
      → (a ≤ 1) × (h ≢ 108 → a ≡ 0) → (b ≤ 1) × (h ≢ 112 → b ≡ 0) → (c ≤ 1) × (h ≢ 115 → c ≡ 0) → (d ≤ 1) × (h ≢ 98 → d ≡ 0) → (e ≤ 1) × (h ≢ 110 → e ≡ 0) → (f ≤ 1) × (h ≢ 99 → f ≡ 0)
      → a + (b + (c + (d + (e + f)))) ≤ 1
  letter_cases h a b c d e f p q r s t u = grind (arith, p, q, r, s, t, u)

  once : (x : Name) → occ x all_driven ≤ 1
  once x =
      let inputs : List Name = port_names (ports_at 2 (input_names n)) ++ [] in
      let split = occ_append x (first_appearances inputs) (driven_names n) in
      let few = first_few x inputs in
      let given : occ x inputs ≡ occ x (port_names (ports_at 2 (input_names n))) + 0 = occ_append x (port_names (ports_at 2 (input_names n))) [] in
      let named : occ x (port_names (ports_at 2 (input_names n))) ≡ occ x (input_names n) = ap (occ x) (ports_named 2 (input_names n)) in
      let loads : occ x (input_names n) ≡ occ x (load ∷ []) + occ x (map loaded (state_bits n)) = occ_append x (load ∷ []) (map loaded (state_bits n)) in
      let a = occ_append x (map stored (state_bits n)) (map substituted (state_bits n) ++ (map (λ i. next (moved_to n i)) (state_bits n) ++ map shown (state_bits n))) in
      let b = occ_append x (map substituted (state_bits n)) (map (λ i. next (moved_to n i)) (state_bits n) ++ map shown (state_bits n)) in
      let c = occ_append x (map (λ i. next (moved_to n i)) (state_bits n)) (map shown (state_bits n)) in
      let all = letter_cases (first_letter x) _ _ _ _ _ _ (kind_of_one load x) (kind_of_letter 112 x) (kind_of_letter 115 x) (kind_of_letter 98 x) (next_kind x) (kind_of_letter 99 x) in
      omega arith

  pub one_driver_each : HasOneDriverEach (demo_file n) library (demo_model n)
  one_driver_each =
      record {
        inputs = ap are_distinct (ports_named 2 (input_names n)) ∙ once_distinct (input_names n) inputs_once;
        outputs = ap are_distinct (ports_named 3 (output_names n)) ∙ once_distinct (output_names n) (λ x. (kind_of_letter 99 x).0);
        clocks = refl;
        drivers = ap are_distinct nets_are ∙ once_distinct all_driven once;
      }
    where
      two_cases : (h a b : ℕ) → (a ≤ 1) × (h ≢ 108 → a ≡ 0) → (b ≤ 1) × (h ≢ 112 → b ≡ 0) → a + b ≤ 1
      two_cases h a b p q = grind (arith, p, q)

      inputs_once : (x : Name) → occ x (input_names n) ≤ 1
      inputs_once x =
          let loads : occ x (input_names n) ≡ occ x (load ∷ []) + occ x (map loaded (state_bits n)) = occ_append x (load ∷ []) (map loaded (state_bits n)) in
          let all = two_cases (first_letter x) _ _ (kind_of_one load x) (kind_of_letter 112 x) in
          omega arith

  -- ---- what is driven

  abbrev IsDriven : Name → Type 0
  IsDriven x = IsTrue (stands_in x (driven_nets (demo_file n) library (demo_model n)))

  by_statement : (x : Name) → Among x (driven_names n) → IsDriven x
  by_statement x h = subst (λ l. IsTrue (stands_in x l)) (sym nets_are) (stands x all_driven (among_back (first_appearances (port_names (ports_at 2 (input_names n)) ++ [])) (driven_names n) x h))

  by_input : (x : Name) → Among x (input_names n) → IsDriven x
  by_input x h =
      let inputs : List Name = port_names (ports_at 2 (input_names n)) ++ [] in
      let first = first_stands x inputs (stands x inputs (among_front (port_names (ports_at 2 (input_names n))) [] x (subst (Among x) (sym (ports_named 2 (input_names n))) h))) in
      subst (λ l. IsTrue (stands_in x l)) (sym nets_are) (stands x all_driven (among_front (first_appearances inputs) (driven_names n) x (standing x (first_appearances inputs) first)))

  abbrev moved : List Name
  moved = map (λ i. next (moved_to n i)) (state_bits n)

  pub stored_driven : (i : ℕ) → i < 4 * n → IsDriven (stored i)
  stored_driven i h = by_statement (stored i) (among_front (map stored (state_bits n)) (map substituted (state_bits n) ++ (moved ++ map shown (state_bits n))) (stored i) (among_mapped stored 0 (4 * n) i (omega arith) (omega arith)))

  substituted_driven : (i : ℕ) → i < 4 * n → IsDriven (substituted i)
  substituted_driven i h =
      by_statement (substituted i) (among_back (map stored (state_bits n)) (map substituted (state_bits n) ++ (moved ++ map shown (state_bits n))) (substituted i)
      (among_front (map substituted (state_bits n)) (moved ++ map shown (state_bits n)) (substituted i) (among_mapped substituted 0 (4 * n) i (omega arith) (omega arith))))

  next_driven : (e : ℕ) → e < 4 * n → IsDriven (next e)
  next_driven e h =
      let i : ℕ = moved_from n e in
      let within : i < 4 * n = from_within n size.0 e h in
      subst (λ k. IsDriven (next k)) (moved_on n size.0 e) (by_statement (next (moved_to n i)) (among_back (map stored (state_bits n)) (map substituted (state_bits n) ++ (moved ++ map shown (state_bits n))) (next (moved_to n i))
      (among_back (map substituted (state_bits n)) (moved ++ map shown (state_bits n)) (next (moved_to n i))
      (among_front moved (map shown (state_bits n)) (next (moved_to n i)) (among_mapped (λ i. next (moved_to n i)) 0 (4 * n) i (omega arith) (omega arith))))))

  shown_driven : (i : ℕ) → i < 4 * n → IsDriven (shown i)
  shown_driven i h =
      by_statement (shown i) (among_back (map stored (state_bits n)) (map substituted (state_bits n) ++ (moved ++ map shown (state_bits n))) (shown i)
      (among_back (map substituted (state_bits n)) (moved ++ map shown (state_bits n)) (shown i)
      (among_back moved (map shown (state_bits n)) (shown i) (among_mapped shown 0 (4 * n) i (omega arith) (omega arith)))))

  loaded_driven : (e : ℕ) → e < 4 * n → IsDriven (loaded e)
  loaded_driven e h = by_input (loaded e) (inr (among_mapped loaded 0 (4 * n) e (omega arith) (omega arith)))

  load_driven : IsDriven load
  load_driven = by_input load (inl refl)

  abbrev ReadsDriven : Statement → Type 0
  ReadsDriven s = AllByRecursion IsDriven (reads (demo_file n) library s)

  reads_driven : AllByRecursion ReadsDriven (demo_statements n)
  reads_driven =
      each_statement n ReadsDriven (λ i h. (next_driven i h, tt)) (λ j h.
      subst (λ l. AllByRecursion IsDriven l) (sym (box_reads n j)) (stored_driven (4 * j + 0) (omega arith), (stored_driven (4 * j + 1) (omega arith), (stored_driven (4 * j + 2) (omega arith), (stored_driven (4 * j + 3) (omega arith), tt)))))
      (λ i h. (load_driven, (loaded_driven (moved_to n i) (moved_within n size.0 i h), (substituted_driven i h, tt)))) (λ i h. (stored_driven i h, tt))

  pub driven_where_read : IsDrivenWhereRead (demo_file n) library (demo_model n)
  driven_where_read =
      All_append IsDriven (flat_map (λ s. reads (demo_file n) library s.what) (demo_located n)) (port_names (ports_at 3 (output_names n)))
      (all_flat IsDriven (λ s. reads (demo_file n) library s.what) (demo_located n) (all_unmapped ReadsDriven (λ s. s.what) (demo_located n) (subst (λ l. AllByRecursion ReadsDriven l) (sym (statements_are n)) reads_driven)))
      (subst (λ l. AllByRecursion IsDriven l) (sym (ports_named 3 (output_names n))) (each_mapped shown IsDriven 0 (4 * n) (λ i low high. shown_driven i (omega arith))))
