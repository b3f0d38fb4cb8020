-- The cones of the D nets and of the outputs of the demo design, and what they cost.
use Rattle.std.proofs.Common.{◌≡◌, refl, sym, ◌∙◌, ap, ap₂, subst, ℕ, zero, suc, ◌+◌, ◌*◌, ◌/◌, ◌<◌, ◌≤◌, List, [], ◌∷◌, ◌++◌, map, Bool, true, false, cond, ◌⊎◌, inl, inr, arith, Contains}
use Rattle.std.specs.Prelude.{IsTrue, ◌↔◌, ◌==◌}
use Rattle.std.specs.List.{range_with_len}
use Rattle.std.proofs.lemmas.Grind.{common_steps}
use Rattle.netlist_spec.specs.Netlist.{Name, stands_in, Statement, names, latch, subckt}
use Rattle.netlist_spec.specs.Placed.{port_names}
use Rattle.netlist_spec.specs.Models.{latch_outputs}
use Rattle.netlist_spec.specs.Size.{cost_of}
use Rattle.netlist_spec.specs.Sound.{drives, reads}
use Rattle.netlist_spec.specs.Cones.{marked_sum, AreMarked, IsInCone, ConeCostOf}
use Rattle.program_spec.specs.Demo.{state_bits, moved_to}
use Rattle.source_laws.specs.Settling.{given_nets}
use Rattle.source_laws.specs.Costs.{statements_of, IsDriver, IsInConeBehind}
use Rattle.source_laws.proofs.Lists.{Among, contained, among_front, among_back, stands, standing}
use Rattle.source_laws.proofs.Cones.{driver_and_reads, given_has_no_cone}
use Rattle.demo_laws.specs.DemoFile.{loaded, shown, stored, next, substituted, load, state_latch, box, choice, copy, boxes, demo_statements, input_names, demo_model, demo_file}
use Rattle.demo_laws.specs.DemoLaws.{IsDemoSize}
use Rattle.demo_laws.proofs.Names.{first_letter, number_back}
use Rattle.demo_laws.proofs.Moves.{moved_within, moved_from, from_within, moved_on}
use Rattle.demo_laws.proofs.Ranges.{among_mapped}
use Rattle.demo_laws.proofs.Parts.{library, box_drives, box_reads, statements_are}
use Rattle.demo_laws.proofs.Drivers.{ports_named, one_driver_each}
use Rattle.demo_laws.proofs.Latches.{latch_outputs_are}

-- ---- statements that are told apart

abbrev box_net : Statement → Name
box_net (subckt model (b ∷ bs)) = b.actual
box_net _ = []

abbrev third_of : List Name → Name
third_of (a ∷ b ∷ c ∷ rest) = c
third_of _ = []

abbrev choice_net : Statement → Name
choice_net (names ins out cover) = third_of ins
choice_net _ = []

abbrev out_letter : Statement → ℕ
out_letter (names ins out cover) = first_letter out
out_letter _ = 0

abbrev copied_net : Statement → Name
copied_net (names ins out cover) = out
copied_net _ = []

same_number : (a b : ℕ) → (a == b) ≡ true → a ≡ b
same_number a b h = grind (arith, common_steps, h)

number_same : (a b : ℕ) → a ≡ b → (a == b) ≡ true
number_same a b h = grind (arith, common_steps, h)

-- ---- marks

module _ {A : Type 0} (P : A → Type 0) where
  pub marked_append : (xs ys : List A) (ms ns : List Bool) → AreMarked P xs ms → AreMarked P ys ns → AreMarked P (xs ++ ys) (ms ++ ns)
  marked_append [] ys [] ns h k = k
  marked_append [] ys (m ∷ ms) ns h k = absurd h
  marked_append (x ∷ xs) ys [] ns h k = absurd h
  marked_append (x ∷ xs) ys (m ∷ ms) ns h k = (h.0, marked_append xs ys ms ns h.1 k)

  pub marked_range : (f : ℕ → A) (g : ℕ → Bool) (a n : ℕ) → ((i : ℕ) → a ≤ i → i < a + n → IsTrue (g i) ↔ P (f i)) → AreMarked P (map f (range_with_len a n)) (map g (range_with_len a n))
  marked_range f g a zero h = tt
  marked_range f g a (suc n) h = (h a (omega arith) (omega arith), marked_range f g (a + 1) n (λ i low high. h i (omega arith) (omega arith)))

module _ {A : Type 0} (cost : A → ℕ) where
  sum_behind : (f : ℕ → A) (g : ℕ → Bool) (is : List ℕ) (ys : List A) (ns : List Bool) → marked_sum cost (map f is ++ ys) (map g is ++ ns) ≡ marked_sum cost (map f is) (map g is) + marked_sum cost ys ns
  sum_behind f g [] ys ns = omega arith
  sum_behind f g (i ∷ is) ys ns = let e = sum_behind f g is ys ns in omega arith

  sum_unmarked : (f : ℕ → A) (is : List ℕ) → marked_sum cost (map f is) (map (λ i. false) is) ≡ 0
  sum_unmarked f [] = refl
  sum_unmarked f (i ∷ is) = let e = sum_unmarked f is in omega arith

  sum_before : (f : ℕ → A) (k a n : ℕ) → k < a → marked_sum cost (map f (range_with_len a n)) (map (λ i. i == k) (range_with_len a n)) ≡ 0
  sum_before f k a zero h = refl
  sum_before f k a (suc n) h =
      let e = sum_before f k (a + 1) n (omega arith) in
      let other : (a == k) ≡ false = grind (arith, common_steps, h) in
      ap (λ b. cond b (cost (f a)) 0 + marked_sum cost (map f (range_with_len (a + 1) n)) (map (λ i. i == k) (range_with_len (a + 1) n))) other ∙ omega arith

  sum_one : (f : ℕ → A) (c : ℕ) → ((i : ℕ) → cost (f i) ≡ c) → (k a n : ℕ) → a ≤ k → k < a + n → marked_sum cost (map f (range_with_len a n)) (map (λ i. i == k) (range_with_len a n)) ≡ c
  sum_one f c is k a zero low high = absurd (omega arith)
  sum_one f c is k a (suc n) low high = by_case (a == k) refl (sum_one f c is k (a + 1) n)
    where
      less : (a == k) ≡ false → a + 1 ≤ k
      less e = grind (arith, common_steps, e, low)

      by_case : (b : Bool) → (a == k) ≡ b → (a + 1 ≤ k → k < (a + 1) + n → marked_sum cost (map f (range_with_len (a + 1) n)) (map (λ i. i == k) (range_with_len (a + 1) n)) ≡ c)
          → cond b (cost (f a)) 0 + marked_sum cost (map f (range_with_len (a + 1) n)) (map (λ i. i == k) (range_with_len (a + 1) n)) ≡ c
      by_case true e later =
          let same = same_number a k e in
          let rest = sum_before f k (a + 1) n (omega arith) in
          let here = is a in
          omega arith
      by_case false e later = let rest = later (less e) (omega arith) in omega arith

-- the marks of one box, one choice and one copy, where there are such
abbrev marks_of : ℕ → (ℕ → Bool) → (ℕ → Bool) → (ℕ → Bool) → List Bool
marks_of n at_boxes at_choices at_copies =
    map (λ i. false) (state_bits n) ++ (map at_boxes (boxes n) ++ (map at_choices (state_bits n) ++ map at_copies (state_bits n)))

module _ (n : ℕ) (size : IsDemoSize n) where
  abbrev Here : Name → Statement → Type 0
  Here x s = IsInCone (demo_file n) library (demo_model n) x s

  in_model : (s : Statement) → Among s (demo_statements n) → Contains (statements_of (demo_model n)) s
  in_model s h = contained (statements_of (demo_model n)) s (subst (Among s) (sym (statements_are n)) h)

  latch_in : (i : ℕ) → i < 4 * n → Contains (statements_of (demo_model n)) (state_latch i)
  latch_in i h = in_model (state_latch i) (among_front (map state_latch (state_bits n)) (map box (boxes n) ++ (map (choice n) (state_bits n) ++ map copy (state_bits n))) (state_latch i) (among_mapped state_latch 0 (4 * n) i (omega arith) (omega arith)))

  box_in : (j : ℕ) → j < n → Contains (statements_of (demo_model n)) (box j)
  box_in j h =
      in_model (box j) (among_back (map state_latch (state_bits n)) (map box (boxes n) ++ (map (choice n) (state_bits n) ++ map copy (state_bits n))) (box j)
      (among_front (map box (boxes n)) (map (choice n) (state_bits n) ++ map copy (state_bits n)) (box j) (among_mapped box 0 n j (omega arith) (omega arith))))

  choice_in : (i : ℕ) → i < 4 * n → Contains (statements_of (demo_model n)) (choice n i)
  choice_in i h =
      in_model (choice n i) (among_back (map state_latch (state_bits n)) (map box (boxes n) ++ (map (choice n) (state_bits n) ++ map copy (state_bits n))) (choice n i)
      (among_back (map box (boxes n)) (map (choice n) (state_bits n) ++ map copy (state_bits n)) (choice n i)
      (among_front (map (choice n) (state_bits n)) (map copy (state_bits n)) (choice n i) (among_mapped (choice n) 0 (4 * n) i (omega arith) (omega arith)))))

  copy_in : (i : ℕ) → i < 4 * n → Contains (statements_of (demo_model n)) (copy i)
  copy_in i h =
      in_model (copy i) (among_back (map state_latch (state_bits n)) (map box (boxes n) ++ (map (choice n) (state_bits n) ++ map copy (state_bits n))) (copy i)
      (among_back (map box (boxes n)) (map (choice n) (state_bits n) ++ map copy (state_bits n)) (copy i)
      (among_back (map (choice n) (state_bits n)) (map copy (state_bits n)) (copy i) (among_mapped copy 0 (4 * n) i (omega arith) (omega arith)))))

  -- ---- given nets

  by_input : (x : Name) → Among x (input_names n) → IsTrue (stands_in x (given_nets (demo_model n)))
  by_input x h =
      stands x (given_nets (demo_model n)) (among_front (port_names (demo_model n).inputs ++ []) (latch_outputs (demo_model n)) x
      (among_front (port_names (demo_model n).inputs) [] x (subst (Among x) (sym (ports_named 2 (input_names n))) h)))

  stored_given : (i : ℕ) → i < 4 * n → IsTrue (stands_in (stored i) (given_nets (demo_model n)))
  stored_given i h =
      stands (stored i) (given_nets (demo_model n)) (among_back (port_names (demo_model n).inputs ++ []) (latch_outputs (demo_model n)) (stored i)
      (subst (Among (stored i)) (sym (latch_outputs_are n)) (among_mapped stored 0 (4 * n) i (omega arith) (omega arith))))

  loaded_given : (e : ℕ) → e < 4 * n → IsTrue (stands_in (loaded e) (given_nets (demo_model n)))
  loaded_given e h = by_input (loaded e) (inr (among_mapped loaded 0 (4 * n) e (omega arith) (omega arith)))

  load_given : IsTrue (stands_in load (given_nets (demo_model n)))
  load_given = by_input load (inl refl)

  none_behind : (x : Name) → IsTrue (stands_in x (given_nets (demo_model n))) → (t : Statement) → Contains (statements_of (demo_model n)) t → Here x t → ⊥
  none_behind x g t in_t h = given_has_no_cone (demo_file n) library (demo_model n) (one_driver_each n size) x g t in_t h

  -- ---- behind a box

  in_four : (i : ℕ) → (i ≡ 4 * (i / 4) + 0) ⊎ ((i ≡ 4 * (i / 4) + 1) ⊎ ((i ≡ 4 * (i / 4) + 2) ⊎ (i ≡ 4 * (i / 4) + 3)))
  in_four i = grind arith

  among_four : (f : ℕ → Name) (i : ℕ) → Among (f i) (f (4 * (i / 4) + 0) ∷ f (4 * (i / 4) + 1) ∷ f (4 * (i / 4) + 2) ∷ f (4 * (i / 4) + 3) ∷ [])
  among_four f i =
      elim (in_four i) [
        | inl a ↦ inl (ap f (sym a))
        | inr r ↦ elim r [ inl b ↦ inr (inl (ap f (sym b))) | inr s ↦ elim s [ inl c ↦ inr (inr (inl (ap f (sym c)))) | inr d ↦ inr (inr (inr (inl (ap f (sym d))))) ] ]
      ]

  box_drives_it : (i : ℕ) → i < 4 * n → IsDriver (demo_file n) library (demo_model n) (box (i / 4)) (substituted i)
  box_drives_it i h =
      record {
        stands = box_in (i / 4) (omega arith);
        combines = refl;
        drives = stands (substituted i) (drives (demo_file n) library (box (i / 4))) (subst (Among (substituted i)) (sym (box_drives n (i / 4))) (among_four substituted i));
      }

  behind_box : (j : ℕ) → j < n → (t : Statement) → Contains (statements_of (demo_model n)) t → IsInConeBehind (demo_file n) library (demo_model n) (box j) t → ⊥
  behind_box j h t in_t (k, r, inner) =
      go (subst (Among k) (box_reads n j) (standing k (reads (demo_file n) library (box j)) r))
    where
      at : (i : ℕ) → i < 4 * n → stored i ≡ k → ⊥
      at i within e = none_behind k (subst (λ x. IsTrue (stands_in x (given_nets (demo_model n)))) e (stored_given i within)) t in_t inner

      go : Among k (stored (4 * j + 0) ∷ stored (4 * j + 1) ∷ stored (4 * j + 2) ∷ stored (4 * j + 3) ∷ []) → ⊥
      go (inl e) = at (4 * j + 0) (omega arith) e
      go (inr (inl e)) = at (4 * j + 1) (omega arith) e
      go (inr (inr (inl e))) = at (4 * j + 2) (omega arith) e
      go (inr (inr (inr (inl e)))) = at (4 * j + 3) (omega arith) e
      go (inr (inr (inr (inr x)))) = x

  box_cone : (i : ℕ) → i < 4 * n → (t : Statement) → Contains (statements_of (demo_model n)) t → Here (substituted i) t → box (i / 4) ≡ t
  box_cone i h t in_t c =
      elim (((driver_and_reads (demo_file n) library (demo_model n) (one_driver_each n size) (box (i / 4)) (substituted i) (box_drives_it i h)).0 t in_t).0 c) [
        | inl e ↦ e
        | inr b ↦ absurd (behind_box (i / 4) (omega arith) t in_t b)
      ]

  -- ---- the cone of the D net that a choice drives

  choice_drives_it : (i : ℕ) → i < 4 * n → IsDriver (demo_file n) library (demo_model n) (choice n i) (next (moved_to n i))
  choice_drives_it i h = record { stands = choice_in i h; combines = refl; drives = stands (next (moved_to n i)) (next (moved_to n i) ∷ []) (inl refl) }

  next_into : (i : ℕ) → i < 4 * n → (t : Statement) → Contains (statements_of (demo_model n)) t → Here (next (moved_to n i)) t → (choice n i ≡ t) ⊎ (box (i / 4) ≡ t)
  next_into i h t in_t c =
      elim (((driver_and_reads (demo_file n) library (demo_model n) (one_driver_each n size) (choice n i) (next (moved_to n i)) (choice_drives_it i h)).0 t in_t).0 c) [
        | inl e ↦ inl e
        | inr b ↦ inr (behind b)
      ]
    where
      behind : IsInConeBehind (demo_file n) library (demo_model n) (choice n i) t → box (i / 4) ≡ t
      behind (k, r, inner) = go (standing k (load ∷ loaded (moved_to n i) ∷ substituted i ∷ []) r)
        where
          go : Among k (load ∷ loaded (moved_to n i) ∷ substituted i ∷ []) → box (i / 4) ≡ t
          go (inl e) = absurd (none_behind k (subst (λ x. IsTrue (stands_in x (given_nets (demo_model n)))) e load_given) t in_t inner)
          go (inr (inl e)) = absurd (none_behind k (subst (λ x. IsTrue (stands_in x (given_nets (demo_model n)))) e (loaded_given (moved_to n i) (moved_within n size.0 i h))) t in_t inner)
          go (inr (inr (inl e))) = box_cone i h t in_t (subst (λ x. Here x t) (sym e) inner)
          go (inr (inr (inr x))) = absurd x

  next_choice : (i : ℕ) → i < 4 * n → Here (next (moved_to n i)) (choice n i)
  next_choice i h = ((driver_and_reads (demo_file n) library (demo_model n) (one_driver_each n size) (choice n i) (next (moved_to n i)) (choice_drives_it i h)).0 (choice n i) (choice_in i h)).1 (inl refl)

  next_box : (i : ℕ) → i < 4 * n → Here (next (moved_to n i)) (box (i / 4))
  next_box i h =
      let inner : Here (substituted i) (box (i / 4)) = ((driver_and_reads (demo_file n) library (demo_model n) (one_driver_each n size) (box (i / 4)) (substituted i) (box_drives_it i h)).0 (box (i / 4)) (box_in (i / 4) (omega arith))).1 (inl refl) in
      ((driver_and_reads (demo_file n) library (demo_model n) (one_driver_each n size) (choice n i) (next (moved_to n i)) (choice_drives_it i h)).0 (box (i / 4)) (box_in (i / 4) (omega arith))).1
      (inr (substituted i, stands (substituted i) (load ∷ loaded (moved_to n i) ∷ substituted i ∷ []) (inr (inr (inl refl))), inner))

  -- ---- the statements are apart

  box_once : (j k : ℕ) → j < n → k < n → box j ≡ box k → j ≡ k
  box_once j k hj hk e = let same = number_back 115 (4 * j + 0) (4 * k + 0) (omega (arith, size)) (omega (arith, size)) (ap box_net e) in omega arith

  choice_once : (i k : ℕ) → i < 4 * n → k < 4 * n → choice n i ≡ choice n k → i ≡ k
  choice_once i k hi hk e = number_back 98 i k (omega (arith, size)) (omega (arith, size)) (ap choice_net e)

  copy_once : (i k : ℕ) → i < 4 * n → k < 4 * n → copy i ≡ copy k → i ≡ k
  copy_once i k hi hk e = number_back 99 i k (omega (arith, size)) (omega (arith, size)) (ap copied_net e)

  abbrev is_latch : Statement → ℕ
  is_latch (latch d q clocking init) = 1
  is_latch _ = 0

  abbrev is_box : Statement → ℕ
  is_box (subckt model binds) = 1
  is_box _ = 0

  differ : {a b : ℕ} → a ≡ b → (a == b) ≡ false → ⊥
  differ {a = a} {b = b} e h = grind (arith, common_steps, e, h)

  -- ---- marks of the D net

  next_marked : (i : ℕ) → i < 4 * n → AreMarked (Here (next (moved_to n i))) (demo_statements n) (marks_of n (λ j. j == i / 4) (λ k. k == i) (λ k. false))
  next_marked i h =
      let x : Name = next (moved_to n i) in
      marked_append (Here x) (map state_latch (state_bits n)) (map box (boxes n) ++ (map (choice n) (state_bits n) ++ map copy (state_bits n))) _ _
      (marked_range (Here x) state_latch (λ k. false) 0 (4 * n) (λ k low high. ((λ f. cc f), λ c. elim (next_into i h (state_latch k) (latch_in k (omega arith)) c) [ inl e ↦ absurd (differ (ap is_latch e) refl) | inr e ↦ absurd (differ (ap is_latch e) refl) ])))
      (marked_append (Here x) (map box (boxes n)) (map (choice n) (state_bits n) ++ map copy (state_bits n)) _ _
      (marked_range (Here x) box (λ j. j == i / 4) 0 n (λ j low high. (
        (λ e. subst (λ k. Here x (box k)) (sym (same_number j (i / 4) e)) (next_box i h)),
        λ c. elim (next_into i h (box j) (box_in j (omega arith)) c) [ inl e ↦ absurd (differ (ap is_box e) refl) | inr e ↦ number_same j (i / 4) (sym (box_once (i / 4) j (omega arith) (omega arith) e)) ],
      )))
      (marked_append (Here x) (map (choice n) (state_bits n)) (map copy (state_bits n)) _ _
      (marked_range (Here x) (choice n) (λ k. k == i) 0 (4 * n) (λ k low high. (
        (λ e. subst (λ m. Here x (choice n m)) (sym (same_number k i e)) (next_choice i h)),
        λ c. elim (next_into i h (choice n k) (choice_in k (omega arith)) c) [ inl e ↦ number_same k i (sym (choice_once i k h (omega arith) e)) | inr e ↦ absurd (differ (ap is_box e) refl) ],
      )))
      (marked_range (Here x) copy (λ k. false) 0 (4 * n) (λ k low high. ((λ f. cc f), λ c. elim (next_into i h (copy k) (copy_in k (omega arith)) c) [ inl e ↦ absurd (differ (ap out_letter e) refl) | inr e ↦ absurd (differ (ap is_box e) refl) ])))))

  -- ---- the cone of an output

  copy_drives_it : (i : ℕ) → i < 4 * n → IsDriver (demo_file n) library (demo_model n) (copy i) (shown i)
  copy_drives_it i h = record { stands = copy_in i h; combines = refl; drives = stands (shown i) (shown i ∷ []) (inl refl) }

  shown_into : (i : ℕ) → i < 4 * n → (t : Statement) → Contains (statements_of (demo_model n)) t → Here (shown i) t → copy i ≡ t
  shown_into i h t in_t c =
      elim (((driver_and_reads (demo_file n) library (demo_model n) (one_driver_each n size) (copy i) (shown i) (copy_drives_it i h)).0 t in_t).0 c) [
        | inl e ↦ e
        | inr b ↦ behind b
      ]
    where
      behind : IsInConeBehind (demo_file n) library (demo_model n) (copy i) t → copy i ≡ t
      behind (k, r, inner) = go (standing k (stored i ∷ []) r)
        where
          go : Among k (stored i ∷ []) → copy i ≡ t
          go (inl e) = absurd (none_behind k (subst (λ x. IsTrue (stands_in x (given_nets (demo_model n)))) e (stored_given i h)) t in_t inner)
          go (inr x) = absurd x

  shown_copy : (i : ℕ) → i < 4 * n → Here (shown i) (copy i)
  shown_copy i h = ((driver_and_reads (demo_file n) library (demo_model n) (one_driver_each n size) (copy i) (shown i) (copy_drives_it i h)).0 (copy i) (copy_in i h)).1 (inl refl)

  shown_marked : (i : ℕ) → i < 4 * n → AreMarked (Here (shown i)) (demo_statements n) (marks_of n (λ j. false) (λ k. false) (λ k. k == i))
  shown_marked i h =
      let x : Name = shown i in
      marked_append (Here x) (map state_latch (state_bits n)) (map box (boxes n) ++ (map (choice n) (state_bits n) ++ map copy (state_bits n))) _ _
      (marked_range (Here x) state_latch (λ k. false) 0 (4 * n) (λ k low high. ((λ f. cc f), λ c. absurd (differ (ap is_latch (shown_into i h (state_latch k) (latch_in k (omega arith)) c)) refl))))
      (marked_append (Here x) (map box (boxes n)) (map (choice n) (state_bits n) ++ map copy (state_bits n)) _ _
      (marked_range (Here x) box (λ j. false) 0 n (λ j low high. ((λ f. cc f), λ c. absurd (differ (ap is_box (shown_into i h (box j) (box_in j (omega arith)) c)) refl))))
      (marked_append (Here x) (map (choice n) (state_bits n)) (map copy (state_bits n)) _ _
      (marked_range (Here x) (choice n) (λ k. false) 0 (4 * n) (λ k low high. ((λ f. cc f), λ c. absurd (differ (ap out_letter (shown_into i h (choice n k) (choice_in k (omega arith)) c)) refl))))
      (marked_range (Here x) copy (λ k. k == i) 0 (4 * n) (λ k low high. (
        (λ e. subst (λ m. Here x (copy m)) (sym (same_number k i e)) (shown_copy i h)),
        λ c. number_same k i (sym (copy_once i k h (omega arith) (shown_into i h (copy k) (copy_in k (omega arith)) c))),
      )))))

  -- ---- costs

  abbrev cost : Statement → ℕ
  cost = cost_of (demo_file n) library

  sum_of_marks : (at_boxes at_choices at_copies : ℕ → Bool) → marked_sum cost (demo_statements n) (marks_of n at_boxes at_choices at_copies)
      ≡ 0 + (marked_sum cost (map box (boxes n)) (map at_boxes (boxes n)) + (marked_sum cost (map (choice n) (state_bits n)) (map at_choices (state_bits n)) + marked_sum cost (map copy (state_bits n)) (map at_copies (state_bits n))))
  sum_of_marks at_boxes at_choices at_copies =
      sum_behind cost state_latch (λ k. false) (state_bits n) _ _
      ∙ ap₂ (λ a b. a + b) (sum_unmarked cost state_latch (state_bits n))
      (sum_behind cost box at_boxes (boxes n) _ _
      ∙ ap (λ b. marked_sum cost (map box (boxes n)) (map at_boxes (boxes n)) + b) (sum_behind cost (choice n) at_choices (state_bits n) _ _))

  moved_cone : (i : ℕ) → i < 4 * n → ConeCostOf (demo_file n) library (demo_model n) (next (moved_to n i)) 274
  moved_cone i h =
      let marks : List Bool = marks_of n (λ j. j == i / 4) (λ k. k == i) (λ k. false) in
      let parts = sum_of_marks (λ j. j == i / 4) (λ k. k == i) (λ k. false) in
      let a : marked_sum cost (map box (boxes n)) (map (λ j. j == i / 4) (boxes n)) ≡ 256 = sum_one cost box 256 (λ j. refl) (i / 4) 0 n (omega arith) (omega arith) in
      let b : marked_sum cost (map (choice n) (state_bits n)) (map (λ k. k == i) (state_bits n)) ≡ 18 = sum_one cost (choice n) 18 (λ k. refl) i 0 (4 * n) (omega arith) (omega arith) in
      let c : marked_sum cost (map copy (state_bits n)) (map (λ k. false) (state_bits n)) ≡ 0 = sum_unmarked cost copy (state_bits n) in (
        marks,
        subst (λ l. AreMarked (Here (next (moved_to n i))) l marks) (sym (statements_are n)) (next_marked i h),
        sym (ap (λ l. marked_sum cost l marks) (statements_are n) ∙ parts ∙ ap₂ (λ x y. 0 + (x + y)) a (ap₂ (λ x y. x + y) b c)),
      )

  pub next_cone : (e : ℕ) → e < 4 * n → ConeCostOf (demo_file n) library (demo_model n) (next e) 274
  next_cone e h = subst (λ k. ConeCostOf (demo_file n) library (demo_model n) (next k) 274) (moved_on n size.0 e) (moved_cone (moved_from n e) (from_within n size.0 e h))

  pub shown_cone : (i : ℕ) → i < 4 * n → ConeCostOf (demo_file n) library (demo_model n) (shown i) 6
  shown_cone i h =
      let marks : List Bool = marks_of n (λ j. false) (λ k. false) (λ k. k == i) in
      let parts = sum_of_marks (λ j. false) (λ k. false) (λ k. k == i) in
      let a : marked_sum cost (map box (boxes n)) (map (λ j. false) (boxes n)) ≡ 0 = sum_unmarked cost box (boxes n) in
      let b : marked_sum cost (map (choice n) (state_bits n)) (map (λ k. false) (state_bits n)) ≡ 0 = sum_unmarked cost (choice n) (state_bits n) in
      let c : marked_sum cost (map copy (state_bits n)) (map (λ k. k == i) (state_bits n)) ≡ 6 = sum_one cost copy 6 (λ k. refl) i 0 (4 * n) (omega arith) (omega arith) in (
        marks,
        subst (λ l. AreMarked (Here (shown i)) l marks) (sym (statements_are n)) (shown_marked i h),
        sym (ap (λ l. marked_sum cost l marks) (statements_are n) ∙ parts ∙ ap₂ (λ x y. 0 + (x + y)) a (ap₂ (λ x y. x + y) b c)),
      )
