-- Lists made from ranges of numbers.
use Rattle.std.proofs.Common.{◌≡◌, refl, sym, ◌∙◌, ap, ap₂, ℕ, zero, suc, ◌+◌, ◌*◌, ◌<◌, ◌≤◌, List, [], ◌∷◌, ◌++◌, map, length, ◌⊎◌, inl, inr, Some, arith, append_assoc}
use Rattle.std.specs.Prelude.{slice_get, sum_by}
use Rattle.std.specs.List.{AllByRecursion, flat_map, range_with_len}
use Rattle.std.proofs.lemmas.List.Sums.{sum_by-cons}
use Rattle.source_laws.proofs.Lists.{Among}
use Rattle.netlist_spec.proofs.OneValue.{All_append}

module _ {X : Type 0} (f : ℕ → X) where
  pub mapped_among : (a n : ℕ) (x : X) → Among x (map f (range_with_len a n)) → (i : ℕ) × (a ≤ i) × (i < a + n) × (f i ≡ x)
  mapped_among a zero x h = absurd h
  mapped_among a (suc n) x (inl e) = (a, omega arith, omega arith, e)
  mapped_among a (suc n) x (inr h) = let (i, low, high, e) = mapped_among (a + 1) n x h in (i, omega arith, omega arith, e)

  pub among_mapped : (a n i : ℕ) → a ≤ i → i < a + n → Among (f i) (map f (range_with_len a n))
  among_mapped a zero i low high = absurd (omega arith)
  among_mapped a (suc n) i low high = by_case (order a i low) (among_mapped (a + 1) n i)
    where
      order : (a i : ℕ) → a ≤ i → (a ≡ i) ⊎ (a + 1 ≤ i)
      order a i h = grind arith

      by_case : (a ≡ i) ⊎ (a + 1 ≤ i) → (a + 1 ≤ i → i < (a + 1) + n → Among (f i) (map f (range_with_len (a + 1) n))) → (f a ≡ f i) ⊎ Among (f i) (map f (range_with_len (a + 1) n))
      by_case (inl e) later = inl (ap f e)
      by_case (inr h) later = inr (later h (omega arith))

  pub each_mapped : (P : X → Type 0) (a n : ℕ) → ((i : ℕ) → a ≤ i → i < a + n → P (f i)) → AllByRecursion P (map f (range_with_len a n))
  each_mapped P a zero h = tt
  each_mapped P a (suc n) h = (h a (omega arith) (omega arith), each_mapped P (a + 1) n (λ i low high. h i (omega arith) (omega arith)))

  pub length_mapped : (a n : ℕ) → length (map f (range_with_len a n)) ≡ n
  length_mapped a zero = refl
  length_mapped a (suc n) = let e = length_mapped (a + 1) n in omega arith

  pub at_mapped : (a n i : ℕ) → i < n → slice_get (map f (range_with_len a n)) i ≡ Some (f (a + i))
  at_mapped a zero i h = absurd (omega arith)
  at_mapped a (suc n) zero h = ap (λ k. Some (f k)) (omega arith)
  at_mapped a (suc n) (suc i) h = at_mapped (a + 1) n i (omega arith) ∙ ap (λ k. Some (f k)) (omega arith)

  pub sum_mapped : (g : X → ℕ) (c : ℕ) (a n : ℕ) → ((i : ℕ) → g (f i) ≡ c) → sum_by g (map f (range_with_len a n)) ≡ c * n
  sum_mapped g c a zero h = omega arith
  sum_mapped g c a (suc n) h =
      let e = sum_mapped g c (a + 1) n h in
      let k = h a in
      let p : c * suc n ≡ c + c * n = grind arith in
      sum_by-cons g (f a) (map f (range_with_len (a + 1) n)) ∙ ap₂ (λ x y. x + y) k e ∙ sym p

  -- four by four
  pub by_four : (a n : ℕ) → flat_map (λ j. f (4 * j + 0) ∷ f (4 * j + 1) ∷ f (4 * j + 2) ∷ f (4 * j + 3) ∷ []) (range_with_len a n) ≡ map f (range_with_len (4 * a) (4 * n))
  by_four a zero = refl
  by_four a (suc n) =
      let e = by_four (a + 1) n in
      let count : 4 * suc n ≡ suc (suc (suc (suc (4 * n)))) = omega arith in
      sym (ap (λ k. map f (range_with_len (4 * a) k)) count ∙ step (4 * a) (sym (e ∙ ap (λ k. map f (range_with_len k (4 * n))) (omega arith))))
    where
      step : (b : ℕ) → map f (range_with_len (4 * a + 4) (4 * n)) ≡ flat_map (λ j. f (4 * j + 0) ∷ f (4 * j + 1) ∷ f (4 * j + 2) ∷ f (4 * j + 3) ∷ []) (range_with_len (a + 1) n)
          → map f (range_with_len (4 * a) (suc (suc (suc (suc (4 * n)))))) ≡ f (4 * a + 0) ∷ f (4 * a + 1) ∷ f (4 * a + 2) ∷ f (4 * a + 3) ∷ flat_map (λ j. f (4 * j + 0) ∷ f (4 * j + 1) ∷ f (4 * j + 2) ∷ f (4 * j + 3) ∷ []) (range_with_len (a + 1) n)
      step b e = firsts (4 * a) (omega arith) (omega arith) (omega arith) (omega arith) e
        where
          firsts : (b : ℕ) → b ≡ 4 * a + 0 → b + 1 ≡ 4 * a + 1 → b + 1 + 1 ≡ 4 * a + 2 → b + 1 + 1 + 1 ≡ 4 * a + 3
              → map f (range_with_len (4 * a + 4) (4 * n)) ≡ flat_map (λ j. f (4 * j + 0) ∷ f (4 * j + 1) ∷ f (4 * j + 2) ∷ f (4 * j + 3) ∷ []) (range_with_len (a + 1) n)
              → f b ∷ f (b + 1) ∷ f (b + 1 + 1) ∷ f (b + 1 + 1 + 1) ∷ map f (range_with_len (b + 1 + 1 + 1 + 1) (4 * n))
              ≡ f (4 * a + 0) ∷ f (4 * a + 1) ∷ f (4 * a + 2) ∷ f (4 * a + 3) ∷ flat_map (λ j. f (4 * j + 0) ∷ f (4 * j + 1) ∷ f (4 * j + 2) ∷ f (4 * j + 3) ∷ []) (range_with_len (a + 1) n)
          firsts b p q r s e =
              let t : b + 1 + 1 + 1 + 1 ≡ 4 * a + 4 = omega arith in
              ap₂ (λ x l. x ∷ l) (ap f p) (ap₂ (λ x l. x ∷ l) (ap f q) (ap₂ (λ x l. x ∷ l) (ap f r) (ap₂ (λ x l. x ∷ l) (ap f s) (ap (λ k. map f (range_with_len k (4 * n))) t ∙ e))))

module _ {A B : Type 0} (g : A → List B) where
  pub flat_append : (xs ys : List A) → flat_map g (xs ++ ys) ≡ flat_map g xs ++ flat_map g ys
  flat_append [] ys = refl
  flat_append (x ∷ xs) ys = ap (λ l. g x ++ l) (flat_append xs ys) ∙ sym (append_assoc (g x) (flat_map g xs) (flat_map g ys))

  pub flat_mapped : {X : Type 0} (f : X → A) (xs : List X) → flat_map g (map f xs) ≡ flat_map (λ x. g (f x)) xs
  flat_mapped f [] = refl
  flat_mapped f (x ∷ xs) = ap (λ l. g (f x) ++ l) (flat_mapped f xs)

  pub flat_single : (f : A → B) → ((x : A) → g x ≡ f x ∷ []) → (xs : List A) → flat_map g xs ≡ map f xs
  flat_single f h [] = refl
  flat_single f h (x ∷ xs) = ap₂ (λ a b. a ++ b) (h x) (flat_single f h xs)

  pub flat_none : ((x : A) → g x ≡ []) → (xs : List A) → flat_map g xs ≡ []
  flat_none h [] = refl
  flat_none h (x ∷ xs) = ap₂ (λ a b. a ++ b) (h x) (flat_none h xs)

  pub flat_same : (k : A → List B) → ((x : A) → g x ≡ k x) → (xs : List A) → flat_map g xs ≡ flat_map k xs
  flat_same k h [] = refl
  flat_same k h (x ∷ xs) = ap₂ (λ a b. a ++ b) (h x) (flat_same k h xs)

pub all_unmapped : {A B : Type 0} (P : B → Type 0) (f : A → B) (xs : List A) → AllByRecursion P (map f xs) → AllByRecursion (λ x. P (f x)) xs
all_unmapped P f [] h = tt
all_unmapped P f (x ∷ xs) h = (h.0, all_unmapped P f xs h.1)

pub all_flat : {A B : Type 0} (P : B → Type 0) (g : A → List B) (xs : List A) → AllByRecursion (λ x. AllByRecursion P (g x)) xs → AllByRecursion P (flat_map g xs)
all_flat P g [] h = tt
all_flat P g (x ∷ xs) h = All_append P (g x) (flat_map g xs) h.0 (all_flat P g xs h.1)
