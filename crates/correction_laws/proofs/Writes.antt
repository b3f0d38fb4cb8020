-- Nets that are written by latch, word after word.
use Rattle.std.proofs.Common.{◌≡◌, refl, sym, ◌∙◌, ap, subst, ℕ, zero, suc, ◌+◌, ◌==◌, ◌<◌, ◌⊎◌, inl, inr, Bool, true, false, cond, List, [], ◌∷◌, ◌++◌, length, map, slice_get, Some, arith, Contains, eq-eqb, ne_eqb}
use Rattle.std.specs.List.{AllByRecursion, flat_map}
use Rattle.guard_spec.specs.Words.{Words, IsPartition}
use Rattle.containment.proofs.Counting.{number, number_counts, number_append}
use Rattle.cone_split.proofs.Cells.{contains_cases, contains_at}
use Rattle.correction_laws.specs.Joined.{Corrector, AreCorrectedNets}

counted : (xs : List ℕ) (j : ℕ) → Contains xs j → 0 < number (λ k. k == j) xs
counted [] j c = absurd (let h = c.1 in omega arith)
counted (x ∷ xs) j (zero, h, e) = by_test (x == j) (eq-eqb x j e)
  where
    by_test : (b : Bool) → b ≡ true → 0 < cond b 1 0 + number (λ k. k == j) xs
    by_test true e = omega arith
    by_test false e = cc e
counted (x ∷ xs) j (suc k, h, e) = let r = counted xs j (k, omega arith, e) in omega arith

word_counted : (cs : List Corrector) (d : Corrector) (after : Words) (j : ℕ) → Contains cs d → Contains d.word j → 0 < number (λ k. k == j) (flat_map (λ w. w) (map (λ c. c.word) cs))
word_counted [] d after j c inside = absurd (let h = c.1 in omega arith)
word_counted (x ∷ cs) d after j c inside = by_place (contains_cases x d cs c) (word_counted cs d after j)
  where
    both : number (λ k. k == j) (x.word ++ flat_map (λ w. w) (map (λ c. c.word) cs)) ≡ number (λ k. k == j) x.word + number (λ k. k == j) (flat_map (λ w. w) (map (λ c. c.word) cs))
    both = number_append (λ k. k == j) x.word (flat_map (λ w. w) (map (λ c. c.word) cs))

    by_place : (x ≡ d) ⊎ Contains cs d → (Contains cs d → Contains d.word j → 0 < number (λ k. k == j) (flat_map (λ w. w) (map (λ c. c.word) cs))) → 0 < number (λ k. k == j) (x.word ++ flat_map (λ w. w) (map (λ c. c.word) cs))
    by_place (inl e) later = let a = counted x.word j (subst (λ (q : Corrector). Contains q.word j) (sym e) inside) in let b = both in omega arith
    by_place (inr f) later = let a = later f inside in let b = both in omega arith

flat_append : (xs ys : Words) → flat_map (λ (w : List ℕ). w) (xs ++ ys) ≡ flat_map (λ w. w) xs ++ flat_map (λ w. w) ys
flat_append [] ys = refl
flat_append (x ∷ xs) ys = ap (λ (zs : List ℕ). x ++ zs) (flat_append xs ys) ∙ sym (assoc x (flat_map (λ w. w) xs) (flat_map (λ w. w) ys))
  where
    assoc : (a b c : List ℕ) → (a ++ b) ++ c ≡ a ++ (b ++ c)
    assoc [] b c = refl
    assoc (x ∷ a) b c = ap (λ (zs : List ℕ). x ∷ zs) (assoc a b c)

below : (n : ℕ) (xs : List ℕ) (j : ℕ) → AllByRecursion (λ i. i < n) xs → 0 < number (λ k. k == j) xs → j < n
below n [] j all h = absurd (omega arith)
below n (x ∷ xs) j all h = by_test (x == j) refl h (λ g. below n xs j all.1 g)
  where
    same_or : (a b : ℕ) → (a ≡ b) ⊎ ((a ≡ b) → ⊥)
    same_or a b = grind arith

    by_test : (b : Bool) → (x == j) ≡ b → 0 < cond b 1 0 + number (λ k. k == j) xs → (0 < number (λ k. k == j) xs → j < n) → j < n
    by_test true e h later = by_same (same_or x j)
      where
        by_same : (x ≡ j) ⊎ ((x ≡ j) → ⊥) → j < n
        by_same (inl same) = let a = all.0 in omega arith
        by_same (inr other) = let clash : true ≡ false = sym e ∙ ne_eqb x j other in cc clash
    by_test false e h later = later (omega arith)

contains_last : (cs : List Corrector) (c d : Corrector) → Contains (cs ++ c ∷ []) d → Contains cs d ⊎ (c ≡ d)
contains_last [] c d inside = elim (contains_cases c d [] inside) [ inl e ↦ inr e | inr f ↦ absurd (let h = f.1 in omega arith) ]
contains_last (x ∷ cs) c d (zero, h, e) = inl (0, omega arith, e)
contains_last (x ∷ cs) c d (suc k, h, e) = elim (contains_last cs c d (k, omega arith, e)) [ inl (i, g, f) ↦ inl (suc i, omega arith, f) | inr f ↦ inr f ]

-- The nets of one word more are written, and no others change.
pub written : (cs : List Corrector) (c : Corrector) (after : Words) (latches k : ℕ) (old new : List ℕ) → IsPartition latches k (map (λ d. d.word) cs ++ c.word ∷ after) → AreCorrectedNets cs latches old → length new ≡ length old
    → ((p j n : ℕ) → slice_get c.word p ≡ Some j → slice_get c.nets p ≡ Some n → slice_get new j ≡ Some n) → ((j : ℕ) → (Contains c.word j → ⊥) → slice_get new j ≡ slice_get old j) → AreCorrectedNets (cs ++ c ∷ []) latches new
written cs c after latches k old new partition are long wrote kept = record {
  count = long ∙ are.count;
  each = λ d p j n inside at_j at_n. by_place d p j n (contains_last cs c d inside) at_j at_n;
}
  where
    by_place : (d : Corrector) (p j n : ℕ) → Contains cs d ⊎ (c ≡ d) → slice_get d.word p ≡ Some j → slice_get d.nets p ≡ Some n → slice_get new j ≡ Some n
    by_place d p j n (inr e) at_j at_n = wrote p j n (ap (λ (q : Corrector). slice_get q.word p) e ∙ at_j) (ap (λ (q : Corrector). slice_get q.nets p) e ∙ at_n)
    by_place d p j n (inl inside) at_j at_n = kept j once ∙ are.each d p j n inside at_j at_n
      where
        once : Contains c.word j → ⊥
        once there =
            let a = word_counted cs d after j inside (contains_at d.word p j at_j) in
            let b = counted c.word j there in
            let all = ap (number (λ k. k == j)) (flat_append (map (λ e. e.word) cs) (c.word ∷ after)) ∙ number_append (λ k. k == j) (flat_map (λ w. w) (map (λ e. e.word) cs)) (c.word ++ flat_map (λ w. w) after) in
            let rest = number_append (λ k. k == j) c.word (flat_map (λ w. w) after) in
            let inside_all = below latches (flat_map (λ w. w) (map (λ e. e.word) cs ++ c.word ∷ after)) j partition.no_other (omega arith) in
            let one = partition.each_once j inside_all in
            let same = number_counts (λ k. k == j) (flat_map (λ w. w) (map (λ e. e.word) cs ++ c.word ∷ after)) in
            omega arith
