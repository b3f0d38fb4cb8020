-- What the roots of a column cost.
use Rattle.std.proofs.Common.{◌≡◌, sym, ◌∙◌, ap, subst, refl, ℕ, suc, ◌+◌, ◌*◌, Bool, true, false, cond, List, [], ◌∷◌, ◌++◌, length, map, get_or, sum, sum_by, arith}
use Rattle.std.specs.List.{AllZip, zip}
use Rattle.std.proofs.lemmas.List.Sums.{sum_by-cons}
use Rattle.netlist_spec.specs.SourceRun.{Bits}
use Rattle.predictor.proofs.Checks.{chosen_roots, one_root, first_root}

-- what stands side by side is chosen side by side
pub zip_chosen : (R : ℕ → ℕ → Type 0) (rows : List Bits) (j : ℕ) (xs ys : List ℕ) → AllZip R xs ys → AllZip R (chosen_roots rows j xs) (chosen_roots rows j ys)
zip_chosen R rows j [] [] all = tt
zip_chosen R rows j [] (y ∷ ys) all = absurd all
zip_chosen R rows j (x ∷ xs) [] all = absurd all
zip_chosen R [] j (x ∷ xs) (y ∷ ys) all = tt
zip_chosen R (row ∷ rows) j (x ∷ xs) (y ∷ ys) all =
    subst (λ (ks : List ℕ). AllZip R ks (chosen_roots (row ∷ rows) j (y ∷ ys))) (sym (first_root row rows j x xs))
    (subst (λ (ks : List ℕ). AllZip R (one_root row j x ++ chosen_roots rows j xs) ks) (sym (first_root row rows j y ys))
    (by_bit (get_or row j false) (zip_chosen R rows j xs ys all.1)))
  where
    by_bit : (b : Bool) → AllZip R (chosen_roots rows j xs) (chosen_roots rows j ys) → AllZip R (cond b (x ∷ []) [] ++ chosen_roots rows j xs) (cond b (y ∷ []) [] ++ chosen_roots rows j ys)
    by_bit true rest = (all.0, rest)
    by_bit false rest = rest

-- the cost of the column without the 1 that each check bit costs
abbrev pub bits_cost : List Bits → ℕ → List ℕ → ℕ
bits_cost rows j costs = sum_by (λ (p : ℕ × Bits). cond (get_or p.1 j false) p.0 0) (zip costs rows)

pub chosen_cost : (rows : List Bits) (j : ℕ) (cones : List ℕ) → sum (chosen_roots rows j cones) + 2 * length (chosen_roots rows j cones) ≡ bits_cost rows j (map (λ c. 2 + c) cones)
chosen_cost rows j [] = refl
chosen_cost [] j (c ∷ cones) = refl
chosen_cost (row ∷ rows) j (c ∷ cones) =
    ap (λ (ks : List ℕ). sum ks + 2 * length ks) (first_root row rows j c cones)
    ∙ (by_bit (get_or row j false) (chosen_cost rows j cones)
    ∙ sym (sum_by-cons (λ (p : ℕ × Bits). cond (get_or p.1 j false) p.0 0) (2 + c, row) (zip (map (λ k. 2 + k) cones) rows)))
  where
    by_bit : (b : Bool) → sum (chosen_roots rows j cones) + 2 * length (chosen_roots rows j cones) ≡ bits_cost rows j (map (λ k. 2 + k) cones)
        → sum (cond b (c ∷ []) [] ++ chosen_roots rows j cones) + 2 * length (cond b (c ∷ []) [] ++ chosen_roots rows j cones) ≡ cond b (2 + c) 0 + bits_cost rows j (map (λ k. 2 + k) cones)
    by_bit true rest = let s = sum_by-cons (λ (k : ℕ). k) c (chosen_roots rows j cones) in omega arith
    by_bit false rest = let z : 0 + bits_cost rows j (map (λ k. 2 + k) cones) ≡ bits_cost rows j (map (λ k. 2 + k) cones) = omega arith in rest ∙ sym z

pub zip_same_length : {A B : Type 0} (R : A → B → Type 0) (xs : List A) (ys : List B) → AllZip R xs ys → length xs ≡ length ys
zip_same_length R [] [] all = refl
zip_same_length R [] (y ∷ ys) all = absurd all
zip_same_length R (x ∷ xs) [] all = absurd all
zip_same_length R (x ∷ xs) (y ∷ ys) all = ap suc (zip_same_length R xs ys all.1)
