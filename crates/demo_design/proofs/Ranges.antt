-- Texts that grow by a number of a range at a time.
use Rattle.std.proofs.Common.{◌≡◌, ◌++◌, List, ℕ, zero, suc, ◌+◌, ap, sym, ◌∙◌, append_assoc, append-nil, add-one, arith}
use Rattle.std.specs.List.{flat_map, range_with_len}

more : (f : ℕ → List ℕ) (a k : ℕ) → flat_map f (range_with_len a (suc k)) ≡ flat_map f (range_with_len a k) ++ f (a + k)
more f a zero = let place : a ≡ a + 0 = omega arith in append-nil (f a) ∙ ap f place
more f a (suc k) =
    let place : (a + 1) + k ≡ a + suc k = omega arith in
    ap (λ (l : List ℕ). f a ++ l) (more f (a + 1) k)
    ∙ (sym (append_assoc (f a) (flat_map f (range_with_len (a + 1) k)) (f ((a + 1) + k)))
    ∙ ap (λ (i : ℕ). (f a ++ flat_map f (range_with_len (a + 1) k)) ++ f i) place)

-- the text of the numbers below k, and then that of k
pub grown : (f : ℕ → List ℕ) (k : ℕ) (old now new : List ℕ) → now ≡ old ++ flat_map f (range_with_len 0 k) → new ≡ now ++ f k → new ≡ old ++ flat_map f (range_with_len 0 (k + 1))
grown f k old now new so_far last =
    let place : 0 + k ≡ k = omega arith in
    last
    ∙ (ap (λ (l : List ℕ). l ++ f k) so_far
    ∙ (append_assoc old (flat_map f (range_with_len 0 k)) (f k)
    ∙ ap (λ (l : List ℕ). old ++ l) (sym (rw add-one (more f 0 k ∙ ap (λ (i : ℕ). flat_map f (range_with_len 0 k) ++ f i) place)))))
