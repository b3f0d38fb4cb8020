-- Pieces up to one, and those behind it.
use Rattle.std.proofs.Common.{◌≡◌, ℕ, zero, suc, ◌+◌, ◌<◌, List, [], ◌∷◌, ◌++◌, length, take, get_or, refl, sym, ap, ◌∙◌, append_assoc, append-nil, add-one, arith}
use Rattle.std.specs.List.{flat_map}

-- one more piece
more : {A : Type 0} (f : A → List ℕ) (xs : List A) (i : ℕ) (d : A) → i < length xs → flat_map f (take (suc i) xs) ≡ flat_map f (take i xs) ++ f (get_or xs i d)
more f [] i d h = absurd (omega arith)
more f (x ∷ xs) zero d h = append-nil (f x)
more f (x ∷ xs) (suc i) d h =
    ap (λ l. f x ++ l) (more f xs i d (omega arith)) ∙ sym (append_assoc (f x) (flat_map f (take i xs)) (f (get_or xs i d)))

pub pieces-more : {A : Type 0} (f : A → List ℕ) (xs : List A) (i : ℕ) (d : A) → i < length xs → flat_map f (take (i + 1) xs) ≡ flat_map f (take i xs) ++ f (get_or xs i d)
pieces-more f xs i d h = rw add-one (more f xs i d h)

-- all of them
pub pieces-split : {A : Type 0} (f : A → List ℕ) (xs : List A) (i : ℕ) (d : A) → i < length xs → (rest : List ℕ) × (flat_map f xs ≡ (flat_map f (take i xs) ++ f (get_or xs i d)) ++ rest)
pieces-split f [] i d h = absurd (omega arith)
pieces-split f (x ∷ xs) zero d h = (flat_map f xs, refl)
pieces-split f (x ∷ xs) (suc i) d h =
    let later = pieces-split f xs i d (omega arith) in
    let front = flat_map f (take i xs) in
    let here = f (get_or xs i d) in
    (later.0, ap (λ l. f x ++ l) later.1 ∙ (sym (append_assoc (f x) (front ++ here) later.0) ∙ ap (λ l. l ++ later.0) (sym (append_assoc (f x) front here))))
