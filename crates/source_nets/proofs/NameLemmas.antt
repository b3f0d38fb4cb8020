-- Distinct names by their places.
use Rattle.std.proofs.Common.{◌≡◌, refl, sym, ◌∙◌, ap, ap₂, ℕ, zero, suc, ◌<◌, List, [], ◌∷◌, ◌++◌, length, map, Bool, true, false, ◌||◌, ◌&&◌, not, cond, take, get_or, Option, Some, None, slice_get, arith}
use Rattle.std.specs.Prelude.{find}
use Rattle.netlist_spec.specs.Netlist.{Name, same_name, stands_in, are_distinct}
use Rattle.netlist_spec.proofs.OneValue.{passes_both, fails_first}
use Rattle.netlist_spec.proofs.Occurrences.{turn}
use Rattle.imp_text.proofs.NamesLemmas.{same_name_self, same_name-comm, same_name-true}

-- a name that isn't in the list is none of its names
apart_from : {X : Type 0} (f : X → Name) (n : Name) (xs : List X) (i : ℕ) (d : X) → stands_in n (map f xs) ≡ false → i < length xs → same_name n (f (get_or xs i d)) ≡ false
apart_from f n [] i d h inside = absurd (omega arith)
apart_from f n (x ∷ xs) zero d h inside = (fails_first _ _ h).0
apart_from f n (x ∷ xs) (suc i) d h inside = apart_from f n xs i d (fails_first _ _ h).1 (omega arith)

-- a name doesn't stand before its place
pub absent_before : {X : Type 0} (f : X → Name) (xs : List X) (i : ℕ) (d : X) → are_distinct (map f xs) ≡ true → i < length xs → stands_in (f (get_or xs i d)) (map f (take i xs)) ≡ false
absent_before f [] i d a h = absurd (omega arith)
absent_before f (x ∷ xs) zero d a h = refl
absent_before f (x ∷ xs) (suc i) d a h =
    let parts = passes_both _ _ a in
    let other : same_name (f (get_or xs i d)) (f x) ≡ false
    = same_name-comm (f (get_or xs i d)) (f x) ∙ apart_from f (f x) xs i d (turn _ parts.0) (omega arith) in
    ap₂ (λ (b c : Bool). b || c) other (absent_before f xs i d parts.1 (omega arith))

at_none : {X : Type 0} (f : X → Name) (n : Name) (xs : List X) (i : ℕ) → stands_in n (map f xs) ≡ false → slice_get (map f xs) i ≡ Some n → ⊥
at_none f n [] i h e = cc e
at_none f n (x ∷ xs) zero h e =
    let same : f x ≡ n = cc e in
    let one : same_name n (f x) ≡ true = ap (λ m. same_name n m) same ∙ same_name_self n in
    let no : same_name n (f x) ≡ false = (fails_first _ _ h).0 in
    cc (one, no)
at_none f n (x ∷ xs) (suc i) h e = at_none f n xs i (fails_first _ _ h).1 e

-- the element at the place of its name is the first of that name
pub find_at : {X : Type 0} (f : X → Name) (n : Name) (xs : List X) (i : ℕ) → are_distinct (map f xs) ≡ true → slice_get (map f xs) i ≡ Some n → find (λ x. same_name (f x) n) xs ≡ slice_get xs i
find_at f n [] i a e = refl
find_at f n (x ∷ xs) zero a e =
    let same : f x ≡ n = cc e in
    let one : same_name (f x) n ≡ true = ap (λ m. same_name m n) same ∙ same_name_self n in
    ap (λ b. cond b (Some x) (find (λ x. same_name (f x) n) xs)) one
find_at {X = X} f n (x ∷ xs) (suc i) a e = go (same_name (f x) n) refl (find_at f n xs i (passes_both (not (stands_in (f x) (map f xs))) (are_distinct (map f xs)) a).1 e)
  where
    parts : (not (stands_in (f x) (map f xs)) ≡ true) × (are_distinct (map f xs) ≡ true)
    parts = passes_both (not (stands_in (f x) (map f xs))) (are_distinct (map f xs)) a

    go : (b : Bool) → same_name (f x) n ≡ b → find (λ x. same_name (f x) n) xs ≡ slice_get xs i → cond b (Some x) (find (λ x. same_name (f x) n) xs) ≡ slice_get xs i
    go true h rest =
        let same : f x ≡ n = same_name-true (f x) n h in
        let absent : stands_in n (map f xs) ≡ false = ap (λ m. stands_in m (map f xs)) (sym same) ∙ turn _ parts.0 in
        absurd (at_none f n xs i absent e)
    go false h rest = rest

-- and there is none where the name doesn't stand
pub find_none : {X : Type 0} (f : X → Name) (n : Name) (xs : List X) → stands_in n (map f xs) ≡ false → find (λ x. same_name (f x) n) xs ≡ None
find_none f n [] h = refl
find_none f n (x ∷ xs) h =
    let parts = fails_first _ _ h in
    let other : same_name (f x) n ≡ false = same_name-comm (f x) n ∙ parts.0 in
    ap (λ b. cond b (Some x) (find (λ x. same_name (f x) n) xs)) other ∙ find_none f n xs parts.1

-- a place is one of the list
pub place_within : {X Y : Type 0} (f : X → Y) (xs : List X) (i : ℕ) (y : Y) → slice_get (map f xs) i ≡ Some y → i < length xs
place_within f [] i y e = cc e
place_within f (x ∷ xs) zero y e = omega arith
place_within f (x ∷ xs) (suc i) y e = let h = place_within f xs i y e in omega arith

-- what stands there
pub at_place : {X Y : Type 0} (f : X → Y) (xs : List X) (i : ℕ) (y : Y) → slice_get (map f xs) i ≡ Some y → (x : X) × (slice_get xs i ≡ Some x)
at_place f [] i y e = absurd (cc e)
at_place f (x ∷ xs) zero y e = (x, refl)
at_place f (x ∷ xs) (suc i) y e = at_place f xs i y e
