-- Lists of names that are apart from one another.
use Rattle.std.proofs.Common.{◌≡◌, refl, sym, ◌∙◌, ap, ℕ, zero, suc, ◌+◌, ◌<◌, ◌≤◌, ◌^◌, Bool, true, false, not, cond, ◌||◌, List, [], ◌∷◌, ◌++◌, length, map, filter, drop, slice_get, Some, arith, codes}
use Rattle.std.specs.Prelude.{nat_lt, if◌then◌else◌, IsTrue, decimal}
use Rattle.std.specs.List.{AllByRecursion, AllZip, range_with_len}
use Rattle.std.proofs.lemmas.Bool.{and_parts, and_from, or_parts, or_from, not-true, ltb-false}
use Rattle.std.proofs.lemmas.Fmt.{decimal_injective}
use Rattle.std.proofs.lemmas.List.{drop_at}
use Rattle.netlist_spec.specs.Netlist.{Name, same_name, stands_in, are_distinct, is_reserved}
use Rattle.netlist_spec.specs.GuardNames.{inner_name}
use Rattle.imp_text.proofs.NamesLemmas.{same_name-true, same_name-comm, stands_in-append}
use Rattle.elaborated.specs.Flat.{at_gates}

-- no name of the one list stands in the other
abbrev pub AreOff : List Name → List Name → Type 0
AreOff xs ys = AllByRecursion (λ y. stands_in y xs ≡ false) ys

pub off_append : (xs ys zs : List Name) → AreOff xs zs → AreOff ys zs → AreOff (xs ++ ys) zs
off_append xs ys [] h k = tt
off_append xs ys (z ∷ zs) h k = (stands_in-append z xs ys ∙ or_from _ _ h.0 k.0, off_append xs ys zs h.1 k.1)

stands_apart : (x : Name) (xs ys : List Name) → AreOff (x ∷ xs) ys → stands_in x ys ≡ false
stands_apart x xs [] h = refl
stands_apart x xs (y ∷ ys) h = or_from _ _ (same_name-comm x y ∙ (or_parts (same_name y x) (stands_in y xs) h.0).0) (stands_apart x xs ys h.1)

off_rest : (x : Name) (xs ys : List Name) → AreOff (x ∷ xs) ys → AreOff xs ys
off_rest x xs [] h = tt
off_rest x xs (y ∷ ys) h = ((or_parts (same_name y x) (stands_in y xs) h.0).1, off_rest x xs ys h.1)

pub distinct_append : (xs ys : List Name) → are_distinct xs ≡ true → are_distinct ys ≡ true → AreOff xs ys → are_distinct (xs ++ ys) ≡ true
distinct_append [] ys d e off = e
distinct_append (x ∷ xs) ys d e off =
    let parts = and_parts (not (stands_in x xs)) (are_distinct xs) d in
    and_from _ _ (ap not (stands_in-append x xs ys ∙ or_from _ _ (not-true _ parts.0) (stands_apart x xs ys off))) (distinct_append xs ys parts.1 e (off_rest x xs ys off))

-- what a list of distinct names says of its two parts
pub distinct_back : (xs ys : List Name) → are_distinct (xs ++ ys) ≡ true → are_distinct ys ≡ true
distinct_back [] ys d = d
distinct_back (x ∷ xs) ys d = distinct_back xs ys (and_parts (not (stands_in x (xs ++ ys))) (are_distinct (xs ++ ys)) d).1

off_more : (x : Name) (xs ys : List Name) → stands_in x ys ≡ false → AreOff xs ys → AreOff (x ∷ xs) ys
off_more x xs [] h k = tt
off_more x xs (y ∷ ys) h k =
    let parts = or_parts (same_name x y) (stands_in x ys) h in
    (or_from _ _ (same_name-comm y x ∙ parts.0) k.0, off_more x xs ys parts.1 k.1)

off_none : (ys : List Name) → AreOff [] ys
off_none [] = tt
off_none (y ∷ ys) = (refl, off_none ys)

pub distinct_off : (xs ys : List Name) → are_distinct (xs ++ ys) ≡ true → AreOff xs ys
distinct_off [] ys d = off_none ys
distinct_off (x ∷ xs) ys d =
    let parts = and_parts (not (stands_in x (xs ++ ys))) (are_distinct (xs ++ ys)) d in
    off_more x xs ys (or_parts (stands_in x xs) (stands_in x ys) (sym (stands_in-append x xs ys) ∙ not-true _ parts.0)).1 (distinct_off xs ys parts.1)

-- a filter keeps names apart
pub absent_filtered : (t : Name → Bool) (n : Name) (xs : List Name) → stands_in n xs ≡ false → stands_in n (filter t xs) ≡ false
absent_filtered t n [] h = refl
absent_filtered t n (x ∷ xs) h =
    let parts = or_parts (same_name n x) (stands_in n xs) h in
    by_test (t x) parts.0 (absent_filtered t n xs parts.1)
  where
    by_test : (b : Bool) → same_name n x ≡ false → stands_in n (filter t xs) ≡ false → stands_in n (cond b (x ∷ filter t xs) (filter t xs)) ≡ false
    by_test true h k = or_from _ _ h k
    by_test false h k = k

pub distinct_filtered : (t : Name → Bool) (xs : List Name) → are_distinct xs ≡ true → are_distinct (filter t xs) ≡ true
distinct_filtered t [] d = refl
distinct_filtered t (x ∷ xs) d =
    let parts = and_parts (not (stands_in x xs)) (are_distinct xs) d in
    by_test (t x) (absent_filtered t x xs (not-true _ parts.0)) (distinct_filtered t xs parts.1)
  where
    by_test : (b : Bool) → stands_in x (filter t xs) ≡ false → are_distinct (filter t xs) ≡ true → are_distinct (cond b (x ∷ filter t xs) (filter t xs)) ≡ true
    by_test true h k = and_from _ _ (ap not h) k
    by_test false h k = k

pub passes_filter : {A : Type 0} (t : A → Bool) (xs : List A) → AllByRecursion (λ x. t x ≡ true) (filter t xs)
passes_filter t [] = tt
passes_filter {A} t (x ∷ xs) = by_test (t x) refl (passes_filter t xs)
  where
    by_test : (b : Bool) → t x ≡ b → AllByRecursion (λ (y : A). t y ≡ true) (filter t xs) → AllByRecursion (λ (y : A). t y ≡ true) (cond b (x ∷ filter t xs) (filter t xs))
    by_test true e h = (e, h)
    by_test false e h = h

-- a list whose items pass, or none of them
pub all_kept : {A : Type 0} (t : A → Bool) (xs : List A) → AllByRecursion (λ x. t x ≡ true) xs → filter t xs ≡ xs
all_kept t [] h = refl
all_kept t (x ∷ xs) h = ap (λ b. cond b (x ∷ filter t xs) (filter t xs)) h.0 ∙ ap (λ l. x ∷ l) (all_kept t xs h.1)

pub none_kept : {A : Type 0} (t : A → Bool) (xs : List A) → AllByRecursion (λ x. t x ≡ false) xs → filter t xs ≡ []
none_kept t [] h = refl
none_kept t (x ∷ xs) h = ap (λ b. cond b (x ∷ filter t xs) (filter t xs)) h.0 ∙ none_kept t xs h.1

-- The names beside the nets of gates.

pub absent_at_gates : (leaves : ℕ) (n : Name) (xs : List Name) (ks : List ℕ) → stands_in n xs ≡ false → stands_in n (at_gates leaves xs ks) ≡ false
absent_at_gates leaves n [] ks h = refl
absent_at_gates leaves n (x ∷ xs) [] h = refl
absent_at_gates leaves n (x ∷ xs) (k ∷ ks) h =
    let parts = or_parts (same_name n x) (stands_in n xs) h in
    by_test (nat_lt k leaves) parts.0 (absent_at_gates leaves n xs ks parts.1)
  where
    by_test : (b : Bool) → same_name n x ≡ false → stands_in n (at_gates leaves xs ks) ≡ false → stands_in n (if b then at_gates leaves xs ks else x ∷ at_gates leaves xs ks) ≡ false
    by_test true h k = k
    by_test false h k = or_from _ _ h k

pub distinct_at_gates : (leaves : ℕ) (xs : List Name) (ks : List ℕ) → are_distinct xs ≡ true → are_distinct (at_gates leaves xs ks) ≡ true
distinct_at_gates leaves [] ks d = refl
distinct_at_gates leaves (x ∷ xs) [] d = refl
distinct_at_gates leaves (x ∷ xs) (k ∷ ks) d =
    let parts = and_parts (not (stands_in x xs)) (are_distinct xs) d in
    by_test (nat_lt k leaves) (absent_at_gates leaves x xs ks (not-true _ parts.0)) (distinct_at_gates leaves xs ks parts.1)
  where
    by_test : (b : Bool) → stands_in x (at_gates leaves xs ks) ≡ false → are_distinct (at_gates leaves xs ks) ≡ true → are_distinct (if b then at_gates leaves xs ks else x ∷ at_gates leaves xs ks) ≡ true
    by_test true h k = k
    by_test false h k = and_from _ _ (ap not h) k

pub all_at_gates : {A : Type 0} (P : A → Type 0) (leaves : ℕ) (xs : List A) (ks : List ℕ) → AllByRecursion P xs → AllByRecursion P (at_gates leaves xs ks)
all_at_gates P leaves [] ks h = tt
all_at_gates P leaves (x ∷ xs) [] h = tt
all_at_gates P leaves (x ∷ xs) (k ∷ ks) h = by_test (nat_lt k leaves) h.0 (all_at_gates P leaves xs ks h.1)
  where
    by_test : (b : Bool) → P x → AllByRecursion P (at_gates leaves xs ks) → AllByRecursion P (if b then at_gates leaves xs ks else x ∷ at_gates leaves xs ks)
    by_test true h k = k
    by_test false h k = (h, k)

-- what holds of each item beside a number at or above the leaves
pub gates_have : {A : Type 0} (P : A → Type 0) (R : A → ℕ → Type 0) (leaves : ℕ) → ((x : A) (k : ℕ) → R x k → leaves ≤ k → P x) → (xs : List A) (ks : List ℕ) → AllZip R xs ks → AllByRecursion P (at_gates leaves xs ks)
gates_have P R leaves f [] ks h = tt
gates_have P R leaves f (x ∷ xs) [] h = tt
gates_have P R leaves f (x ∷ xs) (k ∷ ks) h = by_test (nat_lt k leaves) refl (gates_have P R leaves f xs ks h.1)
  where
    by_test : (b : Bool) → nat_lt k leaves ≡ b → AllByRecursion P (at_gates leaves xs ks) → AllByRecursion P (if b then at_gates leaves xs ks else x ∷ at_gates leaves xs ks)
    by_test true e r = r
    by_test false e r = (f x k h.0 (ltb-false k leaves e), r)

pub as_many_at_gates : {A B : Type 0} (leaves : ℕ) (xs : List A) (ys : List B) (ks : List ℕ) → length xs ≡ length ys → length (at_gates leaves xs ks) ≡ length (at_gates leaves ys ks)
as_many_at_gates leaves [] [] ks e = refl
as_many_at_gates leaves [] (y ∷ ys) ks e = absurd (omega arith)
as_many_at_gates leaves (x ∷ xs) [] ks e = absurd (omega arith)
as_many_at_gates leaves (x ∷ xs) (y ∷ ys) [] e = refl
as_many_at_gates leaves (x ∷ xs) (y ∷ ys) (k ∷ ks) e = by_test (nat_lt k leaves) (as_many_at_gates leaves xs ys ks (omega arith))
  where
    by_test : (b : Bool) → length (at_gates leaves xs ks) ≡ length (at_gates leaves ys ks) → length (if b then at_gates leaves xs ks else x ∷ at_gates leaves xs ks) ≡ length (if b then at_gates leaves ys ks else y ∷ at_gates leaves ys ks)
    by_test true h = h
    by_test false h = ap suc h

pub at_gates-map : {A B : Type 0} (f : A → B) (leaves : ℕ) (xs : List A) (ks : List ℕ) → map f (at_gates leaves xs ks) ≡ at_gates leaves (map f xs) ks
at_gates-map f leaves [] ks = refl
at_gates-map f leaves (x ∷ xs) [] = refl
at_gates-map f leaves (x ∷ xs) (k ∷ ks) = by_test (nat_lt k leaves) (at_gates-map f leaves xs ks)
  where
    by_test : (b : Bool) → map f (at_gates leaves xs ks) ≡ at_gates leaves (map f xs) ks → map f (if b then at_gates leaves xs ks else x ∷ at_gates leaves xs ks) ≡ (if b then at_gates leaves (map f xs) ks else f x ∷ at_gates leaves (map f xs) ks)
    by_test true h = h
    by_test false h = ap (λ l. f x ∷ l) h

-- Names of inner cells.

inner_injective : (i j : ℕ) → i < 2 ^ 64 → j < 2 ^ 64 → inner_name i ≡ inner_name j → i ≡ j
inner_injective i j hi hj e = decimal_injective i j hi hj (sym (drop_at (codes "guard:n") (decimal i) 7 refl) ∙ ap (drop 7) e ∙ drop_at (codes "guard:n") (decimal j) 7 refl)

inner_apart : (i j : ℕ) → i < 2 ^ 64 → j < 2 ^ 64 → i < j → same_name (inner_name i) (inner_name j) ≡ false
inner_apart i j hi hj less = by_test (same_name (inner_name i) (inner_name j)) refl
  where
    by_test : (b : Bool) → same_name (inner_name i) (inner_name j) ≡ b → b ≡ false
    by_test true e = absurd (let same = inner_injective i j hi hj (same_name-true _ _ e) in omega arith)
    by_test false e = refl

inner_first : (i a n : ℕ) → i < a → a + n ≤ 2 ^ 64 → stands_in (inner_name i) (map inner_name (range_with_len a n)) ≡ false
inner_first i a zero less room = refl
inner_first i a (suc n) less room = or_from _ _ (inner_apart i a (omega arith) (omega arith) less) (inner_first i (a + 1) n (omega arith) (omega arith))

pub inner_distinct : (a n : ℕ) → a + n ≤ 2 ^ 64 → are_distinct (map inner_name (range_with_len a n)) ≡ true
inner_distinct a zero room = refl
inner_distinct a (suc n) room = and_from _ _ (ap not (inner_first a (a + 1) n (omega arith) (omega arith))) (inner_distinct (a + 1) n (omega arith))

inner_reserved : (i : ℕ) → is_reserved (inner_name i) ≡ true
inner_reserved i = refl

not_inner : (i : ℕ) (n : Name) → IsTrue (not (is_reserved n)) → same_name (inner_name i) n ≡ false
not_inner i n free = by_test (same_name (inner_name i) n) refl
  where
    by_test : (b : Bool) → same_name (inner_name i) n ≡ b → b ≡ false
    by_test true e = absurd (let reserved : is_reserved n ≡ true = ap is_reserved (sym (same_name-true (inner_name i) n e)) ∙ inner_reserved i in cc (not-true _ free, reserved))
    by_test false e = refl

abbrev pub AreFree : List Name → Type 0
AreFree ns = AllByRecursion (λ n. IsTrue (not (is_reserved n))) ns

inner_is_off : (i : ℕ) (ns : List Name) → AreFree ns → stands_in (inner_name i) ns ≡ false
inner_is_off i [] free = refl
inner_is_off i (n ∷ ns) free = or_from _ _ (not_inner i n free.0) (inner_is_off i ns free.1)

pub inner_off : (ns : List Name) (a n : ℕ) → AreFree ns → AreOff ns (map inner_name (range_with_len a n))
inner_off ns a zero free = tt
inner_off ns a (suc n) free = (inner_is_off a ns free, inner_off ns (a + 1) n free)

pub off_inner : (ns : List Name) (a n : ℕ) → AreFree ns → AreOff (map inner_name (range_with_len a n)) ns
off_inner [] a n free = tt
off_inner (k ∷ ns) a n free = (one_off a n, off_inner ns a n free.1)
  where
    one_off : (a n : ℕ) → stands_in k (map inner_name (range_with_len a n)) ≡ false
    one_off a zero = refl
    one_off a (suc n) = or_from _ _ (same_name-comm k (inner_name a) ∙ not_inner a k free.0) (one_off (a + 1) n)

-- a name that stands in a list has a place
pub place_of : (n : Name) (xs : List Name) → stands_in n xs ≡ true → (i : ℕ) × (i < length xs) × (slice_get xs i ≡ Some n)
place_of n [] h = absurd (cc h)
place_of n (x ∷ xs) h = by_test (same_name n x) refl h (place_of n xs)
  where
    by_test : (b : Bool) → same_name n x ≡ b → (b || stands_in n xs) ≡ true → (stands_in n xs ≡ true → (i : ℕ) × (i < length xs) × (slice_get xs i ≡ Some n)) → (i : ℕ) × (i < suc (length xs)) × (slice_get (x ∷ xs) i ≡ Some n)
    by_test true e h rest = (0, omega arith, ap (λ m. Some m) (sym (same_name-true n x e)))
    by_test false e h rest = let later = rest h in (suc later.0, omega (arith, later.1), later.2)
