-- There are as many error patterns as the binomial coefficients say.
use Rattle.std.proofs.Common.{◌≡◌, ◌≢◌, refl, sym, ◌∙◌, ap, ap₂, subst, ℕ, zero, suc, ◌+◌, ◌<◌, ◌≤◌, ◌⊎◌, inl, inr, true, false, List, [], ◌∷◌, ◌++◌, length, map, get_or, sum_by, arith, Contains, length-append}
use Rattle.std.specs.Prelude.{AllPairs}
use Rattle.std.specs.List.{flat_map, range_with_len}
use Rattle.std.proofs.lemmas.List.{length-map}
use Rattle.std.proofs.lemmas.List.Sums.{sum_by-cons}
use Rattle.netlist_spec.specs.Covers.{number_of}
use Rattle.netlist_spec.specs.SourceRun.{Bits}
use Rattle.guard_spec.specs.Codes.{Code, Pattern, IsPattern, ArePatterns, StandsBefore, syndrome_of, weight, zeros}
use Rattle.guard_spec.specs.Plain.{choose, pattern_count}
use Rattle.block_code.proofs.Coding.{ones, weight_ones}
use Rattle.cone_split.proofs.Cells.{contains_cases, contains_head, contains_tail, all_contains}

-- ---- lists without an element twice

abbrev without : {A : Type 0} → List A → ℕ → List A
without [] i = []
without (x ∷ xs) zero = xs
without (x ∷ xs) (suc i) = x ∷ without xs i

without_long : {A : Type 0} (xs : List A) (i : ℕ) → i < length xs → suc (length (without xs i)) ≡ length xs
without_long [] i h = absurd (omega arith)
without_long (x ∷ xs) zero h = refl
without_long (x ∷ xs) (suc i) h = ap suc (without_long xs i (omega arith))

-- another element is still there
still_there : {A : Type 0} (xs : List A) (x y : A) (i : ℕ) → i < length xs → get_or xs i x ≡ x → y ≢ x → Contains xs y → Contains (without xs i) y
still_there [] x y i h e other c = absurd (omega arith)
still_there (a ∷ xs) x y zero h e other c = elim (contains_cases a y xs c) [ inl same ↦ absurd (other (sym same ∙ e)) | inr d ↦ d ]
still_there (a ∷ xs) x y (suc i) h e other c = elim (contains_cases a y xs c) [
  | inl same ↦ (0, omega arith, same)
  | inr d ↦ contains_tail a y (without xs i) (still_there xs x y i (omega arith) e other d)
]

fewer : {A : Type 0} (xs ys : List A) → AllPairs (λ x y. x ≢ y) xs → ((x : A) → Contains xs x → Contains ys x) → length xs ≤ length ys
fewer [] ys apart within = omega arith
fewer {A = A} (x ∷ xs) ys apart within =
    let (i, inside, e) = within x (contains_head x xs) in
    let h = fewer xs (without ys i) (λ j k d less end. apart (suc j) (suc k) d (omega arith) (omega arith))
    (λ y c. still_there ys x y i inside e (differs y c) (within y (contains_tail x y xs c))) in
    let l = without_long ys i inside in
    omega arith
  where
    differs : (y : A) → Contains xs y → y ≢ x
    differs y (k, inside, e) same = apart 0 (suc k) y (omega arith) (omega arith) (sym same ∙ sym e)

-- ---- all words of some weight

abbrev words : ℕ → ℕ → List Bits
words n zero = zeros n ∷ []
words zero (suc i) = []
words (suc n) (suc i) = map (λ bs. true ∷ bs) (words n i) ++ map (λ bs. false ∷ bs) (words n (suc i))

words_count : (n i : ℕ) → length (words n i) ≡ choose n i
words_count zero zero = refl
words_count (suc n) zero = refl
words_count zero (suc i) = refl
words_count (suc n) (suc i) =
    length-append (map (λ (bs : Bits). true ∷ bs) (words n i)) (map (λ (bs : Bits). false ∷ bs) (words n (suc i)))
    ∙ ap₂ (λ (a b : ℕ). a + b) (length-map (words n i) (λ (bs : Bits). true ∷ bs) ∙ words_count n i) (length-map (words n (suc i)) (λ (bs : Bits). false ∷ bs) ∙ words_count n (suc i))

left : {A : Type 0} (xs ys : List A) (x : A) → Contains xs x → Contains (xs ++ ys) x
left [] ys x c = absurd (let h = c.1 in omega arith)
left (y ∷ xs) ys x (zero, h, e) = (0, omega arith, e)
left (y ∷ xs) ys x (suc k, h, e) = contains_tail y x (xs ++ ys) (left xs ys x (k, omega arith, e))

right : {A : Type 0} (xs ys : List A) (x : A) → Contains ys x → Contains (xs ++ ys) x
right [] ys x c = c
right (y ∷ xs) ys x c = contains_tail y x (xs ++ ys) (right xs ys x c)

in_map : {A B : Type 0} (f : A → B) (xs : List A) (x : A) → Contains xs x → Contains (map f xs) (f x)
in_map f [] x c = absurd (let h = c.1 in omega arith)
in_map {B = B} f (y ∷ xs) x c = elim (contains_cases y x xs c) [ inl e ↦ subst (λ (z : B). Contains (f y ∷ map f xs) z) (ap f e) (contains_head (f y) (map f xs)) | inr d ↦ contains_tail (f y) (f x) (map f xs) (in_map f xs x d) ]

no_ones : (a : Bits) → ones a ≡ 0 → a ≡ zeros (length a)
no_ones [] e = refl
no_ones (true ∷ a) e = absurd (omega arith)
no_ones (false ∷ a) e = ap (λ (bs : Bits). false ∷ bs) (no_ones a (omega arith))

words_have : (n i : ℕ) (a : Bits) → length a ≡ n → ones a ≡ i → Contains (words n i) a
words_have n zero a long few = (0, omega arith, subst (λ (k : ℕ). zeros k ≡ a) long (sym (no_ones a few)))
words_have zero (suc i) [] long few = absurd (omega arith)
words_have zero (suc i) (b ∷ a) long few = absurd (omega arith)
words_have (suc n) (suc i) [] long few = absurd (omega arith)
words_have (suc n) (suc i) (true ∷ a) long few = left (map (λ (bs : Bits). true ∷ bs) (words n i)) (map (λ (bs : Bits). false ∷ bs) (words n (suc i))) (true ∷ a) (in_map (λ (bs : Bits). true ∷ bs) (words n i) a (words_have n i a (omega arith) (omega arith)))
words_have (suc n) (suc i) (false ∷ a) long few = right (map (λ (bs : Bits). true ∷ bs) (words n i)) (map (λ (bs : Bits). false ∷ bs) (words n (suc i))) (false ∷ a) (in_map (λ (bs : Bits). false ∷ bs) (words n (suc i)) a (words_have n (suc i) a (omega arith) (omega arith)))

levels_count : (n a t : ℕ) → length (flat_map (words n) (range_with_len a t)) ≡ sum_by (choose n) (range_with_len a t)
levels_count n a zero = refl
levels_count n a (suc t) =
    length-append (words n a) (flat_map (words n) (range_with_len (a + 1) t))
    ∙ (ap₂ (λ (x y : ℕ). x + y) (words_count n a) (levels_count n (a + 1) t) ∙ sym (sum_by-cons (choose n) a (range_with_len (a + 1) t)))

levels_have : (n a t i : ℕ) (x : Bits) → a ≤ i → i < a + t → Contains (words n i) x → Contains (flat_map (words n) (range_with_len a t)) x
levels_have n a zero i x low high c = absurd (omega arith)
levels_have n a (suc t) i x low high c = by_level (same_or a i) (λ h. levels_have n (a + 1) t i x h (omega arith) c)
  where
    same_or : (a i : ℕ) → (a ≡ i) ⊎ ((a ≡ i) → ⊥)
    same_or a i = grind arith

    by_level : (a ≡ i) ⊎ ((a ≡ i) → ⊥) → (a + 1 ≤ i → Contains (flat_map (words n) (range_with_len (a + 1) t)) x) → Contains (words n a ++ flat_map (words n) (range_with_len (a + 1) t)) x
    by_level (inl e) later = left (words n a) (flat_map (words n) (range_with_len (a + 1) t)) x (subst (λ (k : ℕ). Contains (words n k) x) (sym e) c)
    by_level (inr f) later = right (words n a) (flat_map (words n) (range_with_len (a + 1) t)) x (later (let g : (a ≡ i) → ⊥ = f in grind (arith, g)))

-- ---- the patterns

pub of_map : {A B : Type 0} (f : A → B) (xs : List A) (y : B) → Contains (map f xs) y → (x : A) × Contains xs x × (f x ≡ y)
of_map f [] y c = absurd (let h = c.1 in omega arith)
of_map f (x ∷ xs) y (zero, h, e) = (x, (0, omega arith, refl), e)
of_map f (x ∷ xs) y (suc k, h, e) = let (z, (i, inside, same), g) = of_map f xs y (k, omega arith, e) in (z, (suc i, omega arith, same), g)

mapped_at : (ps : List Pattern) (i : ℕ) (p : Pattern) (d : Bits) → i < length ps → get_or (map (λ (p : Pattern). p.error) ps) i d ≡ (get_or ps i p).error
mapped_at [] i p d h = absurd (omega arith)
mapped_at (q ∷ ps) zero p d h = refl
mapped_at (q ∷ ps) (suc i) p d h = mapped_at ps i p d (omega arith)

differ : (a b : Bits) → StandsBefore a b → a ≢ b
differ a b (inl less) same = let e = ap weight same in omega arith
differ a b (inr (e, less)) same = let f = ap number_of same in omega arith

pub few_patterns : (code : Code) (m t : ℕ) (patterns : List Pattern) → ArePatterns code m t patterns → length patterns ≤ pattern_count code t m
few_patterns code m t patterns are =
    let errors = map (λ (p : Pattern). p.error) patterns in
    let long = length-map patterns (λ (p : Pattern). p.error) in
    let count = levels_count (m + code.columns) 1 t in
    let h = fewer errors (flat_map (words (m + code.columns)) (range_with_len 1 t)) apart within in
    omega arith
  where
    some : Pattern
    some = record { error = []; syndrome = [] }

    apart : AllPairs (λ (x y : Bits). x ≢ y) (map (λ (p : Pattern). p.error) patterns)
    apart i j d less end =
        let long = length-map patterns (λ (p : Pattern). p.error) in
        let before = are.order i j some less (omega arith) in
        let a = mapped_at patterns i some d (omega arith) in
        let b = mapped_at patterns j some d (omega arith) in
        λ same. differ (get_or patterns i some).error (get_or patterns j some).error before (sym a ∙ (same ∙ b))

    within : (x : Bits) → Contains (map (λ (p : Pattern). p.error) patterns) x → Contains (flat_map (words (m + code.columns)) (range_with_len 1 t)) x
    within x c =
        let (p, inside, e) = of_map (λ (p : Pattern). p.error) patterns x c in
        let (pattern, told) = all_contains (λ (p : Pattern). IsPattern code m t p.error × (p.syndrome ≡ syndrome_of code m p.error)) patterns p are.each inside in
        let w = weight_ones p.error in
        let low = pattern.some_place in
        let high = pattern.few in
        subst (λ (y : Bits). Contains (flat_map (words (m + code.columns)) (range_with_len 1 t)) y) e
        (levels_have (m + code.columns) 1 t (ones p.error) p.error (omega arith) (omega arith) (words_have (m + code.columns) (ones p.error) p.error pattern.places refl))
