-- How many places of a list pass a test, where each of some cells has one place at most.
use Rattle.std.proofs.Common.{◌≡◌, ◌≢◌, refl, sym, ◌∙◌, ap, ap₂, subst, ℕ, zero, suc, ◌+◌, ◌-◌, ◌<◌, ◌≤◌, List, [], ◌∷◌, ◌++◌, length, map, take, drop, get_or, slice_range, Bool, true, false, cond, ◌||◌, ◌==◌, ◌⊎◌, inl, inr, arith, count_by, Contains, ne_eqb, ext_get_or, get_or-take, get_or-drop, length-drop, length-take}
use Rattle.std.proofs.lemmas.Bool.{cases_Bool, cases_eq, or_parts}
use Rattle.std.proofs.lemmas.List.FromFn.{fill_by_all, length-map-range_with_len, get_or-map-range_with_len}
use Rattle.std.proofs.lemmas.List.Recursion.{is_count_by}
use Rattle.std.specs.List.{AllByRecursion, list_any, range_with_len, flat_map}
use Rattle.netlist_spec.specs.Covers.{differ}
use Rattle.netlist_spec.specs.SourceRun.{Bits}
use Rattle.guard_spec.specs.Codes.{apart}
use Rattle.block_code.proofs.Coding.{differ_self}

abbrev pub number : (ℕ → Bool) → List ℕ → ℕ
number p [] = 0
number p (k ∷ ks) = cond (p k) 1 0 + number p ks

pub number_counts : (p : ℕ → Bool) (ks : List ℕ) → number p ks ≡ count_by p ks
number_counts p ks = is_count_by (number p) p refl step ks
  where
    step : (k : ℕ) (rest : List ℕ) → cond (p k) 1 0 + number p rest ≡ cond (p k) (1 + number p rest) (number p rest)
    step k rest = by_case (p k)
      where
        by_case : (b : Bool) → cond b 1 0 + number p rest ≡ cond b (1 + number p rest) (number p rest)
        by_case true = refl
        by_case false = omega arith

pub number_append : (p : ℕ → Bool) (ks js : List ℕ) → number p (ks ++ js) ≡ number p ks + number p js
number_append p [] js = omega arith
number_append p (k ∷ ks) js = let e = number_append p ks js in omega arith

none_pass : (ks : List ℕ) → number (λ k. false) ks ≡ 0
none_pass [] = refl
none_pass (k ∷ ks) = let e = none_pass ks in omega arith

one_more : (b c : Bool) (n m : ℕ) → (b ≡ true → c ≡ true) → n ≤ m → cond b 1 0 + n ≤ cond c 1 0 + m
one_more true true n m h k = omega arith
one_more true false n m h k = let e : false ≡ true = h refl in cc e
one_more false true n m h k = omega arith
one_more false false n m h k = omega arith

pub number_weaker : (p q : ℕ → Bool) (ks : List ℕ) → AllByRecursion (λ k. p k ≡ true → q k ≡ true) ks → number p ks ≤ number q ks
number_weaker p q [] all = omega arith
number_weaker p q (k ∷ ks) all = one_more (p k) (q k) _ _ all.0 (number_weaker p q ks all.1)

one_of_two : (b c : Bool) (l n m : ℕ) → l ≤ n + m → cond (b || c) 1 0 + l ≤ (cond b 1 0 + n) + (cond c 1 0 + m)
one_of_two true true l n m h = omega arith
one_of_two true false l n m h = omega arith
one_of_two false true l n m h = omega arith
one_of_two false false l n m h = omega arith

number_or : (p q : ℕ → Bool) (ks : List ℕ) → number (λ k. p k || q k) ks ≤ number p ks + number q ks
number_or p q [] = omega arith
number_or p q (k ∷ ks) = one_of_two (p k) (q k) _ _ _ (number_or p q ks)

-- each place stands once
abbrev pub AreDistinct : List ℕ → Type 0
AreDistinct ks = (j : ℕ) → number (λ k. k == j) ks ≤ 1

-- As many places belong to some cells as there are cells, at most, where one place at most belongs to each.
pub number_of_cells : (own : ℕ → ℕ → Bool) (ks : List ℕ) → ((n : ℕ) → number (λ k. own k n) ks ≤ 1) → (cells : List ℕ) → number (λ k. list_any (own k) cells) ks ≤ length cells
number_of_cells own ks one [] = let e = none_pass ks in omega arith
number_of_cells own ks one (n ∷ cells) =
    let a = number_or (λ k. own k n) (λ k. list_any (own k) cells) ks in
    let b = one n in
    let c = number_of_cells own ks one cells in
    omega arith

passes_none : (p : ℕ → Bool) (ks : List ℕ) → AllByRecursion (λ k. p k ≡ false) ks → number p ks ≡ 0
passes_none p [] all = refl
passes_none p (k ∷ ks) all = let e = passes_none p ks all.1 in left_out (p k) _ all.0 e
  where
    left_out : (b : Bool) (n : ℕ) → b ≡ false → n ≡ 0 → cond b 1 0 + n ≡ 0
    left_out true n h e = cc h
    left_out false n h e = omega arith

pub number_below : (ks : List ℕ) (n j : ℕ) → AllByRecursion (λ k. k < n) ks → n ≤ j → number (λ k. k == j) ks ≡ 0
number_below [] n j all h = refl
number_below (k ∷ ks) n j all h =
    let here : k < n = all.0 in
    passes_none (λ k. k == j) (k ∷ ks) (ne_eqb k j (λ e. absurd (omega arith)), others ks all.1)
  where
    others : (ks : List ℕ) → AllByRecursion (λ k. k < n) ks → AllByRecursion (λ k. (k == j) ≡ false) ks
    others [] a = tt
    others (k ∷ ks) a = let here : k < n = a.0 in (ne_eqb k j (λ e. absurd (omega arith)), others ks a.1)

pub number_above : (a n j : ℕ) → j < a → number (λ k. k == j) (range_with_len a n) ≡ 0
number_above a zero j h = refl
number_above a (suc n) j h =
    let rest = number_above (a + 1) n j (omega arith) in
    left_out (a == j) (ne_eqb a j (λ e. absurd (omega arith))) rest
  where
    left_out : (b : Bool) → b ≡ false → number (λ k. k == j) (range_with_len (a + 1) n) ≡ 0 → cond b 1 0 + number (λ k. k == j) (range_with_len (a + 1) n) ≡ 0
    left_out true h e = cc h
    left_out false h e = omega arith

pub ranges_are_distinct : (a n : ℕ) → AreDistinct (range_with_len a n)
ranges_are_distinct a zero j = omega arith
ranges_are_distinct a (suc n) j = by_case (cases_eq a j) (ranges_are_distinct (a + 1) n j)
  where
    first : (b : Bool) (m : ℕ) → m ≡ 0 → cond b 1 0 + m ≤ 1
    first true m e = omega arith
    first false m e = omega arith

    later : (b : Bool) (m : ℕ) → b ≡ false → m ≤ 1 → cond b 1 0 + m ≤ 1
    later true m h k = cc h
    later false m h k = omega arith

    by_case : (a ≡ j) ⊎ (a ≢ j) → number (λ k. k == j) (range_with_len (a + 1) n) ≤ 1 → number (λ k. k == j) (range_with_len a (suc n)) ≤ 1
    by_case (inl e) rest = first (a == j) _ (number_above (a + 1) n j (omega arith))
    by_case (inr h) rest = later (a == j) _ (ne_eqb a j h) rest

-- places below n, each once, and then places from n on
pub distinct_behind : (ks : List ℕ) (n a m : ℕ) → AreDistinct ks → AllByRecursion (λ k. k < n) ks → n ≤ a → AreDistinct (ks ++ range_with_len a m)
distinct_behind ks n a m once below h j = subst (λ (i : ℕ). i ≤ 1) (sym (number_append (λ k. k == j) ks (range_with_len a m))) (by_place (order j n))
  where
    order : (x y : ℕ) → (x < y) ⊎ (y ≤ x)
    order x y = grind arith

    by_place : (j < n) ⊎ (n ≤ j) → number (λ k. k == j) ks + number (λ k. k == j) (range_with_len a m) ≤ 1
    by_place (inl k) = let e = number_above a m j (omega arith) in let f = once j in omega arith
    by_place (inr k) = let e = number_below ks n j below k in let f = ranges_are_distinct a m j in omega arith

-- the places of a word of a partition stand once
pub parts_are_distinct : (words : List (List ℕ)) → AreDistinct (flat_map (λ w. w) words) → AllByRecursion (λ w. AreDistinct w) words
parts_are_distinct [] once = tt
parts_are_distinct (w ∷ words) once = (
  (λ j. let e = number_append (λ k. k == j) w (flat_map (λ w. w) words) in let f = once j in omega arith),
  parts_are_distinct words (λ j. let e = number_append (λ k. k == j) w (flat_map (λ w. w) words) in let f = once j in omega arith),
)

pub parts_are_below : (words : List (List ℕ)) (n : ℕ) → AllByRecursion (λ k. k < n) (flat_map (λ w. w) words) → AllByRecursion (λ w. AllByRecursion (λ k. k < n) w) words
parts_are_below [] n all = tt
parts_are_below (w ∷ words) n all = (front w all, parts_are_below words n (back w all))
  where
    front : (w : List ℕ) → AllByRecursion (λ k. k < n) (w ++ flat_map (λ w. w) words) → AllByRecursion (λ k. k < n) w
    front [] a = tt
    front (k ∷ ks) a = (a.0, front ks a.1)

    back : (w : List ℕ) → AllByRecursion (λ k. k < n) (w ++ flat_map (λ w. w) words) → AllByRecursion (λ k. k < n) (flat_map (λ w. w) words)
    back [] a = a
    back (k ∷ ks) a = back ks a.1

-- a list as a function of its places
pub as_map : (xs : Bits) (n : ℕ) → length xs ≡ n → xs ≡ map (λ k. get_or xs k false) (range_with_len 0 n)
as_map xs n h = fill_by_all (λ k. get_or xs k false) xs n false h (λ k l. refl)

pub range_as_map : (xs : Bits) (a n : ℕ) → a + n ≤ length xs → slice_range xs a (a + n) ≡ map (λ k. get_or xs k false) (range_with_len a n)
range_as_map xs a n fits =
    ext_get_or false _ _ (length_part ∙ sym (length-map-range_with_len (λ k. get_or xs k false) a n)) each
  where
    gone : (a + n) - a ≡ n
    gone = omega arith

    length_part : length (take ((a + n) - a) (drop a xs)) ≡ n
    length_part = simp (length-take, length-drop) (omega arith)

    each : (i : ℕ) → i < length (take ((a + n) - a) (drop a xs)) → get_or (take ((a + n) - a) (drop a xs)) i false ≡ get_or (map (λ k. get_or xs k false) (range_with_len a n)) i false
    each i h =
        let small : i < n = subst (λ (m : ℕ). i < m) length_part h in
        get_or-take ((a + n) - a) (drop a xs) i false (omega arith)
        ∙ (get_or-drop a xs i false ∙ sym (get_or-map-range_with_len (λ k. get_or xs k false) a n i (a + i) false small refl))

pub apart_maps : (f h : ℕ → Bool) (ks : List ℕ) → apart (map f ks) (map h ks) ≡ number (λ k. differ (f k) (h k)) ks
apart_maps f h [] = refl
apart_maps f h (k ∷ ks) = ap (λ (n : ℕ). cond (differ (f k) (h k)) 1 0 + n) (apart_maps f h ks)

-- Words that agree at each place that belongs to none of some cells are at most as many places apart as there are cells.
pub apart_by_cells : (own : ℕ → ℕ → Bool) (f h : ℕ → Bool) (ks : List ℕ) → ((n : ℕ) → number (λ k. own k n) ks ≤ 1) → (cells : List ℕ)
    → AllByRecursion (λ k. list_any (own k) cells ≡ false → f k ≡ h k) ks → apart (map f ks) (map h ks) ≤ length cells
apart_by_cells own f h ks one cells all =
    let a = apart_maps f h ks in
    let b = number_weaker (λ k. differ (f k) (h k)) (λ k. list_any (own k) cells) ks (owned ks all) in
    let c = number_of_cells own ks one cells in
    omega arith
  where
    is_owned : (k : ℕ) (b : Bool) → (b ≡ false → f k ≡ h k) → differ (f k) (h k) ≡ true → b ≡ true
    is_owned k true same d = refl
    is_owned k false same d =
        let e : false ≡ true = sym (differ_self (h k)) ∙ (ap (λ (b : Bool). differ b (h k)) (sym (same refl)) ∙ d) in
        cc e

    owned : (ks : List ℕ) → AllByRecursion (λ k. list_any (own k) cells ≡ false → f k ≡ h k) ks → AllByRecursion (λ k. differ (f k) (h k) ≡ true → list_any (own k) cells ≡ true) ks
    owned [] a = tt
    owned (k ∷ ks) a = (is_owned k (list_any (own k) cells) a.0, owned ks a.1)

pub All_below : (P : ℕ → Type 0) (a n : ℕ) → ((k : ℕ) → a ≤ k → k < a + n → P k) → AllByRecursion P (range_with_len a n)
All_below P a zero h = tt
All_below P a (suc n) h = (h a (omega arith) (omega arith), All_below P (a + 1) n (λ k low high. h k (omega arith) (omega arith)))

-- lists that agree at each place that belongs to none of some cells
pub lists_apart : (own : ℕ → ℕ → Bool) (xs ys : Bits) (n : ℕ) → length xs ≡ n → length ys ≡ n → ((m : ℕ) → number (λ k. own k m) (range_with_len 0 n) ≤ 1) → (cells : List ℕ)
    → ((k : ℕ) → k < n → list_any (own k) cells ≡ false → get_or xs k false ≡ get_or ys k false) → apart xs ys ≤ length cells
lists_apart own xs ys n hx hy one cells same =
    let bound = apart_by_cells own (λ k. get_or xs k false) (λ k. get_or ys k false) (range_with_len 0 n) one cells (All_below _ 0 n (λ k low high. same k (omega arith))) in
    let e : apart xs ys ≡ apart (map (λ k. get_or xs k false) (range_with_len 0 n)) (map (λ k. get_or ys k false) (range_with_len 0 n)) = ap₂ (λ (a b : Bits). apart a b) (as_map xs n hx) (as_map ys n hy) in
    omega arith

-- Where fewer places pass than there are, one does not.
pub some_fails : (p : ℕ → Bool) (a n : ℕ) → number p (range_with_len a n) < n → (k : ℕ) × (a ≤ k) × (k < a + n) × (p k ≡ false)
some_fails p a zero h = absurd (omega arith)
some_fails p a (suc n) h = by_case (cases_Bool (p a)) (some_fails p (a + 1) n)
  where
    fewer : (b : Bool) (m : ℕ) → b ≡ true → cond b 1 0 + m < suc n → m < n
    fewer true m e h = omega arith
    fewer false m e h = cc e

    by_case : (p a ≡ true) ⊎ (p a ≡ false) → (number p (range_with_len (a + 1) n) < n → (k : ℕ) × (a + 1 ≤ k) × (k < (a + 1) + n) × (p k ≡ false)) → (k : ℕ) × (a ≤ k) × (k < a + suc n) × (p k ≡ false)
    by_case (inl e) later =
        let (k, low, high, f) = later (fewer (p a) _ e h) in
        (k, omega arith, omega arith, f)
    by_case (inr e) later = (a, omega arith, omega arith, e)

pub not_any_at : (p : ℕ → Bool) (xs : List ℕ) (x : ℕ) → list_any p xs ≡ false → Contains xs x → p x ≡ false
not_any_at p [] x h (k, inside, e) = absurd (omega arith)
not_any_at p (y ∷ ys) x h (zero, inside, e) = subst (λ (n : ℕ). p n ≡ false) e (or_parts (p y) (list_any p ys) h).0
not_any_at p (y ∷ ys) x h (suc k, inside, e) = not_any_at p ys x (or_parts (p y) (list_any p ys) h).1 (k, (let l : suc k < suc (length ys) = inside in omega arith), e)
