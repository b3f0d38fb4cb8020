-- Labels that stand once, kind by kind.
use Rattle.std.proofs.Common.{◌≡◌, refl, sym, ◌∙◌, ap, subst, ℕ, zero, suc, ◌+◌, ◌^◌, ◌<◌, ◌≤◌, ◌⊎◌, inl, inr, Bool, true, false, not, ◌||◌, cond, List, [], ◌∷◌, ◌++◌, length, map, filter, get_or, slice_get, Some, Contains, arith}
use Rattle.std.specs.Prelude.{IsTrue}
use Rattle.std.specs.List.{AllByRecursion, flat_map, enumerate_from, range_with_len}
use Rattle.std.specs.Cmp.Lexicographic.{bytes_decides}
use Rattle.std.proofs.lemmas.Bool.{and_parts, not-true}
use Rattle.std.proofs.lemmas.List.Elements.{Contains-append_cases, Contains-get_or}
use Rattle.std.proofs.lemmas.Option.{slice_get-get_or}
use Rattle.netlist_spec.specs.Netlist.{Name, same_name, stands_in, are_distinct, is_reserved}
use Rattle.guard_spec.specs.Codes.{Code}
use Rattle.guard_spec.specs.Words.{Words, Layout}
use Rattle.netlist_spec.specs.Written.{Label, given, store, next, check, rail, inner, label_name, given_name}
use Rattle.netlist_spec.proofs.OneValue.{All_front, All_back}
use Rattle.size_laws.specs.Labels.{is_added, HasSmallNumbers, IsFreeLabel, AreFreeLabels, HasNoRepeat, is_store, is_next, is_check, is_rail, is_inner, HasNoRepeatInKinds, word_labels, AreGuardLabels, HasFewPlaces}
use Rattle.size_laws.proofs.DistinctLabels.{distinct_names}
use Rattle.size_laws.proofs.Lists.{contains_head, contains_tail, contains_cases, none_there}

-- ---- labels that stand once

once_first : (a : Label) (labels : List Label) → HasNoRepeat (a ∷ labels) → Contains labels a → ⊥
once_first a labels pairs (k, inside, e) = pairs 0 (suc k) a (omega arith) (omega arith) (sym e)

once_rest : (a : Label) (labels : List Label) → HasNoRepeat (a ∷ labels) → HasNoRepeat labels
once_rest a labels pairs i j d less inside = pairs (suc i) (suc j) d (omega arith) (omega arith)

once_cons : (a : Label) (labels : List Label) → (Contains labels a → ⊥) → HasNoRepeat labels → HasNoRepeat (a ∷ labels)
once_cons a labels new pairs zero zero d less inside = absurd (omega arith)
once_cons a labels new pairs zero (suc j) d less inside = λ e. new (subst (λ (b : Label). Contains labels b) (sym e) (Contains-get_or labels j d (omega arith)))
once_cons a labels new pairs (suc i) zero d less inside = absurd (omega arith)
once_cons a labels new pairs (suc i) (suc j) d less inside = pairs i j d (omega arith) (omega arith)

once_none : HasNoRepeat []
once_none i j d less inside = absurd (omega arith)

once_append : (xs ys : List Label) → HasNoRepeat xs → HasNoRepeat ys → ((a : Label) → Contains xs a → Contains ys a → ⊥) → HasNoRepeat (xs ++ ys)
once_append [] ys h k other = k
once_append (x ∷ xs) ys h k other =
    once_cons x (xs ++ ys)
    (λ c. elim (Contains-append_cases xs ys x c) [ inl a ↦ once_first x xs h a | inr b ↦ other x (contains_head x xs) b ])
    (once_append xs ys (once_rest x xs h) k (λ a c d. other a (contains_tail x a xs c) d))

-- where each label tells its place
pub once_by_place : (labels : List Label) (place : Label → ℕ) → ((i : ℕ) (a : Label) → slice_get labels i ≡ Some a → place a ≡ i) → HasNoRepeat labels
once_by_place labels place told i j d less inside e =
    let first = told i (get_or labels i d) (slice_get-get_or labels i d (omega arith)) in
    let second = told j (get_or labels j d) (slice_get-get_or labels j d inside) in
    let same = ap place e in
    absurd (omega arith)

-- ---- kinds

filter_head : (t : Label → Bool) (a : Label) (labels : List Label) → Contains labels a → t a ≡ true → Contains (filter t labels) a
filter_head t a [] c e = absurd (none_there a c)
filter_head t a (b ∷ labels) c e = by_case (contains_cases b a labels c) (filter_head t a labels)
  where
    kept : (p : Bool) → Contains (filter t labels) a → Contains (cond p (b ∷ filter t labels) (filter t labels)) a
    kept true d = contains_tail b a (filter t labels) d
    kept false d = d

    by_case : (b ≡ a) ⊎ Contains labels a → (Contains labels a → t a ≡ true → Contains (filter t labels) a) → Contains (cond (t b) (b ∷ filter t labels) (filter t labels)) a
    by_case (inl f) later =
        subst (λ (p : Bool). Contains (cond p (b ∷ filter t labels) (filter t labels)) a) (sym (ap t f ∙ e))
        (subst (λ (x : Label). Contains (b ∷ filter t labels) x) f (contains_head b (filter t labels)))
    by_case (inr d) later = kept (t b) (later d e)

filter_rest : (t : Label → Bool) (a : Label) (labels : List Label) → HasNoRepeat (filter t (a ∷ labels)) → HasNoRepeat (filter t labels)
filter_rest t a labels = by_test (t a)
  where
    by_test : (p : Bool) → HasNoRepeat (cond p (a ∷ filter t labels) (filter t labels)) → HasNoRepeat (filter t labels)
    by_test true pairs = once_rest a (filter t labels) pairs
    by_test false pairs = pairs

given_stands : (n : Name) (labels : List Label) → Contains labels (given n) → stands_in n (flat_map given_name labels) ≡ true
given_stands n [] c = absurd (none_there (given n) c)
given_stands n (b ∷ labels) c = by_case b (contains_cases b (given n) labels c) (given_stands n labels)
  where
    or_true : (p : Bool) {q : Bool} → q ≡ true → (p || q) ≡ true
    or_true true e = refl
    or_true false e = e

    by_case : (b : Label) → (b ≡ given n) ⊎ Contains labels (given n) → (Contains labels (given n) → stands_in n (flat_map given_name labels) ≡ true) → stands_in n (flat_map given_name (b ∷ labels)) ≡ true
    by_case (given k) (inl e) later = ap (λ (p : Bool). p || stands_in n (flat_map given_name labels)) ((bytes_decides n k).1 (cc e))
    by_case (given k) (inr d) later = or_true (same_name n k) (later d)
    by_case b (inl e) later = cc e
    by_case b (inr d) later = later d

given_rest : (b : Label) (labels : List Label) → IsTrue (are_distinct (flat_map given_name (b ∷ labels))) → IsTrue (are_distinct (flat_map given_name labels))
given_rest (given n) labels d = (and_parts (not (stands_in n (flat_map given_name labels))) (are_distinct (flat_map given_name labels)) d).1
given_rest b labels d = d

first_is_new : (a : Label) (labels : List Label) → HasNoRepeatInKinds (a ∷ labels) → Contains labels a → ⊥
first_is_new (given n) labels h c =
    let new = not-true (stands_in n (flat_map given_name labels)) (and_parts (not (stands_in n (flat_map given_name labels))) (are_distinct (flat_map given_name labels)) h.given).0 in
    let there = given_stands n labels c in
    let clash : false ≡ true = sym new ∙ there in cc clash
first_is_new (store w i) labels h c = once_first (store w i) (filter is_store labels) h.stores (filter_head is_store (store w i) labels c refl)
first_is_new (next w i) labels h c = once_first (next w i) (filter is_next labels) h.nexts (filter_head is_next (next w i) labels c refl)
first_is_new (check w j) labels h c = once_first (check w j) (filter is_check labels) h.checks (filter_head is_check (check w j) labels c refl)
first_is_new (rail i) labels h c = once_first (rail i) (filter is_rail labels) h.rails (filter_head is_rail (rail i) labels c refl)
first_is_new (inner i) labels h c = once_first (inner i) (filter is_inner labels) h.inner (filter_head is_inner (inner i) labels c refl)

pub once_by_kind : (labels : List Label) → HasNoRepeatInKinds labels → HasNoRepeat labels
once_by_kind [] h = once_none
once_by_kind (a ∷ labels) h =
    once_cons a labels (first_is_new a labels h)
    (once_by_kind labels (record {
      given = given_rest a labels h.given;
      stores = filter_rest is_store a labels h.stores;
      nexts = filter_rest is_next a labels h.nexts;
      checks = filter_rest is_check a labels h.checks;
      rails = filter_rest is_rail a labels h.rails;
      inner = filter_rest is_inner a labels h.inner;
    }))

-- ---- labels of words

abbrev IsInjective : (ℕ → Label) → Type 0
IsInjective label = (i j : ℕ) → label i ≡ label j → i ≡ j

in_row : (label : ℕ → Label) (a n : ℕ) (x : Label) → Contains (map label (range_with_len a n)) x → (i : ℕ) × (a ≤ i) × (x ≡ label i)
in_row label a zero x c = absurd (none_there x c)
in_row label a (suc n) x c = by_case (contains_cases (label a) x (map label (range_with_len (a + 1) n)) c) (in_row label (a + 1) n x)
  where
    by_case : (label a ≡ x) ⊎ Contains (map label (range_with_len (a + 1) n)) x → (Contains (map label (range_with_len (a + 1) n)) x → (i : ℕ) × (a + 1 ≤ i) × (x ≡ label i)) → (i : ℕ) × (a ≤ i) × (x ≡ label i)
    by_case (inl e) later = (a, omega arith, sym e)
    by_case (inr d) later = let (i, low, e) = later d in (i, omega arith, e)

once_row : (label : ℕ → Label) → IsInjective label → (a n : ℕ) → HasNoRepeat (map label (range_with_len a n))
once_row label one a zero = once_none
once_row label one a (suc n) =
    once_cons (label a) (map label (range_with_len (a + 1) n))
    (λ c. let (i, low, e) = in_row label (a + 1) n (label a) c in let same = one a i e in omega arith)
    (once_row label one (a + 1) n)

module _ (label : ℕ → ℕ → Label) (places : List ℕ → ℕ) (one : (w i v j : ℕ) → label w i ≡ label v j → (w ≡ v) × (i ≡ j)) where
  abbrev rows_from : ℕ → Words → List Label
  rows_from w words = flat_map (λ (word : ℕ × List ℕ). map (label word.0) (range_with_len 0 (places word.1))) (enumerate_from w words)

  in_rows : (w : ℕ) (words : Words) (x : Label) → Contains (rows_from w words) x → (v : ℕ) × (i : ℕ) × (w ≤ v) × (x ≡ label v i)
  in_rows w [] x c = absurd (none_there x c)
  in_rows w (word ∷ words) x c = by_case (Contains-append_cases (map (label w) (range_with_len 0 (places word))) (rows_from (w + 1) words) x c) (in_rows (w + 1) words x)
    where
      by_case : Contains (map (label w) (range_with_len 0 (places word))) x ⊎ Contains (rows_from (w + 1) words) x → (Contains (rows_from (w + 1) words) x → (v : ℕ) × (i : ℕ) × (w + 1 ≤ v) × (x ≡ label v i)) → (v : ℕ) × (i : ℕ) × (w ≤ v) × (x ≡ label v i)
      by_case (inl d) later = let (i, low, e) = in_row (label w) 0 (places word) x d in (w, i, omega arith, e)
      by_case (inr d) later = let (v, i, low, e) = later d in (v, i, omega arith, e)

  once_rows : (w : ℕ) (words : Words) → HasNoRepeat (rows_from w words)
  once_rows w [] = once_none
  once_rows w (word ∷ words) =
      once_append (map (label w) (range_with_len 0 (places word))) (rows_from (w + 1) words)
      (once_row (label w) (λ i j e. (one w i w j e).1) 0 (places word))
      (once_rows (w + 1) words)
      (λ a c d.
      let (i, low, e) = in_row (label w) 0 (places word) a c in
      let (v, j, more, f) = in_rows (w + 1) words a d in
      let same = (one w i v j (sym e ∙ f)).0 in
      omega arith)

  pub once_words : (words : Words) → HasNoRepeat (word_labels label places words)
  once_words words = once_rows 0 words

at_equal : (xs ys : List Label) → xs ≡ ys → HasNoRepeat ys → HasNoRepeat xs
at_equal xs ys e h = subst (λ (ls : List Label). HasNoRepeat ls) (sym e) h

pub guard_labels_once : (code : Code) (l : Layout) (rails : ℕ) (labels : List Label) → AreGuardLabels code l rails labels → HasNoRepeat labels
guard_labels_once code l rails labels are = once_by_kind labels (record {
  given = are.given;
  stores = at_equal (filter is_store labels) _ are.stores (once_words store (λ w. length w + code.columns) (λ w i v j e. (cc e, cc e)) l.state);
  nexts = at_equal (filter is_next labels) _ are.nexts (once_words next (λ w. length w + code.columns) (λ w i v j e. (cc e, cc e)) l.state);
  checks = at_equal (filter is_check labels) _ are.checks (once_words check (λ w. code.columns) (λ w i v j e. (cc e, cc e)) l.output);
  rails = at_equal (filter is_rail labels) _ are.rail_labels (once_row rail (λ i j e. cc e) 0 rails);
  inner = at_equal (filter is_inner labels) _ are.inner (once_row inner (λ i j e. cc e) 0 (length (filter is_inner labels)));
})

-- ---- free labels

free_name : (n : Name) → IsTrue (not (is_reserved n)) → IsTrue (not (is_added n))
free_name n h = first (is_added n) _ h
  where
    first : (p q : Bool) → not (p || q) ≡ true → not p ≡ true
    first true q h = cc h
    first false q h = refl

free_label : (a : Label) → HasSmallNumbers a → AllByRecursion (λ n. IsTrue (not (is_reserved n))) (given_name a) → IsFreeLabel a
free_label (given n) small free = free_name n free.0
free_label (store w i) small free = small
free_label (next w i) small free = small
free_label (check w j) small free = small
free_label (rail i) small free = small
free_label (inner i) small free = small

pub free_labels : (labels : List Label) → AllByRecursion HasSmallNumbers labels → AllByRecursion (λ n. IsTrue (not (is_reserved n))) (flat_map given_name labels) → AreFreeLabels labels
free_labels [] small free = tt
free_labels (a ∷ labels) small free = (
  free_label a small.0 (All_front (λ n. IsTrue (not (is_reserved n))) (given_name a) (flat_map given_name labels) free),
  free_labels labels small.1 (All_back (λ n. IsTrue (not (is_reserved n))) (given_name a) (flat_map given_name labels) free),
)

-- ---- small numbers

all_of : {A : Type 0} (P : A → Type 0) (xs : List A) → ((x : A) → Contains xs x → P x) → AllByRecursion P xs
all_of P [] f = tt
all_of P (x ∷ xs) f = (f x (contains_head x xs), all_of P xs (λ y c. f y (contains_tail x y xs c)))

small_row : (label : ℕ → Label) (a n : ℕ) (x : Label) → Contains (map label (range_with_len a n)) x → (i : ℕ) × (i < a + n) × (x ≡ label i)
small_row label a zero x c = absurd (none_there x c)
small_row label a (suc n) x c = by_case (contains_cases (label a) x (map label (range_with_len (a + 1) n)) c) (small_row label (a + 1) n x)
  where
    by_case : (label a ≡ x) ⊎ Contains (map label (range_with_len (a + 1) n)) x → (Contains (map label (range_with_len (a + 1) n)) x → (i : ℕ) × (i < a + 1 + n) × (x ≡ label i)) → (i : ℕ) × (i < a + suc n) × (x ≡ label i)
    by_case (inl e) later = (a, omega arith, sym e)
    by_case (inr d) later = let (i, low, e) = later d in (i, omega arith, e)

small_rows : (label : ℕ → ℕ → Label) (places : List ℕ → ℕ) (most w : ℕ) (words : Words) (x : Label) → AllByRecursion (λ word. places word ≤ most) words → Contains (flat_map (λ (word : ℕ × List ℕ). map (label word.0) (range_with_len 0 (places word.1))) (enumerate_from w words)) x → (v : ℕ) × (i : ℕ) × (v < w + length words) × (i < most) × (x ≡ label v i)
small_rows label places most w [] x few c = absurd (none_there x c)
small_rows label places most w (word ∷ words) x few c =
    by_case (Contains-append_cases (map (label w) (range_with_len 0 (places word))) (flat_map (λ (word : ℕ × List ℕ). map (label word.0) (range_with_len 0 (places word.1))) (enumerate_from (w + 1) words)) x c)
    (small_rows label places most (w + 1) words x few.1)
  where
    by_case : Contains (map (label w) (range_with_len 0 (places word))) x ⊎ Contains (flat_map (λ (word : ℕ × List ℕ). map (label word.0) (range_with_len 0 (places word.1))) (enumerate_from (w + 1) words)) x
        → (Contains (flat_map (λ (word : ℕ × List ℕ). map (label word.0) (range_with_len 0 (places word.1))) (enumerate_from (w + 1) words)) x → (v : ℕ) × (i : ℕ) × (v < w + 1 + length words) × (i < most) × (x ≡ label v i))
        → (v : ℕ) × (i : ℕ) × (v < w + suc (length words)) × (i < most) × (x ≡ label v i)
    by_case (inl d) later = let (i, low, e) = small_row (label w) 0 (places word) x d in let h = few.0 in (w, i, omega arith, omega arith, e)
    by_case (inr d) later = let (v, i, high, low, e) = later d in (v, i, omega arith, low, e)

all_same : (words : Words) (P : Type 0) → P → AllByRecursion (λ (w : List ℕ). P) words
all_same [] P h = tt
all_same (w ∷ words) P h = (h, all_same words P h)

module _ (code : Code) (l : Layout) (rails : ℕ) (labels : List Label) (are : AreGuardLabels code l rails labels) (few : HasFewPlaces code l rails labels) where
  kept_few : (t : Label → Bool) (ls : List Label) → length (filter t ls) ≤ length ls
  kept_few t [] = omega arith
  kept_few t (a ∷ ls) = by_test (t a) (kept_few t ls)
    where
      by_test : (b : Bool) → length (filter t ls) ≤ length ls → length (cond b (a ∷ filter t ls) (filter t ls)) ≤ suc (length ls)
      by_test true h = omega arith
      by_test false h = omega arith

  small_label : (a : Label) → Contains labels a → HasSmallNumbers a
  small_label (given n) c = tt
  small_label (store w i) c =
      let (v, j, high, low, e) = small_rows store (λ w. length w + code.columns) (2 ^ 64) 0 l.state (store w i) few.places (subst (λ (ls : List Label). Contains ls (store w i)) are.stores (filter_head is_store (store w i) labels c refl)) in
      let first : w ≡ v = cc e in
      let second : i ≡ j = cc e in
      let h = few.state in
      (omega arith, omega arith)
  small_label (next w i) c =
      let (v, j, high, low, e) = small_rows next (λ w. length w + code.columns) (2 ^ 64) 0 l.state (next w i) few.places (subst (λ (ls : List Label). Contains ls (next w i)) are.nexts (filter_head is_next (next w i) labels c refl)) in
      let first : w ≡ v = cc e in
      let second : i ≡ j = cc e in
      let h = few.state in
      (omega arith, omega arith)
  small_label (check w i) c =
      let (v, j, high, low, e) = small_rows check (λ w. code.columns) (2 ^ 64) 0 l.output (check w i) (all_same l.output (code.columns ≤ 2 ^ 64) few.columns) (subst (λ (ls : List Label). Contains ls (check w i)) are.checks (filter_head is_check (check w i) labels c refl)) in
      let first : w ≡ v = cc e in
      let second : i ≡ j = cc e in
      let h = few.output in
      (omega arith, omega arith)
  small_label (rail i) c =
      let (j, low, e) = small_row rail 0 rails (rail i) (subst (λ (ls : List Label). Contains ls (rail i)) are.rail_labels (filter_head is_rail (rail i) labels c refl)) in
      let same : i ≡ j = cc e in
      let h = few.few_rails in
      omega arith
  small_label (inner i) c =
      let (j, low, e) = small_row inner 0 (length (filter is_inner labels)) (inner i) (subst (λ (ls : List Label). Contains ls (inner i)) are.inner (filter_head is_inner (inner i) labels c refl)) in
      let same : i ≡ j = cc e in
      let h = few.few_labels in
      let k = kept_few is_inner labels in
      omega arith

  pub guard_labels_small : AllByRecursion HasSmallNumbers labels
  guard_labels_small = all_of HasSmallNumbers labels small_label

  pub guard_names_distinct : AllByRecursion (λ n. IsTrue (not (is_reserved n))) (flat_map given_name labels) → IsTrue (are_distinct (map label_name labels))
  guard_names_distinct free = distinct_names labels (free_labels labels guard_labels_small free) (guard_labels_once code l rails labels are)
