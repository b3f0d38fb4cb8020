-- Words that are partitions, and what the settings ask for.
use Rattle.std.proofs.Common.{◌≡◌, ◌≢◌, refl, sym, ◌∙◌, ap, ap₂, subst, ℕ, zero, suc, ◌+◌, ◌<◌, ◌≤◌, List, [], ◌∷◌, ◌++◌, map, find, length, Bool, true, false, ◌||◌, not, cond, get_or, eqb, arith, Option, Some, None, ◌⊎◌, inl, inr, append_assoc, append-nil}
use Rattle.std.specs.Prelude.{count_by, IfSome}
use Rattle.std.specs.List.{AllByRecursion, AllZip, range_with_len}
use Rattle.std.proofs.lemmas.List.Sums.{sum_by-cons}
use Rattle.netlist_spec.specs.Netlist.{Name, same_name, stands_in, are_distinct}
use Rattle.netlist_spec.proofs.OneValue.{passes_both, fails_first, not_false, All_append}
use Rattle.imp_text.proofs.NamesLemmas.{same_name_self, same_name-comm, same_name-true, stands_in-append}
use Rattle.guard_spec.specs.SettingsFile.{AreWordNames}
use Rattle.guard_spec.specs.Words.{Words, all_numbers, AreNamed, AreWords, IsPartition, named_in, name_again, net_left_out, unknown_name}
use Rattle.encode_state.specs.Listed.{net_at, nets_at, Numbers, AreFound, first_left_out, first_unknown}
use Rattle.encode_state.proofs.ListedLemmas.{either, zip_length, words_known, names_of_words, numbers_within}
use Rattle.encode_state.proofs.MarkLemmas.{same_number}
use Rattle.encode_state.proofs.TakenLemmas.{taken_lengths}

-- ---- all nets in order

range_of : (front ns : List Name) (a n : ℕ) → a ≡ length front → n ≡ length ns → nets_at (front ++ ns) (range_with_len a n) ≡ ns
range_of front [] a n e f = rw f refl
range_of front (m ∷ ms) a n e f =
    rw f (ap₂ (λ x xs. x ∷ xs) (here front a e)
    (ap (λ ns. nets_at ns (range_with_len (a + 1) (length ms))) (sym (append_assoc front (m ∷ []) ms))
    ∙ range_of (front ++ m ∷ []) ms (a + 1) (length ms) (longer front a e) refl))
  where
    here : (front : List Name) (a : ℕ) → a ≡ length front → net_at (front ++ m ∷ ms) a ≡ m
    here [] a e = rw e refl
    here (x ∷ xs) a e = rw e (here xs (length xs) refl)

    longer : (front : List Name) (a : ℕ) → a ≡ length front → a + 1 ≡ length (front ++ m ∷ [])
    longer [] a e = omega arith
    longer (x ∷ xs) a e = let h = longer xs (length xs) refl in omega arith

pub all_nets : (nets : List Name) → nets_at nets (range_with_len 0 (length nets)) ≡ nets
all_nets nets = range_of [] nets 0 (length nets) refl refl

-- distinct names don't come again
none_again : (listed names : List Name) → are_distinct names ≡ true → ((n : Name) → stands_in n listed ≡ true → stands_in n names ≡ false) → name_again listed names ≡ None
none_again listed [] d apart = refl
none_again listed (m ∷ ms) d apart = elim (either (stands_in m listed)) [
  | inl s ↦ (let h = apart m s in let g : same_name m m ≡ false = (fails_first (same_name m m) (stands_in m ms) h).0 in absurd (cc (same_name_self m, g)))
  | inr s ↦
      let parts = passes_both (not (stands_in m ms)) (are_distinct ms) d in
      rw s (none_again (m ∷ listed) ms parts.1 (λ n there. at n (either (same_name n m)) there parts.0))
]
  where
    not_true : (b : Bool) → not b ≡ true → b ≡ false
    not_true true e = cc e
    not_true false e = refl

    at : (n : Name) → (same_name n m ≡ true) ⊎ (same_name n m ≡ false) → stands_in n (m ∷ listed) ≡ true → not (stands_in m ms) ≡ true → stands_in n ms ≡ false
    at n (inl e) there absent = ap (λ k. stands_in k ms) (same_name-true n m e) ∙ not_true (stands_in m ms) absent
    at n (inr e) there absent =
        let earlier : stands_in n listed ≡ true = rw e at there in
        (fails_first (same_name n m) (stands_in n ms) (apart n earlier)).1

-- names that all stand in a list
none_out : (front ns : List Name) → first_left_out ns (front ++ ns) ≡ None
none_out front [] = refl
none_out front (m ∷ ms) =
    let there : stands_in m (front ++ m ∷ ms) ≡ true = stands_in-append m front (m ∷ ms) ∙ (ap (λ b. stands_in m front || (b || stands_in m ms)) (same_name_self m) ∙ or_true (stands_in m front)) in
    rw there (ap (first_left_out ms) (sym (append_assoc front (m ∷ []) ms)) ∙ none_out (front ++ m ∷ []) ms)
  where
    or_true : (b : Bool) → (b || true) ≡ true
    or_true true = refl
    or_true false = refl

-- ---- each number once

module _ (n : Name) where
  abbrev count_of : List Name → ℕ
  count_of names = count_by (λ m. same_name m n) names

  one_first : (m : Name) (ms : List Name) (b : Bool) → same_name m n ≡ b → count_of (m ∷ ms) ≡ cond b 1 0 + count_of ms
  one_first m ms b e = sum_by-cons (λ k. cond (same_name k n) 1 0) m ms ∙ ap (λ c. cond c 1 0 + count_of ms) e

  not_there : (names : List Name) → stands_in n names ≡ false → count_of names ≡ 0
  not_there [] absent = refl
  not_there (m ∷ ms) absent =
      let parts = fails_first (same_name n m) (stands_in n ms) absent in
      let h = not_there ms parts.1 in
      (let first : count_of (m ∷ ms) ≡ 0 + count_of ms = one_first m ms false (same_name-comm m n ∙ parts.0) in omega (arith, h, first))

  stays_away : (listed names : List Name) → name_again listed names ≡ None → stands_in n listed ≡ true → stands_in n names ≡ false
  stays_away listed [] none there = refl
  stays_away listed (m ∷ ms) none there = elim (either (stands_in m listed)) [
    | inl s ↦ (let h = rw s at none in absurd (cc h))
    | inr s ↦
        let rest : name_again (m ∷ listed) ms ≡ None = rw s at none in
        let away : stands_in n ms ≡ false = stays_away (m ∷ listed) ms rest (rw there (or_true (same_name n m))) in
        at (either (same_name n m)) s away
  ]
    where
      or_true : (b : Bool) → (b || true) ≡ true
      or_true true = refl
      or_true false = refl

      at : (same_name n m ≡ true) ⊎ (same_name n m ≡ false) → stands_in m listed ≡ false → stands_in n ms ≡ false → stands_in n (m ∷ ms) ≡ false
      at (inl e) s away = (let h : stands_in n listed ≡ false = ap (λ k. stands_in k listed) (same_name-true n m e) ∙ s in absurd (cc (there, h)))
      at (inr e) s away = rw e away

  once : (listed names : List Name) → name_again listed names ≡ None → stands_in n names ≡ true → count_of names ≡ 1
  once listed [] none there = absurd (cc there)
  once listed (m ∷ ms) none there = elim (either (stands_in m listed)) [
    | inl s ↦ (let h = rw s at none in absurd (cc h))
    | inr s ↦
        let rest : name_again (m ∷ listed) ms ≡ None = rw s at none in
        at (either (same_name n m)) rest there (once (m ∷ listed) ms rest)
  ]
    where
      at : (same_name n m ≡ true) ⊎ (same_name n m ≡ false) → name_again (m ∷ listed) ms ≡ None → stands_in n (m ∷ ms) ≡ true → (stands_in n ms ≡ true → count_of ms ≡ 1) → count_of (m ∷ ms) ≡ 1
      at (inl e) rest there behind =
          let away : stands_in n ms ≡ false = stays_away (m ∷ listed) ms rest (rw e refl) in
          let h = not_there ms away in
          let first : count_of (m ∷ ms) ≡ 1 + count_of ms = one_first m ms true (same_name-comm m n ∙ e) in
          omega (arith, h, first)
      at (inr e) rest there behind =
          let there_behind : stands_in n ms ≡ true = rw e at there in
          let h = behind there_behind in
          let first : count_of (m ∷ ms) ≡ 0 + count_of ms = one_first m ms false (same_name-comm m n ∙ e) in
          omega (arith, h, first)

-- a net that isn't left out
pub stands_somewhere : (nets listed : List Name) (i : ℕ) → first_left_out nets listed ≡ None → i < length nets → stands_in (net_at nets i) listed ≡ true
stands_somewhere [] listed i none inside = absurd (omega arith)
stands_somewhere (m ∷ ms) listed zero none inside = elim (either (stands_in m listed)) [
  | inl s ↦ s
  | inr s ↦ (let h = rw s at none in absurd (cc h))
]
stands_somewhere (m ∷ ms) listed (suc i) none inside = elim (either (stands_in m listed)) [
  | inl s ↦ stands_somewhere ms listed i (rw s at none) (omega arith)
  | inr s ↦ (let h = rw s at none in absurd (cc h))
]

-- as many numbers as names
count_same : (nets : List Name) (i : ℕ) (numbers : List ℕ) → are_distinct nets ≡ true → i < length nets → AllByRecursion (λ j. j < length nets) numbers
    → count_by (λ j. eqb j i) numbers ≡ count_by (λ m. same_name m (net_at nets i)) (nets_at nets numbers)
count_same nets i [] d inside within = refl
count_same nets i (j ∷ js) d inside within =
    sum_by-cons (λ k. cond (eqb k i) 1 0) j js
    ∙ (ap₂ (λ b c. cond b 1 0 + c) (same_number nets j i d within.0 inside) (count_same nets i js d inside within.1)
    ∙ sym (sum_by-cons (λ m. cond (same_name m (net_at nets i)) 1 0) (net_at nets j) (nets_at nets js)))

-- ---- the words that are found

range_within : (a n k : ℕ) → a + n ≤ k → AllByRecursion (λ i. i < k) (range_with_len a n)
range_within a zero k h = tt
range_within a (suc n) k h = (omega arith, range_within (a + 1) n k (omega arith))

words_within : (nets : List Name) (named : List (List Name)) (words : Words) → AreNamed nets named words → AllByRecursion (λ i. i < length nets) (all_numbers words)
words_within nets [] [] a = tt
words_within nets [] (w ∷ ws) a = absurd a
words_within nets (names ∷ named) [] a = absurd a
words_within nets (names ∷ named) (w ∷ ws) a = All_append (λ i. i < length nets) w (all_numbers ws) (numbers_within nets names w a.0) (words_within nets named ws a.1)

named_lengths : (k : ℕ) (nets : List Name) (named : List (List Name)) (words : Words) → AreNamed nets named words → AreWordNames k named → AllByRecursion (λ w. (1 ≤ length w) × (length w ≤ k)) words
named_lengths k nets [] [] a s = tt
named_lengths k nets [] (w ∷ ws) a s = absurd a
named_lengths k nets (names ∷ named) [] a s = absurd a
named_lengths k nets (names ∷ named) (w ∷ ws) a s =
    let e = zip_length (Numbers nets) names w a.0 in
    let (some, most, each) = s.0 in
    ((omega arith, omega arith), named_lengths k nets named ws a.1 s.1)

module _ (k : ℕ) (nets : List Name) where
  pub found_within : (listed : Option (List (List Name))) (words : Words) → AreFound k nets listed words → AllByRecursion (λ i. i < length nets) (all_numbers words)
  found_within None words f = subst (λ (is : List ℕ). AllByRecursion (λ i. i < length nets) is) (sym f.0) (range_within 0 (length nets) (length nets) (omega arith))
  found_within (Some named) words f = words_within nets named words f

  pub found_known : (listed : Option (List (List Name))) (words : Words) → AreFound k nets listed words → unknown_name nets listed ≡ None
  found_known None words f = refl
  found_known (Some named) words f = words_known nets named words f

  found_lengths : (listed : Option (List (List Name))) (words : Words) → 1 ≤ k → AreFound k nets listed words → IfSome listed (AreWordNames k) → AllByRecursion (λ w. (1 ≤ length w) × (length w ≤ k)) words
  found_lengths None words some f s = taken_lengths k words some f.1
  found_lengths (Some named) words some f s = named_lengths k nets named words f s

  module _ (d : are_distinct nets ≡ true) where
    -- the names that come again are those of the numbers
    pub found_again : (listed : Option (List (List Name))) (words : Words) → AreFound k nets listed words → name_again [] (named_in listed) ≡ name_again [] (nets_at nets (all_numbers words))
    found_again None words f = sym (ap (λ is. name_again [] (nets_at nets is)) f.0 ∙ (ap (name_again []) (all_nets nets) ∙ none_again [] nets d (λ n e. absurd (cc e))))
    found_again (Some named) words f = ap (name_again []) (names_of_words nets named words f)

    pub found_out : (listed : Option (List (List Name))) (words : Words) → AreFound k nets listed words → net_left_out nets listed ≡ first_left_out nets (nets_at nets (all_numbers words))
    found_out None words f = sym (ap (λ is. first_left_out nets (nets_at nets is)) f.0 ∙ (ap (first_left_out nets) (all_nets nets) ∙ none_out [] nets))
    found_out (Some named) words f = ap (first_left_out nets) (names_of_words nets named words f)

    pub is_partition : (listed : Option (List (List Name))) (words : Words) → 1 ≤ k → AreFound k nets listed words → IfSome listed (AreWordNames k)
        → name_again [] (nets_at nets (all_numbers words)) ≡ None → first_left_out nets (nets_at nets (all_numbers words)) ≡ None → IsPartition (length nets) k words
    is_partition listed words some f s none left =
        let within = found_within listed words f in
        record {
          lengths = found_lengths listed words some f s;
          each_once = λ i inside. count_same nets i (all_numbers words) d inside within ∙ once (net_at nets i) [] (nets_at nets (all_numbers words)) none (stands_somewhere nets (nets_at nets (all_numbers words)) i left inside);
          no_other = within;
        }

    pub are_words : (listed : Option (List (List Name))) (words : Words) → AreFound k nets listed words → IsPartition (length nets) k words → AreWords k nets listed words
    are_words None words f p = f
    are_words (Some named) words f p = (f, p)
