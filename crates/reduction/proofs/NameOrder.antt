-- What a search by halving finds among names in byte order.
use Rattle.std.proofs.Common.{◌≡◌, ℕ, zero, suc, ◌+◌, ◌<◌, false, List, [], ◌∷◌, length, get_or, map, None, Some, Result, Ok, Err, Ordering, Less, Equal, Greater, nat_cmp, is_eq, refl, sym, ap, ◌∙◌, inl, inr, arith}
use Rattle.std.specs.Cmp.Lexicographic.{slice_cmp}
use Rattle.std.specs.List.{find}
use Rattle.std.specs.List.Sorted.{IsStrictlySortedBy, IsSortedBy, IsBinarySearchResult, IsSearchInRange}
use Rattle.std.specs.Ordering.{is_lt, ordering_reverse}
use Rattle.std.specs.Prelude.{MatchResult}
use Rattle.std.proofs.lemmas.Bool.{cases_lt}
use Rattle.std.proofs.lemmas.Cmp.{nat_list_cmp_total, alike_right}
use Rattle.std.proofs.lemmas.List.{get_or-map, length-map}
use Rattle.std.proofs.lemmas.List.Sorted.{searchable_from_sorted}
use Rattle.std.proofs.lemmas.Map.Keys.{Less-from_sorted, sorted_tail}
use Rattle.std.proofs.lemmas.Map.Text.{is_eq-slice_cmp}
use Rattle.netlist_spec.specs.Netlist.{same_name}

module _ {X : Type 0} (name : X → List ℕ) (n : List ℕ) where
  matches : (x : X) (o : Ordering) → slice_cmp nat_cmp (name x) n ≡ o → same_name (name x) n ≡ is_eq o
  matches x o e = sym (is_eq-slice_cmp (name x) n) ∙ ap is_eq e

  -- an item of a later name is not the one that is looked for
  before : (xs : List X) (x : X) (i : ℕ) (d : X) → IsStrictlySortedBy (slice_cmp nat_cmp) (map name (x ∷ xs)) → i < length xs → slice_cmp nat_cmp (name (get_or xs i d)) n ≡ Equal → same_name (name x) n ≡ false
  before xs x i d ascending inside here =
      let y = name (get_or xs i d) in
      let count = length-map xs name in
      let at : get_or (map name xs) i n ≡ y = get_or-map name xs i d n inside in
      let less : slice_cmp nat_cmp (name x) (get_or (map name xs) i n) ≡ Less = Less-from_sorted (slice_cmp nat_cmp) (map name (x ∷ xs)) 0 (suc i) n ascending (omega arith) (omega arith) in
      matches x Less (sym (alike_right nat_list_cmp_total y n (name x) here) ∙ (sym (ap (slice_cmp nat_cmp (name x)) at) ∙ less))

  found_at : (xs : List X) (i : ℕ) (d : X) → IsStrictlySortedBy (slice_cmp nat_cmp) (map name xs) → i < length xs → slice_cmp nat_cmp (name (get_or xs i d)) n ≡ Equal
      → find (λ x. same_name (name x) n) xs ≡ Some (get_or xs i d)
  found_at [] i d ascending inside here = absurd (omega arith)
  found_at (x ∷ xs) zero d ascending inside here = rw (matches x Equal here) refl
  found_at (x ∷ xs) (suc i) d ascending inside here =
      let within : i < length xs = omega arith in
      rw (before xs x i d ascending within here) (found_at xs i d (sorted_tail (slice_cmp nat_cmp) (name x) (map name xs) ascending) within here)

  not_found : (xs : List X) → ((k : ℕ) (d : X) → k < length xs → same_name (name (get_or xs k d)) n ≡ false) → find (λ x. same_name (name x) n) xs ≡ None
  not_found [] none = refl
  not_found (x ∷ xs) none = rw (none 0 x (omega arith)) (not_found xs (λ k d inside. none (suc k) d (omega arith)))

  sorted_from_ascending : (xs : List X) → IsStrictlySortedBy (slice_cmp nat_cmp) (map name xs) → IsSortedBy (λ a b. is_lt (slice_cmp nat_cmp (name a) (name b))) xs
  sorted_from_ascending xs ascending k d low inside =
      let count = length-map xs name in
      let here : get_or (map name xs) k n ≡ name (get_or xs k d) = get_or-map name xs k d n (omega arith) in
      let next : get_or (map name xs) (k + 1) n ≡ name (get_or xs (k + 1) d) = get_or-map name xs (k + 1) d n inside in
      let less : slice_cmp nat_cmp (get_or (map name xs) k n) (get_or (map name xs) (k + 1) n) ≡ Less = Less-from_sorted (slice_cmp nat_cmp) (map name xs) k (k + 1) n ascending (omega arith) (omega arith) in
      let turned : slice_cmp nat_cmp (name (get_or xs (k + 1) d)) (name (get_or xs k d)) ≡ ordering_reverse Less =
      nat_list_cmp_total.antisymm (name (get_or xs (k + 1) d)) (name (get_or xs k d)) ∙ ap ordering_reverse (rw (here, next) at less) in
      ap is_lt turned

  -- The item of a name stands where the search says, and where it finds none there is none.
  pub found_by_halving : (xs : List X) (r : Result ℕ ℕ) → IsStrictlySortedBy (slice_cmp nat_cmp) (map name xs) → IsSearchInRange r (length xs) → IsBinarySearchResult (λ x. slice_cmp nat_cmp (name x) n) xs r
      → MatchResult r (λ i. (d : X) → find (λ x. same_name (name x) n) xs ≡ Some (get_or xs i d)) (λ _. find (λ x. same_name (name x) n) xs ≡ None)
  found_by_halving xs (Ok i) ascending inside found = λ d. found_at xs i d ascending inside (found d)
  found_by_halving xs (Err i) ascending inside found =
      let (less, greater) = found (searchable_from_sorted nat_list_cmp_total name xs n (sorted_from_ascending xs ascending)) in
      not_found xs (λ k d within. elim (cases_lt k i) [
        | inl early ↦ matches (get_or xs k d) Less (less k d (omega arith) early)
        | inr late ↦ matches (get_or xs k d) Greater (greater k d late within)
      ])
