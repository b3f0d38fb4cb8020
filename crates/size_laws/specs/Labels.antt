-- Labels that names tell apart.
use Rattle.std.specs.Prelude.{◌≡◌, ◌≢◌, ℕ, ◌+◌, ◌<◌, ◌≤◌, ◌^◌, Bool, true, false, List, map, filter, length, not, nat_eq, codes, IsTrue, AllPairs, ⊤}
use Rattle.std.specs.List.{AllByRecursion, starts_with, flat_map, enumerate_from, range_with_len}
use Rattle.netlist_spec.specs.Netlist.{Name, are_distinct}
use Rattle.guard_spec.specs.Codes.{Code}
use Rattle.guard_spec.specs.Words.{Words, Layout}
use Rattle.netlist_spec.specs.Written.{Label, given, store, next, check, rail, inner, given_name}

-- whether a name begins as those that a guard adds
abbrev pub is_added : Name → Bool
is_added n = starts_with nat_eq n (codes "guard:")

-- the numbers of a label have 64 bits
abbrev pub HasSmallNumbers : Label → Type 0
HasSmallNumbers (given n) = ⊤
HasSmallNumbers (store w i) = (w < 2 ^ 64) × (i < 2 ^ 64)
HasSmallNumbers (next w i) = (w < 2 ^ 64) × (i < 2 ^ 64)
HasSmallNumbers (check w j) = (w < 2 ^ 64) × (j < 2 ^ 64)
HasSmallNumbers (rail i) = i < 2 ^ 64
HasSmallNumbers (inner i) = i < 2 ^ 64

-- A given name doesn't begin as those that a guard adds, and numbers have 64 bits.
abbrev pub IsFreeLabel : Label → Type 0
IsFreeLabel (given n) = IsTrue (not (is_added n))
IsFreeLabel label = HasSmallNumbers label

abbrev pub AreFreeLabels : List Label → Type 0
AreFreeLabels labels = AllByRecursion IsFreeLabel labels

-- no label stands twice in the list
abbrev pub HasNoRepeat : List Label → Type 0
HasNoRepeat labels = AllPairs (λ a b. a ≢ b) labels

-- ---- the kinds of labels

abbrev pub is_store : Label → Bool
is_store (store w i) = true
is_store _ = false

abbrev pub is_next : Label → Bool
is_next (next w i) = true
is_next _ = false

abbrev pub is_check : Label → Bool
is_check (check w j) = true
is_check _ = false

abbrev pub is_rail : Label → Bool
is_rail (rail i) = true
is_rail _ = false

abbrev pub is_inner : Label → Bool
is_inner (inner i) = true
is_inner _ = false

-- No given name stands twice, and no label of any other kind.
pub record HasNoRepeatInKinds (labels : List Label) : Type 0 where
  pub given : IsTrue (are_distinct (flat_map given_name labels))
  pub stores : HasNoRepeat (filter is_store labels)
  pub nexts : HasNoRepeat (filter is_next labels)
  pub checks : HasNoRepeat (filter is_check labels)
  pub rails : HasNoRepeat (filter is_rail labels)
  pub inner : HasNoRepeat (filter is_inner labels)

-- a label for each place of some words, by word and then by place
abbrev pub word_labels : (ℕ → ℕ → Label) → (List ℕ → ℕ) → Words → List Label
word_labels label places words =
    flat_map (λ (word : ℕ × List ℕ). map (label word.0) (range_with_len 0 (places word.1))) (enumerate_from 0 words)

-- The labels of a guard, where those of each kind stand in order.
pub record AreGuardLabels (code : Code) (l : Layout) (rails : ℕ) (labels : List Label) : Type 0 where
  pub given : IsTrue (are_distinct (flat_map given_name labels))
  pub stores : filter is_store labels ≡ word_labels store (λ w. length w + code.columns) l.state
  pub nexts : filter is_next labels ≡ word_labels next (λ w. length w + code.columns) l.state
  pub checks : filter is_check labels ≡ word_labels check (λ w. code.columns) l.output
  pub rail_labels : filter is_rail labels ≡ map rail (range_with_len 0 rails)
  pub inner : filter is_inner labels ≡ map inner (range_with_len 0 (length (filter is_inner labels)))

-- There are so few words, places, rails and labels that their numbers have 64 bits.
pub record HasFewPlaces (code : Code) (l : Layout) (rails : ℕ) (labels : List Label) : Type 0 where
  pub state : length l.state ≤ 2 ^ 64
  pub output : length l.output ≤ 2 ^ 64
  pub places : AllByRecursion (λ w. length w + code.columns ≤ 2 ^ 64) l.state
  pub columns : code.columns ≤ 2 ^ 64
  pub few_rails : rails ≤ 2 ^ 64
  pub few_labels : length labels ≤ 2 ^ 64
