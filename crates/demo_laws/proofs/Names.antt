-- The names of the demo design: a letter and a number below 256, and `load`.
use Rattle.std.proofs.Common.{◌≡◌, ◌≢◌, refl, sym, ◌∙◌, ap, ℕ, zero, suc, ◌+◌, ◌<◌, ◌≤◌, List, [], ◌∷◌, map, Bool, true, false, arith, drop, not}
use Rattle.std.proofs.Math.Nat.{zero-add}
use Rattle.std.specs.List.{range_with_len}
use Rattle.std.specs.Cmp.Lexicographic.{bytes_decides}
use Rattle.std.proofs.lemmas.Fmt.{decimal_injective}
use Rattle.netlist_spec.specs.Netlist.{Name, same_name}
use Rattle.netlist_spec.specs.Reads.{first_appearances}
use Rattle.program_spec.specs.Demo.{numbered}
use Rattle.netlist_spec.proofs.Occurrences.{one_if, occ}
use Rattle.netlist_spec.proofs.SomeValue.{filter_occ}

abbrev pub first_letter : Name → ℕ
first_letter [] = 0
first_letter (b ∷ bs) = b

pub number_back : (letter i j : ℕ) → i < 256 → j < 256 → numbered letter i ≡ numbered letter j → i ≡ j
number_back letter i j hi hj e = decimal_injective i j (omega arith) (omega arith) (ap (drop 1) e)

pub other_letter : (x y : Name) → x ≡ y → first_letter x ≡ first_letter y
other_letter x y e = ap first_letter e

-- ---- how often a name stands among those of a range

module _ (f : ℕ → Name) (x : Name) where
  pub nowhere : (a n : ℕ) → ((i : ℕ) → a ≤ i → i < a + n → f i ≡ x → ⊥) → occ x (map f (range_with_len a n)) ≡ 0
  nowhere a zero h = refl
  nowhere a (suc n) h = by_case (same_name x (f a)) refl (nowhere (a + 1) n (λ i low high. h i (omega arith) (omega arith)))
    where
      by_case : (b : Bool) → same_name x (f a) ≡ b → occ x (map f (range_with_len (a + 1) n)) ≡ 0 → one_if b + occ x (map f (range_with_len (a + 1) n)) ≡ 0
      by_case true e later = absurd (h a (omega arith) (omega arith) (sym ((bytes_decides x (f a)).0 e)))
      by_case false e later = zero-add (occ x (map f (range_with_len (a + 1) n))) ∙ later

  pub once_at_most : (bound : ℕ) → ((i j : ℕ) → i < bound → j < bound → f i ≡ f j → i ≡ j) → (a n : ℕ) → a + n ≤ bound → occ x (map f (range_with_len a n)) ≤ 1
  once_at_most bound once a zero h = omega arith
  once_at_most bound once a (suc n) h = by_case (same_name x (f a)) refl (once_at_most bound once (a + 1) n (omega arith))
    where
      by_case : (b : Bool) → same_name x (f a) ≡ b → occ x (map f (range_with_len (a + 1) n)) ≤ 1 → one_if b + occ x (map f (range_with_len (a + 1) n)) ≤ 1
      by_case true e later =
          let none : occ x (map f (range_with_len (a + 1) n)) ≡ 0 = nowhere (a + 1) n (λ i low high k. let same : i ≡ a = once i a (omega arith) (omega arith) (k ∙ (bytes_decides x (f a)).0 e) in omega arith) in
          omega arith
      by_case false e later = omega arith

-- names of one letter, each at most once
abbrev pub IsKind : ℕ → List Name → Type 0
IsKind letter ns = (x : Name) → (occ x ns ≤ 1) × (first_letter x ≢ letter → occ x ns ≡ 0)

pub kind_of : (letter : ℕ) (f : ℕ → Name) (n : ℕ) → ((i : ℕ) → first_letter (f i) ≡ letter) → ((i j : ℕ) → i < n → j < n → f i ≡ f j → i ≡ j) → IsKind letter (map f (range_with_len 0 n))
kind_of letter f n of once x =
    (once_at_most f x n once 0 n (omega arith), λ other. nowhere f x 0 n (λ i low high e. other (sym (other_letter (f i) x e) ∙ of i)))

pub kind_of_one : (x : Name) → IsKind (first_letter x) (x ∷ [])
kind_of_one y x = by_case (same_name x y) refl
  where
    by_case : (b : Bool) → same_name x y ≡ b → (one_if b + 0 ≤ 1) × (first_letter x ≢ first_letter y → one_if b + 0 ≡ 0)
    by_case true e = (omega arith, λ other. absurd (other (other_letter x y ((bytes_decides x y).0 e))))
    by_case false e = (omega arith, λ other. refl)

-- ---- first appearances

pub first_few : (n : Name) (ns : List Name) → occ n (first_appearances ns) ≤ occ n ns
first_few n [] = omega arith
first_few n (k ∷ ns) = let a = filter_occ n (λ m. not (same_name k m)) (first_appearances ns) in let b = first_few n ns in omega arith
