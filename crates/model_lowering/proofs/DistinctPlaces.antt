-- Distinct places, and what stands there together.
use Rattle.std.proofs.Common.{◌≡◌, ◌==◌, refl, ◌∙◌, ap, subst, ℕ, zero, suc, ◌+◌, ◌≤◌, cond, List, [], ◌∷◌, ◌++◌, map, count_by, Option, Some, None, slice_get, arith, inl, inr}
use Rattle.std.specs.Prelude.{sum_by, option_map}
use Rattle.std.specs.List.{cons_option, flat_map}
use Rattle.std.proofs.lemmas.List.Sums.{sum_by-cons, sum_by-append}
use Rattle.netlist_spec.specs.Netlist.{Name, Statement, Located, Model}
use Rattle.netlist_spec.proofs.Occurrences.{occ, occ_append}
use Rattle.net_order.proofs.OrderLemmas.{contained_counts}
use Rattle.source_laws.specs.Costs.{statements_of}
use Rattle.source_laws.proofs.Lists.{Among, contained, among_front}
use Rattle.source_loops.specs.Orders.{statements_at}

-- no place stands twice
abbrev pub Once : List ℕ → Type 0
Once [] = Unit {0}
Once (i ∷ is) = (Among i is → ⊥) × Once is

pub once_of : (is : List ℕ) → ((i : ℕ) → count_by (λ k. k == i) is ≤ 1) → Once is
once_of [] few = tt
once_of (i ∷ is) few = (
  λ h.
      let a = sum_by-append (λ (k : ℕ). cond (k == i) 1 0) (i ∷ []) is in
      let later = contained_counts is i (contained is i h) in
      let here = contained_counts (i ∷ []) i (0, omega arith, refl) in
      let all = few i in
      omega arith,
  once_of is (λ k.
      let a = sum_by-append (λ (j : ℕ). cond (j == k) 1 0) (i ∷ []) is in
      let all = few k in
      omega arith),
)

pub once_front : (is js : List ℕ) → Once (is ++ js) → Once is
once_front [] js o = tt
once_front (i ∷ is) js o = (λ h. o.0 (among_front is js i h), once_front is js o.1)

-- a place isn't one of those before it
pub not_before : (is js : List ℕ) (i : ℕ) → Once (is ++ i ∷ js) → Among i is → ⊥
not_before [] js i o h = h
not_before (k ∷ is) js i o (inl e) = o.0 (subst (λ j. Among k (is ++ j ∷ js)) e (here is))
  where
    here : (ks : List ℕ) → Among k (ks ++ k ∷ js)
    here [] = inl refl
    here (x ∷ ks) = inr (here ks)
not_before (k ∷ is) js i o (inr h) = not_before is js i o.1 h

module _ {A : Type 0} (f : A → ℕ) where
  abbrev weight : Option A → ℕ
  weight None = 0
  weight (Some x) = f x

  abbrev sum_at : List A → List ℕ → ℕ
  sum_at xs [] = 0
  sum_at xs (i ∷ is) = weight (slice_get xs i) + sum_at xs is

  -- the places behind the first, in the rest of a list
  abbrev later : List ℕ → List ℕ
  later [] = []
  later (zero ∷ is) = later is
  later (suc i ∷ is) = i ∷ later is

  later_among : (i : ℕ) (is : List ℕ) → Among i (later is) → Among (suc i) is
  later_among i [] h = absurd h
  later_among i (zero ∷ is) h = inr (later_among i is h)
  later_among i (suc k ∷ is) (inl e) = inl (ap suc e)
  later_among i (suc k ∷ is) (inr h) = inr (later_among i is h)

  later_once : (is : List ℕ) → Once is → Once (later is)
  later_once [] o = tt
  later_once (zero ∷ is) o = later_once is o.1
  later_once (suc i ∷ is) o = (λ h. o.0 (later_among i is h), later_once is o.1)

  without_first : (x : A) (xs : List A) (is : List ℕ) → (Among zero is → ⊥) → sum_at (x ∷ xs) is ≡ sum_at xs (later is)
  without_first x xs [] none = refl
  without_first x xs (zero ∷ is) none = absurd (none (inl refl))
  without_first x xs (suc i ∷ is) none = ap (λ n. weight (slice_get xs i) + n) (without_first x xs is (λ h. none (inr h)))

  first_once : (x : A) (xs : List A) (is : List ℕ) → Once is → sum_at (x ∷ xs) is ≤ f x + sum_at xs (later is)
  first_once x xs [] o = omega arith
  first_once x xs (zero ∷ is) o = let e = without_first x xs is o.0 in omega arith
  first_once x xs (suc i ∷ is) o = let h = first_once x xs is o.1 in omega arith

  nothing_at : (is : List ℕ) → sum_at [] is ≡ 0
  nothing_at [] = refl
  nothing_at (i ∷ is) = let e = nothing_at is in omega arith

  sum_within : (xs : List A) (is : List ℕ) → Once is → sum_at xs is ≤ sum_by f xs
  sum_within [] is o = let e = nothing_at is in omega arith
  sum_within (x ∷ xs) is o =
      let a = first_once x xs is o in
      let b = sum_within xs (later is) (later_once is o) in
      let c = sum_by-cons f x xs in
      omega arith

-- the statements at distinct places weigh no more than all
module _ (f : Statement → ℕ) (m : Model) where
  at_places : (is : List ℕ) → sum_by f (statements_at m is) ≡ sum_at (λ (l : Located). f l.what) m.statements is
  at_places [] = refl
  at_places (i ∷ is) = by_case (slice_get m.statements i) (at_places is)
    where
      by_case : (o : Option Located) → sum_by f (statements_at m is) ≡ sum_at (λ (l : Located). f l.what) m.statements is
          → sum_by f (cons_option (option_map (λ (l : Located). l.what) o) (statements_at m is)) ≡ weight (λ (l : Located). f l.what) o + sum_at (λ (l : Located). f l.what) m.statements is
      by_case None e = omega (arith, e)
      by_case (Some l) e = sum_by-cons f l.what (statements_at m is) ∙ ap (λ n. f l.what + n) e

  sum_of_map : (ls : List Located) → sum_by f (map (λ (l : Located). l.what) ls) ≡ sum_by (λ (l : Located). f l.what) ls
  sum_of_map [] = refl
  sum_of_map (l ∷ ls) =
      let a = sum_by-cons f l.what (map (λ (l : Located). l.what) ls) in
      let b = sum_by-cons (λ (l : Located). f l.what) l ls in
      let c = sum_of_map ls in
      omega arith

  pub statements_weigh : (is : List ℕ) → Once is → sum_by f (statements_at m is) ≤ sum_by f (statements_of m)
  statements_weigh is o =
      let a = at_places is in
      let b = sum_within (λ (l : Located). f l.what) m.statements is o in
      let c = sum_of_map m.statements in
      omega arith

-- ---- a name at two places

module _ (n : Name) {A : Type 0} (f : A → List Name) where
  pub occurs_at : (xs : List A) (i : ℕ) (x : A) → slice_get xs i ≡ Some x → occ n (f x) ≤ occ n (flat_map f xs)
  occurs_at [] i x e = cc e
  occurs_at (y ∷ xs) zero x e =
      let same : y ≡ x = cc e in
      let a : occ n (f y ++ flat_map f xs) ≡ occ n (f y) + occ n (flat_map f xs) = occ_append n (f y) (flat_map f xs) in
      let b : occ n (f y) ≡ occ n (f x) = ap (λ (z : A). occ n (f z)) same in
      omega arith
  occurs_at (y ∷ xs) (suc i) x e =
      let a : occ n (f y ++ flat_map f xs) ≡ occ n (f y) + occ n (flat_map f xs) = occ_append n (f y) (flat_map f xs) in
      let b = occurs_at xs i x e in
      omega arith

  pub occurs_twice : (xs : List A) (i j : ℕ) (x y : A) → (i ≡ j → ⊥) → slice_get xs i ≡ Some x → slice_get xs j ≡ Some y → occ n (f x) + occ n (f y) ≤ occ n (flat_map f xs)
  occurs_twice [] i j x y apart e g = cc e
  occurs_twice (z ∷ xs) zero zero x y apart e g = absurd (apart refl)
  occurs_twice (z ∷ xs) zero (suc j) x y apart e g =
      let same : z ≡ x = cc e in
      let a : occ n (f z ++ flat_map f xs) ≡ occ n (f z) + occ n (flat_map f xs) = occ_append n (f z) (flat_map f xs) in
      let b : occ n (f z) ≡ occ n (f x) = ap (λ (w : A). occ n (f w)) same in
      let c = occurs_at xs j y g in
      omega arith
  occurs_twice (z ∷ xs) (suc i) zero x y apart e g =
      let same : z ≡ y = cc g in
      let a : occ n (f z ++ flat_map f xs) ≡ occ n (f z) + occ n (flat_map f xs) = occ_append n (f z) (flat_map f xs) in
      let b : occ n (f z) ≡ occ n (f y) = ap (λ (w : A). occ n (f w)) same in
      let c = occurs_at xs i x e in
      omega arith
  occurs_twice (z ∷ xs) (suc i) (suc j) x y apart e g =
      let a : occ n (f z ++ flat_map f xs) ≡ occ n (f z) + occ n (flat_map f xs) = occ_append n (f z) (flat_map f xs) in
      let b = occurs_twice xs i j x y (λ s. apart (ap suc s)) e g in
      omega arith
