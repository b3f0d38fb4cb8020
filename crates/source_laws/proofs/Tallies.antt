-- How many marked gates there are, by the statements that own them.
use Rattle.std.proofs.Common.{◌≡◌, refl, sym, ◌∙◌, ap, subst, ℕ, zero, suc, ◌+◌, ◌<◌, ◌≤◌, List, [], ◌∷◌, ◌++◌, length, get_or, replicate, ◌-◌, Bool, true, false, cond, Some, ◌==◌, arith, eq-eqb, Contains}
use Rattle.std.proofs.lemmas.Bool.{eqb-true, ne_eqb}
use Rattle.std.proofs.lemmas.List.{length-replicate, get_or-replicate}
use Rattle.std.proofs.lemmas.Option.{slice_get-get_or, slice_get_within}
use Rattle.std.specs.Prelude.{IsTrue, ◌↔◌, slice_get}
use Rattle.std.specs.List.{AllZip, range_with_len}
use Rattle.netlist_spec.specs.Cones.{marked_sum}

-- ---- elements by their place

pub get_front : {A : Type 0} (xs ys : List A) (j : ℕ) (x : A) → slice_get xs j ≡ Some x → slice_get (xs ++ ys) j ≡ Some x
get_front [] ys j x e = cc e
get_front (y ∷ xs) ys zero x e = e
get_front (y ∷ xs) ys (suc j) x e = get_front xs ys j x e

pub get_from_front : {A : Type 0} (xs ys : List A) (j : ℕ) (x : A) → j < length xs → slice_get (xs ++ ys) j ≡ Some x → slice_get xs j ≡ Some x
get_from_front [] ys j x h e = absurd (omega arith)
get_from_front (y ∷ xs) ys zero x h e = e
get_from_front (y ∷ xs) ys (suc j) x h e = get_from_front xs ys j x (omega arith) e

pub get_back : {A : Type 0} (xs ys : List A) (j : ℕ) → slice_get (xs ++ ys) (length xs + j) ≡ slice_get ys j
get_back [] ys j = ap (slice_get ys) (let e : 0 + j ≡ j = omega arith in e)
get_back (x ∷ xs) ys j = ap (slice_get (x ∷ (xs ++ ys))) (let e : suc (length xs) + j ≡ suc (length xs + j) = omega arith in e) ∙ get_back xs ys j

pub get_replicate : (c o j : ℕ) → j < c → slice_get (replicate c o) j ≡ Some o
get_replicate c o j h =
    let n = length-replicate c o in
    let within : j < length (replicate c o) = omega arith in
    slice_get-get_or (replicate c o) j o within ∙ ap (λ (x : ℕ). Some x) (get_or-replicate c j o o h)

-- an element behind the front of a list that ends with copies
pub get_copy : (owners : List ℕ) (c o j p : ℕ) → length owners ≤ j → slice_get (owners ++ replicate c o) j ≡ Some p → p ≡ o
get_copy owners c o j p h e =
    let i : ℕ = j - length owners in
    let at : slice_get (replicate c o) (j - length owners) ≡ Some p = sym (get_back owners (replicate c o) (j - length owners)) ∙ (ap (slice_get (owners ++ replicate c o)) (let same : length owners + (j - length owners) ≡ j = omega arith in same) ∙ e) in
    let within : j - length owners < length (replicate c o) = slice_get_within (replicate c o) (j - length owners) p at in
    let n = length-replicate c o in
    let is_o : slice_get (replicate c o) (j - length owners) ≡ Some o = get_replicate c o (j - length owners) (omega arith) in
    cc (at, is_o)

pub get_new : (owners : List ℕ) (c o j : ℕ) → length owners ≤ j → j < length owners + c → slice_get (owners ++ replicate c o) j ≡ Some o
get_new owners c o j h k =
    ap (slice_get (owners ++ replicate c o)) (let same : j ≡ length owners + (j - length owners) = omega arith in same)
    ∙ (get_back owners (replicate c o) (j - length owners) ∙ get_replicate c o (j - length owners) (omega arith))

-- ---- how often an owner stands in a list

abbrev pub times : ℕ → List ℕ → ℕ
times i [] = 0
times i (o ∷ os) = cond (o == i) 1 0 + times i os

pub times_append : (i : ℕ) (os ps : List ℕ) → times i (os ++ ps) ≡ times i os + times i ps
times_append i [] ps = omega arith
times_append i (o ∷ os) ps = let e = times_append i os ps in omega arith

times_none : (i : ℕ) (os : List ℕ) → (Contains os i → ⊥) → times i os ≡ 0
times_none i [] f = refl
times_none i (o ∷ os) f = by_case (o == i) refl (times_none i os (λ c. f (suc c.0, (let h = c.1 in omega arith), c.2)))
  where
    by_case : (b : Bool) → (o == i) ≡ b → times i os ≡ 0 → cond b 1 0 + times i os ≡ 0
    by_case true e h = absurd (f (0, omega arith, eqb-true o i e))
    by_case false e h = omega arith

pub times_absent : (i : ℕ) (os : List ℕ) → (Contains os i → ⊥) → times i os ≡ 0
times_absent = times_none

pub times_few : (i : ℕ) (os : List ℕ) → times i os ≤ length os
times_few i [] = omega arith
times_few i (o ∷ os) = by_case (o == i) (times_few i os)
  where
    by_case : (b : Bool) → times i os ≤ length os → cond b 1 0 + times i os ≤ length (o ∷ os)
    by_case true h = omega arith
    by_case false h = omega arith

pub times_copies : (i c o : ℕ) → times i (replicate c o) ≤ c
times_copies i c o = let a = times_few i (replicate c o) in let b = length-replicate c o in omega arith

pub times_other : (i c o : ℕ) → (o ≡ i → ⊥) → times i (replicate c o) ≡ 0
times_other i zero o f = refl
times_other i (suc c) o f = ap (λ (b : Bool). cond b 1 0 + times i (replicate c o)) (ne_eqb o i f) ∙ (let e = times_other i c o f in omega arith)

-- ---- sums

abbrev pub tally : List Bool → List ℕ → ℕ
tally marks [] = 0
tally marks (o ∷ os) = cond (get_or marks o false) 1 0 + tally marks os

-- the sum of f over the places that are marked, from a place on
abbrev sum_at : ℕ → List Bool → (ℕ → ℕ) → ℕ
sum_at start [] f = 0
sum_at start (c ∷ cs) f = cond c (f start) 0 + sum_at (start + 1) cs f

sum_at_add : (start : ℕ) (cs : List Bool) (f g : ℕ → ℕ) → sum_at start cs (λ i. f i + g i) ≡ sum_at start cs f + sum_at start cs g
sum_at_add start [] f g = refl
sum_at_add start (true ∷ cs) f g = let e = sum_at_add (start + 1) cs f g in omega arith
sum_at_add start (false ∷ cs) f g = let e = sum_at_add (start + 1) cs f g in omega arith

counts : (b : Bool) → b ≡ true → 1 ≤ cond b 1 0
counts true h = omega arith
counts false h = cc h

sum_at_one : (start k o : ℕ) (cs : List Bool) → o ≡ start + k → cond (get_or cs k false) 1 0 ≤ sum_at start cs (λ i. cond (o == i) 1 0)
sum_at_one start k o [] e = omega arith
sum_at_one start zero o (c ∷ cs) e = by_case c (eq-eqb o start (omega arith))
  where
    by_case : (c : Bool) → (o == start) ≡ true → cond c 1 0 ≤ cond c (cond (o == start) 1 0) 0 + sum_at (start + 1) cs (λ i. cond (o == i) 1 0)
    by_case true h = let one : 1 ≤ cond (o == start) 1 0 = counts (o == start) h in omega arith
    by_case false h = omega arith
sum_at_one start (suc k) o (c ∷ cs) e = let rest = sum_at_one (start + 1) k o cs (omega arith) in omega arith

tally_within : (marks : List Bool) (os : List ℕ) → tally marks os ≤ sum_at 0 marks (λ i. times i os)
tally_within marks [] = omega arith
tally_within marks (o ∷ os) =
    let a = sum_at_one 0 o o marks (omega arith) in
    let b = tally_within marks os in
    let c = sum_at_add 0 marks (λ i. cond (o == i) 1 0) (λ i. times i os) in
    omega arith

module _ {A : Type 0} (cost : A → ℕ) where
  sum_at_costs : (start : ℕ) (xs : List A) (cs : List Bool) (f : ℕ → ℕ) → length cs ≡ length xs → ((i : ℕ) (x : A) → slice_get xs i ≡ Some x → f (start + i) ≤ cost x) → sum_at start cs f ≤ marked_sum cost xs cs
  sum_at_costs start [] [] f e h = omega arith
  sum_at_costs start [] (c ∷ cs) f e h = absurd (omega arith)
  sum_at_costs start (x ∷ xs) [] f e h = absurd (omega arith)
  sum_at_costs start (x ∷ xs) (c ∷ cs) f e h =
      by_case c
      (subst (λ j. f j ≤ cost x) (let same : start + 0 ≡ start = omega arith in same) (h 0 x refl))
      (sum_at_costs (start + 1) xs cs f (omega arith) (λ i y g. subst (λ j. f j ≤ cost y) (let same : start + suc i ≡ (start + 1) + i = omega arith in same) (h (suc i) y g)))
    where
      by_case : (c : Bool) → f start ≤ cost x → sum_at (start + 1) cs f ≤ marked_sum cost xs cs → cond c (f start) 0 + sum_at (start + 1) cs f ≤ cond c (cost x) 0 + marked_sum cost xs cs
      by_case true a b = omega arith
      by_case false a b = omega arith

  -- Where no owner has more than its statement costs, the marked ones have no more than the marked statements cost.
  pub tally_costs : (xs : List A) (marks : List Bool) (os : List ℕ) → length marks ≡ length xs → ((i : ℕ) (x : A) → slice_get xs i ≡ Some x → times i os ≤ cost x) → tally marks os ≤ marked_sum cost xs marks
  tally_costs xs marks os e h =
      let a = tally_within marks os in
      let b = sum_at_costs 0 xs marks (λ i. times i os) e (λ i x g. subst (λ j. times j os ≤ cost x) (let same : i ≡ 0 + i = omega arith in same) (h i x g)) in
      omega arith

-- marked gates are no more than the owners that are marked
module _ (P : ℕ → Type 0) (marks : List Bool) where
  pub gates_tallied : (a : ℕ) (os : List ℕ) (bs : List Bool) → AllZip (λ i mark. IsTrue mark ↔ P i) (range_with_len a (length os)) bs
      → ((j o : ℕ) → slice_get os j ≡ Some o → P (a + j) → get_or marks o false ≡ true) → marked_sum (λ i. 1) (range_with_len a (length os)) bs ≤ tally marks os
  gates_tallied a [] bs z f = omega arith
  gates_tallied a (o ∷ os) [] z f = absurd z
  gates_tallied a (o ∷ os) (b ∷ bs) z f =
      by_case b (get_or marks o false) refl z.0
      (gates_tallied (a + 1) os bs z.1 (λ j p g h. f (suc j) p g (subst P (let same : (a + 1) + j ≡ a + suc j = omega arith in same) h)))
    where
      by_case : (b c : Bool) → get_or marks o false ≡ c → IsTrue b ↔ P a → marked_sum (λ i. 1) (range_with_len (a + 1) (length os)) bs ≤ tally marks os
          → cond b 1 0 + marked_sum (λ i. 1) (range_with_len (a + 1) (length os)) bs ≤ cond c 1 0 + tally marks os
      by_case true true e is h = omega arith
      by_case true false e is h =
          let t : get_or marks o false ≡ true = f 0 o refl (subst P (let same : a ≡ a + 0 = omega arith in same) (is.0 refl)) in
          cc (t, e)
      by_case false true e is h = omega arith
      by_case false false e is h = omega arith

pub zip_length : {A B : Type 0} (R : A → B → Type 0) (xs : List A) (ys : List B) → AllZip R xs ys → length ys ≡ length xs
zip_length R [] [] a = refl
zip_length R [] (y ∷ ys) a = absurd a
zip_length R (x ∷ xs) [] a = absurd a
zip_length R (x ∷ xs) (y ∷ ys) a = ap suc (zip_length R xs ys a.1)

-- the mark of a marked element
pub mark_at : {A : Type 0} (Q : A → Type 0) (xs : List A) (cs : List Bool) (i : ℕ) (x : A) → AllZip (λ x mark. IsTrue mark ↔ Q x) xs cs → slice_get xs i ≡ Some x → Q x → get_or cs i false ≡ true
mark_at Q [] cs i x z e q = cc e
mark_at Q (y ∷ xs) [] i x z e q = absurd z
mark_at Q (y ∷ xs) (c ∷ cs) zero x z e q = z.0.1 (subst Q (let same : x ≡ y = cc e in same) q)
mark_at Q (y ∷ xs) (c ∷ cs) (suc i) x z e q = mark_at Q xs cs i x z.1 e q
