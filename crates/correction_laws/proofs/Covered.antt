-- Cones of a list that are covered by so many marks.
use Rattle.std.proofs.Common.{◌≡◌, refl, ap, subst, ℕ, zero, suc, ◌+◌, ◌<◌, ◌≤◌, ◌⊎◌, inl, inr, Bool, true, false, ◌||◌, cond, List, [], ◌∷◌, ◌++◌, length, get_or, replicate, sum, arith, Contains}
use Rattle.std.specs.List.{AllZip, range_with_len}
use Rattle.std.proofs.lemmas.List.Sums.{sum_by-cons}
use Rattle.netlist_spec.specs.Gates.{GateList}
use Rattle.netlist_spec.specs.Cones.{AreMarked, marked_sum}
use Rattle.cone_split.specs.Cones.{IsInCone, is_root, is_read, IsConeSize}
use Rattle.cone_split.proofs.Cells.{contains_head, contains_cases}
use Rattle.cone_split.proofs.Sizes.{no_cone}

abbrev pub trues : List Bool → ℕ
trues [] = 0
trues (b ∷ bs) = cond b 1 0 + trues bs

-- each gate of the cone has a mark
abbrev pub Covers : GateList → List ℕ → List Bool → Type 0
Covers net roots ms = (i : ℕ) → i < length net.gates → IsInCone net roots (net.leaves + i) → get_or ms i false ≡ true

abbrev pub CoveredBy : GateList → ℕ → ℕ → Type 0
CoveredBy net m k = (ms : List Bool) × Covers net (m ∷ []) ms × (trues ms ≤ k)

-- ---- marks of either kind

either : List Bool → List Bool → List Bool
either [] ks = ks
either (m ∷ ms) [] = m ∷ ms
either (m ∷ ms) (k ∷ ks) = (m || k) ∷ either ms ks

either_few : (ms ks : List Bool) → trues (either ms ks) ≤ trues ms + trues ks
unfolding either
either_few [] ks = omega arith
either_few (m ∷ ms) [] = omega arith
either_few (true ∷ ms) (true ∷ ks) = let h = either_few ms ks in omega arith
either_few (true ∷ ms) (false ∷ ks) = let h = either_few ms ks in omega arith
either_few (false ∷ ms) (true ∷ ks) = let h = either_few ms ks in omega arith
either_few (false ∷ ms) (false ∷ ks) = let h = either_few ms ks in omega arith

either_left : (ms ks : List Bool) (i : ℕ) → get_or ms i false ≡ true → get_or (either ms ks) i false ≡ true
unfolding either
either_left [] ks i e = cc e
either_left (m ∷ ms) [] i e = e
either_left (true ∷ ms) (k ∷ ks) zero e = refl
either_left (false ∷ ms) (k ∷ ks) zero e = cc e
either_left (m ∷ ms) (k ∷ ks) (suc i) e = either_left ms ks i e

either_right : (ms ks : List Bool) (i : ℕ) → get_or ks i false ≡ true → get_or (either ms ks) i false ≡ true
unfolding either
either_right [] ks i e = e
either_right (m ∷ ms) [] i e = cc e
either_right (true ∷ ms) (k ∷ ks) zero e = refl
either_right (false ∷ ms) (k ∷ ks) zero e = e
either_right (m ∷ ms) (k ∷ ks) (suc i) e = either_right ms ks i e

in_either : (net : GateList) (x : ℕ) (xs : List ℕ) (n : ℕ) → IsInCone net (x ∷ xs) n → IsInCone net (x ∷ []) n ⊎ IsInCone net xs n
in_either net x xs n (is_root c) = elim (contains_cases x n xs c) [ inl e ↦ inl (is_root (subst (λ (q : ℕ). Contains (x ∷ []) q) e (contains_head x []))) | inr d ↦ inr (is_root d) ]
in_either net x xs n (is_read {n = k} inside r) = elim (in_either net x xs k inside) [ inl a ↦ inl (is_read a r) | inr b ↦ inr (is_read b r) ]

all_covered : (net : GateList) (roots costs : List ℕ) → AllZip (CoveredBy net) roots costs → (ms : List Bool) × Covers net roots ms × (trues ms ≤ sum costs)
all_covered net [] [] all = ([], (λ i h inside. absurd (no_cone net (net.leaves + i) inside)), omega arith)
all_covered net [] (c ∷ costs) all = absurd all
all_covered net (x ∷ roots) [] all = absurd all
all_covered net (x ∷ roots) (c ∷ costs) all =
    let (ms, covers, few) = all.0 in
    let (ks, rest, less) = all_covered net roots costs all.1 in
    let total = sum_by-cons (λ (k : ℕ). k) c costs in
    let both = either_few ms ks in
    (either ms ks, (λ i h inside. elim (in_either net x roots (net.leaves + i) inside) [ inl a ↦ either_left ms ks i (covers i h a) | inr b ↦ either_right ms ks i (rest i h b) ]), omega arith)

-- ---- sizes

few_marks : (P : ℕ → Type 0) (b n : ℕ) (bs ms : List Bool) → AreMarked P (range_with_len b n) bs → ((i : ℕ) → i < n → P (b + i) → get_or ms i false ≡ true) → marked_sum (λ i. 1) (range_with_len b n) bs ≤ trues ms
few_marks P b zero bs ms marked h = omega arith
few_marks P b (suc n) [] ms marked h = absurd marked
few_marks P b (suc n) (false ∷ bs) [] marked h =
    let rest = few_marks P (b + 1) n bs [] marked.1 (λ i less p. h (suc i) (omega arith) (subst P (let e : (b + 1) + i ≡ b + suc i = omega arith in e) p)) in
    omega arith
few_marks P b (suc n) (true ∷ bs) [] marked h = let e : false ≡ true = h 0 (omega arith) (subst P (let e : b ≡ b + 0 = omega arith in e) (marked.0.0 refl)) in cc e
few_marks P b (suc n) (false ∷ bs) (m ∷ ms) marked h =
    let rest = few_marks P (b + 1) n bs ms marked.1 (λ i less p. h (suc i) (omega arith) (subst P (let e : (b + 1) + i ≡ b + suc i = omega arith in e) p)) in
    omega arith
few_marks P b (suc n) (true ∷ bs) (true ∷ ms) marked h =
    let rest = few_marks P (b + 1) n bs ms marked.1 (λ i less p. h (suc i) (omega arith) (subst P (let e : (b + 1) + i ≡ b + suc i = omega arith in e) p)) in
    omega arith
few_marks P b (suc n) (true ∷ bs) (false ∷ ms) marked h = let e : false ≡ true = h 0 (omega arith) (subst P (let e : b ≡ b + 0 = omega arith in e) (marked.0.0 refl)) in cc e

-- The size of a cone is at most what its roots are covered by together.
pub size_covered : (net : GateList) (roots costs : List ℕ) (n : ℕ) → AllZip (CoveredBy net) roots costs → IsConeSize net roots n → n ≤ sum costs
size_covered net roots costs n all (bs, marked, e) =
    let (ms, covers, few) = all_covered net roots costs all in
    let h = few_marks (λ i. IsInCone net roots (net.leaves + i)) 0 (length net.gates) bs ms marked
    (λ i less p. covers i less (subst (λ (k : ℕ). IsInCone net roots (net.leaves + k)) (let e : 0 + i ≡ i = omega arith in e) p)) in
    omega arith

-- ---- marks in a row

pub trues_append : (xs ys : List Bool) → trues (xs ++ ys) ≡ trues xs + trues ys
trues_append [] ys = let e : trues ys ≡ 0 + trues ys = omega arith in e
trues_append (x ∷ xs) ys = let h = trues_append xs ys in omega arith

pub trues_replicate : (n : ℕ) (b : Bool) → trues (replicate n b) ≡ cond b n 0
trues_replicate zero true = refl
trues_replicate zero false = refl
trues_replicate (suc n) true = let h = trues_replicate n true in omega arith
trues_replicate (suc n) false = let h = trues_replicate n false in omega arith

-- marks that are exact
pub exact_few : (P : ℕ → Type 0) (b n : ℕ) (bs : List Bool) → AreMarked P (range_with_len b n) bs → trues bs ≡ marked_sum (λ i. 1) (range_with_len b n) bs
exact_few P b zero [] marked = refl
exact_few P b zero (m ∷ bs) marked = absurd marked
exact_few P b (suc n) [] marked = absurd marked
exact_few P b (suc n) (m ∷ bs) marked = ap (λ (k : ℕ). cond m 1 0 + k) (exact_few P (b + 1) n bs marked.1)

pub exact_at : (P : ℕ → Type 0) (b n : ℕ) (bs : List Bool) (i : ℕ) → AreMarked P (range_with_len b n) bs → i < n → P (b + i) → get_or bs i false ≡ true
exact_at P b zero bs i marked h p = absurd (omega arith)
exact_at P b (suc n) [] i marked h p = absurd marked
exact_at P b (suc n) (m ∷ bs) zero marked h p = marked.0.1 (subst P (let e : b + 0 ≡ b = omega arith in e) p)
exact_at P b (suc n) (m ∷ bs) (suc i) marked h p = exact_at P (b + 1) n bs i marked.1 (omega arith) (subst P (let e : b + suc i ≡ (b + 1) + i = omega arith in e) p)
