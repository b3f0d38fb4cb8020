-- The size of a cone.
use Rattle.std.proofs.Common.{◌≡◌, sym, ◌∙◌, subst, refl, ℕ, zero, suc, ◌+◌, ◌<◌, ◌≤◌, ◌⊎◌, ◌↔◌, inl, inr, Bool, true, false, IsTrue, List, [], ◌∷◌, length, sum, Contains, arith}
use Rattle.std.specs.List.{AllByRecursion, AllZip, range_with_len}
use Rattle.std.proofs.lemmas.List.FromFn.{length-range_with_len}
use Rattle.std.proofs.lemmas.List.Sums.{sum_by-cons}
use Rattle.netlist_spec.specs.Gates.{GateList, Machine}
use Rattle.netlist_spec.specs.Cones.{AreMarked, marked_sum, IsGateReached, same_net, read_by, GateConeCost}
use Rattle.gate_net.specs.GateNet.{net_count}
use Rattle.cone_split.specs.Cones.{IsInCone, is_root, is_read, IsConeSize}
use Rattle.cone_split.specs.Copies.{Rises, AreConeOf}
use Rattle.cone_split.proofs.Cells.{contains_head, contains_tail, contains_cases, lt_eq_gt, rises_above}
use Rattle.cone_split.proofs.Leads.{cone_in_cells}

abbrev ones : List ℕ → List Bool → ℕ
ones xs ms = marked_sum (λ i. 1) xs ms

not_true : {P : Type 0} → (P → ⊥) → IsTrue false ↔ P
not_true never = (λ e. let clash : false ≡ true = e in cc clash, λ p. absurd (never p))

rises_at : (low from : ℕ) (ns : List ℕ) → low ≡ from → Rises low ns → Rises from ns
rises_at low from ns e r = subst (λ (l : ℕ). Rises l ns) e r

all_at : (m n : ℕ) (cs : List ℕ) → m ≡ n → AllByRecursion (λ c. c < m) cs → AllByRecursion (λ c. c < n) cs
all_at m n cs e a = subst (λ (l : ℕ). AllByRecursion (λ c. c < l) cs) e a

same_bound : (low b n : ℕ) (cs : List ℕ) → AllByRecursion (λ c. c < low + b + suc n) cs → AllByRecursion (λ c. c < low + (b + 1) + n) cs
same_bound low b n cs a = all_at (low + b + suc n) (low + (b + 1) + n) cs (omega arith) a

-- a mark for each of the numbers from b on, n of them, where the cells are those that have the property
mark_all : (P : ℕ → Type 0) (low b n : ℕ) (cells : List ℕ) → Rises (low + b) cells → AllByRecursion (λ c. c < low + b + n) cells → ((i : ℕ) → b ≤ i → Contains cells (low + i) → P i) → ((i : ℕ) → b ≤ i → i < b + n → P i → Contains cells (low + i))
    → (ms : List Bool) × AreMarked P (range_with_len b n) ms × (length cells ≡ ones (range_with_len b n) ms)
mark_all P low b zero [] rise small f g = ([], tt, refl)
mark_all P low b zero (c ∷ cs) rise small f g = absurd (let h = rise.0 in let k = small.0 in omega arith)
mark_all P low b (suc n) [] rise small f g =
    let (ms, marked, total) = mark_all P low (b + 1) n [] tt tt (λ i h c. f i (omega arith) c) (λ i h k p. g i (omega arith) (omega arith) p) in
    (false ∷ ms, (not_true (λ p. let c = g b (omega arith) (omega arith) p in let h = c.1 in omega arith), marked), (let e : 0 ≡ ones (range_with_len (b + 1) n) ms = total in omega arith))
mark_all P low b (suc n) (c ∷ cs) rise small f g =
    by_first (lt_eq_gt (low + b) c)
    (λ r s f g. mark_all P low (b + 1) n (c ∷ cs) r s f g)
    (λ r s f g. mark_all P low (b + 1) n cs r s f g)
  where
    Marks : List ℕ → Type 0
    Marks ks = (ms : List Bool) × AreMarked P (range_with_len (b + 1) n) ms × (length ks ≡ ones (range_with_len (b + 1) n) ms)

    Rest : List ℕ → Type 0
    Rest ks = Rises (low + (b + 1)) ks → AllByRecursion (λ k. k < low + (b + 1) + n) ks → ((i : ℕ) → b + 1 ≤ i → Contains ks (low + i) → P i) → ((i : ℕ) → b + 1 ≤ i → i < b + 1 + n → P i → Contains ks (low + i)) → Marks ks

    by_first : (low + b < c) ⊎ ((low + b ≡ c) ⊎ (c < low + b)) → Rest (c ∷ cs) → Rest cs → (ms : List Bool) × AreMarked P (range_with_len b (suc n)) ms × (length (c ∷ cs) ≡ ones (range_with_len b (suc n)) ms)
    by_first (inl h) all rest =
        let up : low + (b + 1) ≤ c = omega arith in
        let later : Rises (low + (b + 1)) (c ∷ cs) = (up, rise.1) in
        let (ms, marked, total) = all later (same_bound low b n (c ∷ cs) small) (λ i k d. f i (omega arith) d) (λ i k l p. g i (omega arith) (omega arith) p) in
        (false ∷ ms, (not_true (λ p. let d = rises_above (low + (b + 1)) (c ∷ cs) (low + b) later (g b (omega arith) (omega arith) p) in omega arith), marked), (let t : length (c ∷ cs) ≡ ones (range_with_len (b + 1) n) ms = total in omega arith))
    by_first (inr (inl h)) all rest =
        let (ms, marked, total) = rest (rises_at (c + 1) (low + (b + 1)) cs (omega arith) rise.1) (same_bound low b n cs small.1) (λ i k d. f i (omega arith) (contains_tail c (low + i) cs d)) (λ i k l p. elim (contains_cases c (low + i) cs (g i (omega arith) (omega arith) p)) [ inl e ↦ absurd (omega arith) | inr d ↦ d ]) in
        (true ∷ ms, ((λ e. f b (omega arith) (subst (λ (q : ℕ). Contains (c ∷ cs) q) (sym h) (contains_head c cs)), λ p. refl), marked), (let t : length cs ≡ ones (range_with_len (b + 1) n) ms = total in omega arith))
    by_first (inr (inr h)) all rest = absurd (let k = rise.0 in omega arith)

-- ---- one size

same_sum : (P : ℕ → Type 0) (xs : List ℕ) (ms ks : List Bool) → AreMarked P xs ms → AreMarked P xs ks → ones xs ms ≡ ones xs ks
same_sum P [] ms ks a b = refl
same_sum P (x ∷ xs) [] ks a b = absurd a
same_sum P (x ∷ xs) (m ∷ ms) [] a b = absurd b
same_sum P (x ∷ xs) (true ∷ ms) (true ∷ ks) a b = let e = same_sum P xs ms ks a.1 b.1 in omega arith
same_sum P (x ∷ xs) (false ∷ ms) (false ∷ ks) a b = let e = same_sum P xs ms ks a.1 b.1 in omega arith
same_sum P (x ∷ xs) (true ∷ ms) (false ∷ ks) a b = let clash : false ≡ true = b.0.1 (a.0.0 refl) in cc clash
same_sum P (x ∷ xs) (false ∷ ms) (true ∷ ks) a b = let clash : false ≡ true = a.0.1 (b.0.0 refl) in cc clash

pub one_size : (net : GateList) (roots : List ℕ) (m n : ℕ) → IsConeSize net roots m → IsConeSize net roots n → m ≡ n
one_size net roots m n (ms, a, e) (ks, b, f) = e ∙ (same_sum _ (range_with_len 0 (length net.gates)) ms ks a b ∙ sym f)

ones_within : (xs : List ℕ) (ms : List Bool) → ones xs ms ≤ length xs
ones_within [] ms = omega arith
ones_within (x ∷ xs) [] = omega arith
ones_within (x ∷ xs) (true ∷ ms) = let h = ones_within xs ms in omega arith
ones_within (x ∷ xs) (false ∷ ms) = let h = ones_within xs ms in omega arith

pub size_within : (net : GateList) (roots : List ℕ) (n : ℕ) → IsConeSize net roots n → n ≤ length net.gates
size_within net roots n (ms, marked, e) =
    let h = ones_within (range_with_len 0 (length net.gates)) ms in
    let l = length-range_with_len 0 (length net.gates) in
    omega arith

-- the cells of a cone are as many as its size says
pub cells_size : (net : GateList) (roots cells : List ℕ) → AreConeOf net roots cells → IsConeSize net roots (length cells)
cells_size net roots cells cone =
    mark_all (λ i. IsInCone net roots (net.leaves + i)) net.leaves 0 (length net.gates) cells
    (rises_at net.leaves (net.leaves + 0) cells (omega arith) cone.all.rise) (all_at (net_count net) (net.leaves + 0 + length net.gates) cells (omega arith) cone.all.within)
    (λ i h c. cone.alone (net.leaves + i) c) (λ i h k inc. cone_in_cells net roots cells (net.leaves + i) cone inc (omega arith))

-- ---- the costs of the roots

-- marks for either of two properties
either_marks : (P Q R : ℕ → Type 0) (xs : List ℕ) (ms ks : List Bool) → ((i : ℕ) → P i → R i) → ((i : ℕ) → Q i → R i) → ((i : ℕ) → R i → P i ⊎ Q i) → AreMarked P xs ms → AreMarked Q xs ks → (rs : List Bool) × AreMarked R xs rs × (ones xs rs ≤ ones xs ms + ones xs ks)
either_marks P Q R [] [] [] f g h a b = ([], tt, omega arith)
either_marks P Q R [] [] (k ∷ ks) f g h a b = absurd b
either_marks P Q R [] (m ∷ ms) ks f g h a b = absurd a
either_marks P Q R (x ∷ xs) [] ks f g h a b = absurd a
either_marks P Q R (x ∷ xs) (m ∷ ms) [] f g h a b = absurd b
either_marks P Q R (x ∷ xs) (true ∷ ms) (k ∷ ks) f g h a b =
    let (rs, marked, few) = either_marks P Q R xs ms ks f g h a.1 b.1 in
    (true ∷ rs, ((λ e. f x (a.0.0 refl), λ r. refl), marked), (let t : ones xs rs ≤ ones xs ms + ones xs ks = few in omega arith))
either_marks P Q R (x ∷ xs) (false ∷ ms) (true ∷ ks) f g h a b =
    let (rs, marked, few) = either_marks P Q R xs ms ks f g h a.1 b.1 in
    (true ∷ rs, ((λ e. g x (b.0.0 refl), λ r. refl), marked), (let t : ones xs rs ≤ ones xs ms + ones xs ks = few in omega arith))
either_marks P Q R (x ∷ xs) (false ∷ ms) (false ∷ ks) f g h a b =
    let (rs, marked, few) = either_marks P Q R xs ms ks f g h a.1 b.1 in
    (false ∷ rs, (not_true (λ r. elim (h x r) [ inl p ↦ (let clash : false ≡ true = a.0.1 p in cc clash) | inr q ↦ (let clash : false ≡ true = b.0.1 q in cc clash) ]), marked), (let t : ones xs rs ≤ ones xs ms + ones xs ks = few in omega arith))

no_marks : (P : ℕ → Type 0) (xs : List ℕ) → ((i : ℕ) → P i → ⊥) → (ms : List Bool) × AreMarked P xs ms × (ones xs ms ≡ 0)
no_marks P [] never = ([], tt, refl)
no_marks P (x ∷ xs) never = let (ms, marked, e) = no_marks P xs never in (false ∷ ms, (not_true (never x), marked), (let z : ones xs ms ≡ 0 = e in omega arith))

pub no_cone : (net : GateList) (n : ℕ) → IsInCone net [] n → ⊥
no_cone net n (is_root c) = let h = c.1 in omega arith
no_cone net n (is_read {n = m} inc r) = no_cone net m inc

reached_in_cone : (m : Machine) (x : ℕ) (xs : List ℕ) (n : ℕ) → IsGateReached m x n → IsInCone m.net (x ∷ xs) n
reached_in_cone m x xs n same_net = is_root (contains_head x xs)
reached_in_cone m x xs n (read_by {n = k} reached r) = is_read (reached_in_cone m x xs k reached) r

wider_cone : (net : GateList) (x : ℕ) (xs : List ℕ) (n : ℕ) → IsInCone net xs n → IsInCone net (x ∷ xs) n
wider_cone net x xs n (is_root c) = is_root (contains_tail x n xs c)
wider_cone net x xs n (is_read {n = m} inc r) = is_read (wider_cone net x xs m inc) r

in_either : (m : Machine) (x : ℕ) (xs : List ℕ) (n : ℕ) → IsInCone m.net (x ∷ xs) n → IsGateReached m x n ⊎ IsInCone m.net xs n
in_either m x xs n (is_root c) = elim (contains_cases x n xs c) [ inl e ↦ inl (subst (λ (q : ℕ). IsGateReached m x q) e same_net) | inr d ↦ inr (is_root d) ]
in_either m x xs n (is_read {n = k} inc r) = elim (in_either m x xs k inc) [ inl a ↦ inl (read_by a r) | inr b ↦ inr (is_read b r) ]

union_marks : (m : Machine) (roots costs : List ℕ) → AllZip (GateConeCost m) roots costs → (ms : List Bool) × AreMarked (λ i. IsInCone m.net roots (m.net.leaves + i)) (range_with_len 0 (length m.net.gates)) ms × (ones (range_with_len 0 (length m.net.gates)) ms ≤ sum costs)
union_marks m [] [] all = let (ms, marked, e) = no_marks (λ i. IsInCone m.net [] (m.net.leaves + i)) (range_with_len 0 (length m.net.gates)) (λ i inc. no_cone m.net (m.net.leaves + i) inc) in (ms, marked, omega arith)
union_marks m [] (c ∷ costs) all = absurd all
union_marks m (x ∷ roots) [] all = absurd all
union_marks m (x ∷ roots) (c ∷ costs) all =
    let (ms, marked, e) = all.0 in
    let (ks, marked_rest, few) = union_marks m roots costs all.1 in
    let leaves = m.net.leaves in
    let (rs, marked_all, total) = either_marks (λ i. IsGateReached m x (leaves + i)) (λ i. IsInCone m.net roots (leaves + i)) (λ i. IsInCone m.net (x ∷ roots) (leaves + i)) (range_with_len 0 (length m.net.gates)) ms ks (λ i p. reached_in_cone m x roots (leaves + i) p) (λ i p. wider_cone m.net x roots (leaves + i) p) (λ i p. in_either m x roots (leaves + i) p) marked marked_rest in
    (rs, marked_all, (let whole = sum_by-cons (λ (k : ℕ). k) c costs in omega arith))

pub size_costs : (m : Machine) (roots costs : List ℕ) (n : ℕ) → AllZip (GateConeCost m) roots costs → IsConeSize m.net roots n → n ≤ sum costs
size_costs m roots costs n all size =
    let (ms, marked, few) = union_marks m roots costs all in
    let e = one_size m.net roots n (ones (range_with_len 0 (length m.net.gates)) ms) size (ms, marked, refl) in
    omega arith
