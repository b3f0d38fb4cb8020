-- Gates that are copied over other nets: what they read.
use Rattle.std.proofs.Common.{◌≡◌, sym, ap, subst, refl, ℕ, zero, suc, ◌+◌, ◌-◌, ◌<◌, ◌≤◌, inl, inr, List, [], ◌∷◌, ◌++◌, length, map, get_or, drop, Contains, arith, Some, slice_get}
use Rattle.std.specs.List.{AllByRecursion, AllZip, enumerate_from}
use Rattle.netlist_spec.specs.Gates.{GateForm, constant, one, two, GateList, IsGateList, ReadsBelow, ReadsNet, gate_reads}
use Rattle.cone_split.specs.Copies.{Rises, AreClosed, HasImage, IsImage, IsSameOver}
use Rattle.cone_split.proofs.Cells.{contains_at, contains_head, contains_tail, contains_cases, all_contains, all_from_contains, rises_order}

-- ---- lists side by side

pub zip_length : {A B : Type 0} (R : A → B → Type 0) (xs : List A) (ys : List B) → AllZip R xs ys → length xs ≡ length ys
zip_length R [] [] all = refl
zip_length R [] (y ∷ ys) all = absurd all
zip_length R (x ∷ xs) [] all = absurd all
zip_length R (x ∷ xs) (y ∷ ys) all = ap suc (zip_length R xs ys all.1)

pub zip_push : {A B : Type 0} (R : A → B → Type 0) (xs : List A) (ys : List B) (x : A) (y : B) → AllZip R xs ys → R x y → AllZip R (xs ++ x ∷ []) (ys ++ y ∷ [])
zip_push R [] [] x y all r = (r, tt)
zip_push R [] (b ∷ ys) x y all r = absurd all
zip_push R (a ∷ xs) [] x y all r = absurd all
zip_push R (a ∷ xs) (b ∷ ys) x y all r = (all.0, zip_push R xs ys x y all.1 r)

-- what stands beside an element
pub zip_right : {A B : Type 0} (R : A → B → Type 0) (xs : List A) (ys : List B) (i : ℕ) (x : A) → AllZip R xs ys → slice_get xs i ≡ Some x → (y : B) × (slice_get ys i ≡ Some y) × R x y
zip_right R [] ys i x all e = cc e
zip_right R (a ∷ xs) [] i x all e = absurd all
zip_right {A = A} R (a ∷ xs) (b ∷ ys) zero x all e = let same : a ≡ x = cc e in (b, refl, subst (λ (z : A). R z b) same all.0)
zip_right R (a ∷ xs) (b ∷ ys) (suc i) x all e = zip_right R xs ys i x all.1 e

pub zip_left : {A B : Type 0} (R : A → B → Type 0) (xs : List A) (ys : List B) (i : ℕ) (y : B) → AllZip R xs ys → slice_get ys i ≡ Some y → (x : A) × (slice_get xs i ≡ Some x) × R x y
zip_left R [] [] i y all e = cc e
zip_left R [] (b ∷ ys) i y all e = absurd all
zip_left R (a ∷ xs) [] i y all e = absurd all
zip_left {B = B} R (a ∷ xs) (b ∷ ys) zero y all e = let same : b ≡ y = cc e in (a, refl, subst (λ (z : B). R a z) same all.0)
zip_left R (a ∷ xs) (b ∷ ys) (suc i) y all e = zip_left R xs ys i y all.1 e

pub all_map_at : {A B : Type 0} (P : B → Type 0) (f : A → B) (xs : List A) (i : ℕ) (d : A) → AllByRecursion P (map f xs) → i < length xs → P (f (get_or xs i d))
all_map_at P f [] i d all h = absurd (omega arith)
all_map_at P f (x ∷ xs) zero d all h = all.0
all_map_at P f (x ∷ xs) (suc i) d all h = all_map_at P f xs i d all.1 (omega arith)

pub all_map_drop : {A B : Type 0} (P : B → Type 0) (f : A → B) (n : ℕ) (xs : List A) → AllByRecursion P (map f xs) → AllByRecursion P (map f (drop n xs))
all_map_drop P f zero xs all = all
all_map_drop P f (suc n) [] all = tt
all_map_drop P f (suc n) (x ∷ xs) all = all_map_drop P f n xs all.1

-- ---- the gates of a list

-- a gate reads lower nets
pub gate_reads_below : (gs : List GateForm) (k i : ℕ) (g : GateForm) → AllByRecursion (λ (p : ℕ × GateForm). ReadsBelow p.0 p.1) (enumerate_from k gs) → slice_get gs i ≡ Some g → ReadsBelow (k + i) g
gate_reads_below [] k i g all e = cc e
gate_reads_below (x ∷ gs) k zero g all e =
    let same : x ≡ g = cc e in
    subst (λ (n : ℕ). ReadsBelow n g) (let z : k ≡ k + 0 = omega arith in z) (subst (λ (h : GateForm). ReadsBelow k h) same all.0)
gate_reads_below (x ∷ gs) k (suc i) g all e =
    subst (λ (n : ℕ). ReadsBelow n g) (let z : k + 1 + i ≡ k + suc i = omega arith in z) (gate_reads_below gs (k + 1) i g all.1 e)

pub reads_are_below : (n : ℕ) (g : GateForm) (k : ℕ) → ReadsBelow n g → Contains (gate_reads g) k → k < n
reads_are_below n (constant b) k r c = absurd (let h = c.1 in omega arith)
reads_are_below n (one inv a) k r c = elim (contains_cases a k [] c) [ inl e ↦ omega arith | inr d ↦ absurd (let h = d.1 in omega arith) ]
reads_are_below n (two op a b) k r c = elim (contains_cases a k (b ∷ []) c) [
  | inl e ↦ (let h = r.0 in omega arith)
  | inr d ↦ elim (contains_cases b k [] d) [ inl e ↦ (let h = r.1 in omega arith) | inr f ↦ absurd (let h = f.1 in omega arith) ]
]

-- a gate reads nets of a lower number than its own
pub net_reads_below : (net : GateList) (n k : ℕ) → IsGateList net → ReadsNet net n k → k < n
net_reads_below net n k all r = let h = reads_are_below (net.leaves + r.place) r.gate k (gate_reads_below net.gates net.leaves r.place r.gate all r.is_gate) r.reads in let e = r.number in omega arith

-- ---- the nets that stand for others

pub reads_have_images : (net : GateList) (cells : List ℕ) (leaves n : ℕ) (g : GateForm) → AreClosed net cells → leaves ≡ net.leaves → net.leaves ≤ n → Contains cells n → slice_get net.gates (n - net.leaves) ≡ Some g → AllByRecursion (HasImage leaves cells) (gate_reads g)
reads_have_images net cells leaves n g all e low there is_gate =
    all_from_contains (HasImage leaves cells) (gate_reads g) (λ k reads h.
    all.closed n k there (record { place = n - net.leaves; number = omega arith; gate = g; is_gate = is_gate; reads = reads }) (omega arith))

module _ (leaf cells : List ℕ) (first : ℕ) where
  -- what a gate over other nets reads
  pub read_images : (g h : GateForm) (m : ℕ) → IsSameOver (IsImage leaf cells first) g h → Contains (gate_reads h) m → (k : ℕ) × Contains (gate_reads g) k × IsImage leaf cells first k m
  read_images (constant b) h m same c = absurd (let l = (subst (λ (x : GateForm). Contains (gate_reads x) m) same c).1 in omega arith)
  read_images (one inv a) h m (d, r, same) c =
      elim (contains_cases d m [] (subst (λ (x : GateForm). Contains (gate_reads x) m) same c)) [
        | inl e ↦ (a, contains_head a [], subst (λ (y : ℕ). IsImage leaf cells first a y) e r)
        | inr f ↦ absurd (let l = f.1 in omega arith)
      ]
  read_images (two op a b) h m (d, f, r, s, same) c =
      elim (contains_cases d m (f ∷ []) (subst (λ (x : GateForm). Contains (gate_reads x) m) same c)) [
        | inl e ↦ (a, contains_head a (b ∷ []), subst (λ (y : ℕ). IsImage leaf cells first a y) e r)
        | inr i ↦ elim (contains_cases f m [] i) [
          | inl e ↦ (b, contains_tail a b (b ∷ []) (contains_head b []), subst (λ (y : ℕ). IsImage leaf cells first b y) e s)
          | inr j ↦ absurd (let l = j.1 in omega arith)
        ]
      ]

  -- and what stands for what the first one reads is read
  pub images_read : (g h : GateForm) (k : ℕ) → IsSameOver (IsImage leaf cells first) g h → Contains (gate_reads g) k → (m : ℕ) × Contains (gate_reads h) m × IsImage leaf cells first k m
  images_read (constant b) h k same c = absurd (let l = c.1 in omega arith)
  images_read (one inv a) h k (d, r, same) c =
      elim (contains_cases a k [] c) [
        | inl e ↦ (d, subst (λ (x : GateForm). Contains (gate_reads x) d) (sym same) (contains_head d []), subst (λ (y : ℕ). IsImage leaf cells first y d) e r)
        | inr f ↦ absurd (let l = f.1 in omega arith)
      ]
  images_read (two op a b) h k (d, f, r, s, same) c =
      elim (contains_cases a k (b ∷ []) c) [
        | inl e ↦ (d, subst (λ (x : GateForm). Contains (gate_reads x) d) (sym same) (contains_head d (f ∷ [])), subst (λ (y : ℕ). IsImage leaf cells first y d) e r)
        | inr i ↦ elim (contains_cases b k [] i) [
          | inl e ↦ (f, subst (λ (x : GateForm). Contains (gate_reads x) f) (sym same) (contains_tail d f (f ∷ []) (contains_head f [])), subst (λ (y : ℕ). IsImage leaf cells first y f) e s)
          | inr j ↦ absurd (let l = j.1 in omega arith)
        ]
      ]

  -- what a copied gate reads stands in front of it
  pub copy_reads_below : (net : GateList) (low i n m : ℕ) (g h : GateForm) → IsGateList net → Rises low cells → net.leaves ≤ n → slice_get cells i ≡ Some n → slice_get net.gates (n - net.leaves) ≡ Some g
      → AllByRecursion (λ k. k < first) leaf → IsSameOver (IsImage leaf cells first) g h → first + i ≤ m → AllByRecursion (λ k. k < m) (gate_reads h)
  copy_reads_below net low i n m g h all rise from at is_gate leaves same room =
      all_from_contains (λ k. k < m) (gate_reads h) (λ k c.
      let (a, reads, image) = read_images g h k same c in
      let below = net_reads_below net n a all (record { place = n - net.leaves; number = omega arith; gate = g; is_gate = is_gate; reads = reads }) in
      elim image [
        | inl e ↦ (let b = all_contains (λ q. q < first) leaf k leaves (contains_at leaf a k e) in omega arith)
        | inr f ↦ (let before = rises_order low cells f.1.0 i a n rise f.1.1 at below in let e = f.1.2 in omega arith)
      ])
