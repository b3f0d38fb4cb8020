-- The gates of a sum.
use Rattle.std.proofs.Common.{◌≡◌, sym, ◌∙◌, ap, subst, refl, ℕ, zero, suc, ◌+◌, ◌-◌, ◌<◌, ◌*◌, ◌⊎◌, inl, inr, Bool, true, false, Contains, Some, slice_get, List, [], ◌∷◌, ◌++◌, length, map, take, drop, min, arith}
use Rattle.std.proofs.lemmas.List.{length-append, append_assoc, take_rest, drop_min}
use Rattle.netlist_spec.specs.Gates.{GateForm, one, two, GateList, bit_number, gate_answer, gate_reads}
use Rattle.gate_net.specs.GateNet.{net_count}
use Rattle.netlist_spec.specs.Covers.{differ, has_bit, parity}
use Rattle.cone_split.specs.Copies.{added_gates, first_sum, sum_gates}
use Rattle.cone_split.proofs.Cells.{contains_head, contains_tail, contains_cases}

pub added_length : (before : ℕ) (ns : List ℕ) → length (added_gates before ns) ≡ length ns
added_length before [] = refl
added_length before (n ∷ ns) = ap suc (added_length (before + 1) ns)

pub added_more : (before last n : ℕ) (ns : List ℕ) → last ≡ before + length ns → added_gates before (ns ++ n ∷ []) ≡ added_gates before ns ++ two 6 last n ∷ []
added_more before last n [] e = let z : before ≡ last = omega arith in ap (λ (b : ℕ). two 6 b n ∷ []) z
added_more before last n (m ∷ ns) e = ap (λ (gs : List GateForm). two 6 before m ∷ gs) (added_more (before + 1) last n ns (omega arith))

-- how far the list has come
pub sum_far : (old now : GateList) (f : GateForm) (b : ℕ) (ns : List ℕ) → now ≡ record old { gates = old.gates ++ f ∷ added_gates b ns } → net_count now ≡ net_count old + 1 + length ns
sum_far old now f b ns e =
    let a = added_length b ns in
    let l = length-append old.gates (f ∷ added_gates b ns) in
    let c = ap net_count e in
    omega arith

pub sum_step : (old now new : GateList) (f : GateForm) (b : ℕ) (ns all : List ℕ) (last n : ℕ) → now ≡ record old { gates = old.gates ++ f ∷ added_gates b ns } → new ≡ record now { gates = now.gates ++ two 6 last n ∷ [] } → all ≡ ns ++ n ∷ [] → last ≡ b + length ns
    → new ≡ record old { gates = old.gates ++ f ∷ added_gates b all }
sum_step old now new f b ns all last n e more is at =
    more
    ∙ (ap (λ (m : GateList). record m { gates = m.gates ++ two 6 last n ∷ [] }) e
    ∙ ap (λ (gs : List GateForm). record old { gates = gs })
    (append_assoc old.gates (f ∷ added_gates b ns) (two 6 last n ∷ [])
    ∙ ap (λ (gs : List GateForm). old.gates ++ f ∷ gs) (sym (ap (added_gates b) is ∙ added_more b last n ns at))))

-- all but the first two
pub rest_is : {X : Type 0} (xs : List X) (m : ℕ) → m ≡ min (length xs) 2 → take (length xs - m) (drop m xs) ≡ drop 2 xs
rest_is xs m e = take_rest xs m ∙ (ap (λ (k : ℕ). drop k xs) (let c : m ≡ min 2 (length xs) = omega arith in c) ∙ drop_min 2 xs)

-- ---- what a sum has and what it answers

-- a gate of the sum reads one of the nets or a gate of the sum in front
added_reads : (b : ℕ) (ns : List ℕ) (i k : ℕ) (g : GateForm) → slice_get (added_gates b ns) i ≡ Some g → Contains (gate_reads g) k → Contains ns k ⊎ (k ≡ b + i)
added_reads b [] i k g e c = cc e
added_reads b (n ∷ ns) zero k g e c =
    let same : two 6 b n ≡ g = cc e in
    elim (contains_cases b k (n ∷ []) (subst (λ (h : GateForm). Contains (gate_reads h) k) (sym same) c)) [
      | inl h ↦ inr (omega arith)
      | inr d ↦ elim (contains_cases n k [] d) [ inl h ↦ inl (subst (λ (q : ℕ). Contains (n ∷ ns) q) h (contains_head n ns)) | inr f ↦ absurd (let h = f.1 in omega arith) ]
    ]
added_reads b (n ∷ ns) (suc i) k g e c =
    elim (added_reads (b + 1) ns i k g e c) [ inl d ↦ inl (contains_tail n k ns d) | inr h ↦ inr (omega arith) ]

first_reads : (ns : List ℕ) (k : ℕ) → Contains (gate_reads (first_sum ns)) k → Contains ns k
first_reads [] k c = absurd (let h = c.1 in omega arith)
first_reads (n ∷ []) k c = c
first_reads (a ∷ b ∷ ns) k c = elim (contains_cases a k (b ∷ []) c) [
  | inl e ↦ subst (λ (q : ℕ). Contains (a ∷ b ∷ ns) q) e (contains_head a (b ∷ ns))
  | inr d ↦ elim (contains_cases b k [] d) [ inl e ↦ subst (λ (q : ℕ). Contains (a ∷ b ∷ ns) q) e (contains_tail a b (b ∷ ns) (contains_head b ns)) | inr f ↦ absurd (let h = f.1 in omega arith) ]
]

contains_drop : (n k : ℕ) (ns : List ℕ) → Contains (drop n ns) k → Contains ns k
contains_drop zero k ns c = c
contains_drop (suc n) k [] c = c
contains_drop (suc n) k (m ∷ ns) c = contains_tail m k ns (contains_drop n k ns c)

pub sum_reads : (b : ℕ) (ns : List ℕ) (i k : ℕ) (g : GateForm) → slice_get (sum_gates b ns) i ≡ Some g → Contains (gate_reads g) k → Contains ns k ⊎ ((j : ℕ) × (j < i) × (k ≡ b + j))
sum_reads b ns zero k g e c =
    let same : first_sum ns ≡ g = cc e in
    inl (first_reads ns k (subst (λ (h : GateForm). Contains (gate_reads h) k) (sym same) c))
sum_reads b ns (suc i) k g e c =
    elim (added_reads b (drop 2 ns) i k g e c) [ inl d ↦ inl (contains_drop 2 k ns d) | inr h ↦ inr (i, omega arith, h) ]

-- each gate but the last is read by the next one
pub sum_chain : (b : ℕ) (ns : List ℕ) (i : ℕ) → i + 1 < length (sum_gates b ns) → (g : GateForm) × (slice_get (sum_gates b ns) (suc i) ≡ Some g) × Contains (gate_reads g) (b + i)
sum_chain b ns i h = added_chain b (drop 2 ns) i (omega arith)
  where
    added_chain : (b : ℕ) (ns : List ℕ) (i : ℕ) → i < length (added_gates b ns) → (g : GateForm) × (slice_get (added_gates b ns) i ≡ Some g) × Contains (gate_reads g) (b + i)
    added_chain b [] i h = absurd (omega arith)
    added_chain b (n ∷ ns) zero h = (two 6 b n, refl, subst (λ (q : ℕ). Contains (b ∷ n ∷ []) q) (let z : b ≡ b + 0 = omega arith in z) (contains_head b (n ∷ [])))
    added_chain b (n ∷ ns) (suc i) h =
        let rest = added_chain (b + 1) ns i (omega arith) in
        (rest.0, rest.1, subst (λ (q : ℕ). Contains (gate_reads rest.0) q) (let z : b + 1 + i ≡ b + suc i = omega arith in z) rest.2)

-- each net is read by some gate of the sum
added_each : (b : ℕ) (ns : List ℕ) (n : ℕ) → Contains ns n → (i : ℕ) × (g : GateForm) × (slice_get (added_gates b ns) i ≡ Some g) × Contains (gate_reads g) n
added_each b [] n c = absurd (let h = c.1 in omega arith)
added_each b (m ∷ ns) n c = elim (contains_cases m n ns c) [
  | inl e ↦ (0, two 6 b m, refl, subst (λ (q : ℕ). Contains (b ∷ m ∷ []) q) e (contains_tail b m (m ∷ []) (contains_head m [])))
  | inr d ↦ (let rest = added_each (b + 1) ns n d in (suc rest.0, rest.1, rest.2, rest.3))
]

pub sum_each : (b : ℕ) (ns : List ℕ) (n : ℕ) → Contains ns n → (i : ℕ) × (g : GateForm) × (slice_get (sum_gates b ns) i ≡ Some g) × Contains (gate_reads g) n
sum_each b [] n c = absurd (let h = c.1 in omega arith)
sum_each b (m ∷ []) n c = (0, one false m, refl, c)
sum_each b (m ∷ k ∷ ns) n c = elim (contains_cases m n (k ∷ ns) c) [
  | inl e ↦ (0, two 6 m k, refl, subst (λ (q : ℕ). Contains (m ∷ k ∷ []) q) e (contains_head m (k ∷ [])))
  | inr d ↦ elim (contains_cases k n ns d) [
    | inl e ↦ (0, two 6 m k, refl, subst (λ (q : ℕ). Contains (m ∷ k ∷ []) q) e (contains_tail m k (k ∷ []) (contains_head k [])))
    | inr f ↦ (let rest = added_each b ns n f in (suc rest.0, rest.1, rest.2, rest.3))
  ]
]

-- the gate of the sum of two nets
differ_bits : (x y : Bool) → has_bit 6 (2 * bit_number x + bit_number y) ≡ differ x y
differ_bits false false = refl
differ_bits false true = refl
differ_bits true false = refl
differ_bits true true = refl

differ_none : (x : Bool) → differ x false ≡ x
differ_none false = refl
differ_none true = refl

differ_assoc : (x y z : Bool) → differ (differ x y) z ≡ differ x (differ y z)
differ_assoc false y z = refl
differ_assoc true false z = refl
differ_assoc true true false = refl
differ_assoc true true true = refl

added_value : (v : ℕ → Bool) (b : ℕ) (ns : List ℕ) → ((i : ℕ) (g : GateForm) → slice_get (added_gates b ns) i ≡ Some g → v (b + 1 + i) ≡ gate_answer g v) → v (b + length ns) ≡ differ (v b) (parity (map v ns))
added_value v b [] answers = ap v (let z : b + 0 ≡ b = omega arith in z) ∙ sym (differ_none (v b))
added_value v b (n ∷ ns) answers =
    ap v (let z : b + length (n ∷ ns) ≡ b + 1 + length ns = omega arith in z)
    ∙ (added_value v (b + 1) ns (λ i g e. ap v (let z : b + 1 + 1 + i ≡ b + 1 + suc i = omega arith in z) ∙ answers (suc i) g e)
    ∙ (ap (λ (x : Bool). differ x (parity (map v ns))) (ap v (let z : b + 1 ≡ b + 1 + 0 = omega arith in z) ∙ (answers 0 (two 6 b n) refl ∙ differ_bits (v b) (v n)))
    ∙ differ_assoc (v b) (v n) (parity (map v ns))))

first_value : (v : ℕ → Bool) (ns : List ℕ) → differ (gate_answer (first_sum ns) v) (parity (map v (drop 2 ns))) ≡ parity (map v ns)
first_value v [] = refl
first_value v (n ∷ []) = refl
first_value v (a ∷ b ∷ ns) = ap (λ (x : Bool). differ x (parity (map v ns))) (differ_bits (v a) (v b)) ∙ differ_assoc (v a) (v b) (parity (map v ns))

pub sum_length : (b : ℕ) (ns : List ℕ) → length (sum_gates b ns) ≡ length (drop 2 ns) + 1
sum_length b ns = let l = added_length b (drop 2 ns) in omega arith

-- the last gate of the sum has the xor of the nets
pub sum_value : (v : ℕ → Bool) (b : ℕ) (ns : List ℕ) → ((i : ℕ) (g : GateForm) → slice_get (sum_gates b ns) i ≡ Some g → v (b + i) ≡ gate_answer g v) → v (b + length (drop 2 ns)) ≡ parity (map v ns)
sum_value v b ns answers =
    added_value v b (drop 2 ns) (λ i g e. ap v (let z : b + 1 + i ≡ b + suc i = omega arith in z) ∙ answers (suc i) g e)
    ∙ (ap (λ (x : Bool). differ x (parity (map v (drop 2 ns)))) (ap v (let z : b ≡ b + 0 = omega arith in z) ∙ answers 0 (first_sum ns) refl)
    ∙ first_value v ns)
