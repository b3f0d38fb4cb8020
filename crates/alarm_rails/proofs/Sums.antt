-- The gates of a sum: how far they come, what they read, where they lead, and what they answer.
use Rattle.std.proofs.Common.{◌≡◌, sym, ◌∙◌, ap, subst, refl, ℕ, zero, suc, ◌+◌, ◌*◌, ◌<◌, ◌≤◌, ◌⊎◌, inl, inr, Bool, true, false, List, [], ◌∷◌, ◌++◌, length, map, Contains, arith, Some, slice_get}
use Rattle.std.proofs.lemmas.List.{length-append, append_assoc}
use Rattle.netlist_spec.specs.Covers.{differ, has_bit, parity}
use Rattle.netlist_spec.specs.Gates.{GateForm, two, GateList, bit_number, gate_answer, gate_reads}
use Rattle.gate_net.specs.GateNet.{net_count}
use Rattle.cone_split.proofs.Cells.{contains_head, contains_tail, contains_cases}
use Rattle.alarm_rails.specs.Syndromes.{added_gates, whole_sum}

-- ---- lists of gates that grow

pub grown : (old mid new : GateList) (gs hs all : List GateForm) → mid ≡ record old { gates = old.gates ++ gs } → new ≡ record mid { gates = mid.gates ++ hs } → all ≡ gs ++ hs → new ≡ record old { gates = old.gates ++ all }
grown old mid new gs hs all is more e =
    more
    ∙ (ap (λ (m : GateList). record m { gates = m.gates ++ hs }) is
    ∙ ap (λ (all : List GateForm). record old { gates = all }) (append_assoc old.gates gs hs ∙ ap (λ (ks : List GateForm). old.gates ++ ks) (sym e)))

pub grown_count : (old new : GateList) (gs : List GateForm) → new ≡ record old { gates = old.gates ++ gs } → net_count new ≡ net_count old + length gs
grown_count old new gs e = let f = ap net_count e in let l = length-append old.gates gs in omega arith

-- ---- the gates of a sum

pub added_length : (first so_far : ℕ) (ns : List ℕ) → length (added_gates first so_far ns) ≡ length ns
added_length first so_far [] = refl
added_length first so_far (n ∷ ns) = ap suc (added_length (first + 1) first ns)

pub added_more : (first so_far n : ℕ) (ns : List ℕ) → added_gates first so_far (ns ++ n ∷ []) ≡ added_gates first so_far ns ++ two 6 (whole_sum first so_far ns) n ∷ []
added_more first so_far n [] = refl
added_more first so_far n (m ∷ ns) = ap (λ (gs : List GateForm). two 6 so_far m ∷ gs) (added_more (first + 1) first n ns)

pub whole_more : (first so_far n : ℕ) (ns : List ℕ) → whole_sum first so_far (ns ++ n ∷ []) ≡ first + length ns
whole_more first so_far n [] = omega arith
whole_more first so_far n (m ∷ ns) = let h = whole_more (first + 1) first n ns in omega arith

pub whole_below : (first so_far : ℕ) (ns : List ℕ) → so_far < first → whole_sum first so_far ns < first + length ns
whole_below first so_far [] h = omega arith
whole_below first so_far (n ∷ ns) h = let k = whole_below (first + 1) first ns (omega arith) in omega arith

-- one net more
pub sum_step : (old now new : GateList) (check sum n : ℕ) (ns all : List ℕ) → now ≡ record old { gates = old.gates ++ added_gates (net_count old) check ns } → sum ≡ whole_sum (net_count old) check ns
    → new ≡ record now { gates = now.gates ++ two 6 sum n ∷ [] } → all ≡ ns ++ n ∷ [] → new ≡ record old { gates = old.gates ++ added_gates (net_count old) check all }
sum_step old now new check sum n ns all is at more whole =
    grown old now new (added_gates (net_count old) check ns) (two 6 sum n ∷ []) (added_gates (net_count old) check all) is more
    (ap (added_gates (net_count old) check) whole ∙ (added_more (net_count old) check n ns ∙ ap (λ (k : ℕ). added_gates (net_count old) check ns ++ two 6 k n ∷ []) (sym at)))

pub sum_count : (old now : GateList) (check : ℕ) (ns : List ℕ) → now ≡ record old { gates = old.gates ++ added_gates (net_count old) check ns } → net_count now ≡ net_count old + length ns
sum_count old now check ns is = grown_count old now (added_gates (net_count old) check ns) is ∙ ap (λ (k : ℕ). net_count old + k) (added_length (net_count old) check ns)

pub sum_next : (old now : GateList) (check next n : ℕ) (ns all : List ℕ) → now ≡ record old { gates = old.gates ++ added_gates (net_count old) check ns } → next ≡ net_count now → all ≡ ns ++ n ∷ [] → next ≡ whole_sum (net_count old) check all
sum_next old now check next n ns all is at whole = at ∙ (sum_count old now check ns is ∙ sym (ap (whole_sum (net_count old) check) whole ∙ whole_more (net_count old) check n ns))

-- a gate reads one of the nets, the sum in front of all, or a gate in front
pub added_reads : (first so_far : ℕ) (ns : List ℕ) (i k : ℕ) (g : GateForm) → slice_get (added_gates first so_far ns) i ≡ Some g → Contains (gate_reads g) k → (k ≡ so_far) ⊎ (Contains ns k ⊎ ((first ≤ k) × (k < first + i)))
added_reads first so_far [] i k g e c = cc e
added_reads first so_far (n ∷ ns) zero k g e c =
    let same : two 6 so_far n ≡ g = cc e in
    elim (contains_cases so_far k (n ∷ []) (subst (λ (h : GateForm). Contains (gate_reads h) k) (sym same) c)) [
      | inl h ↦ inl (sym h)
      | inr d ↦ elim (contains_cases n k [] d) [ inl h ↦ inr (inl (subst (λ (q : ℕ). Contains (n ∷ ns) q) h (contains_head n ns))) | inr f ↦ absurd (let h = f.1 in omega arith) ]
    ]
added_reads first so_far (n ∷ ns) (suc i) k g e c =
    elim (added_reads (first + 1) first ns i k g e c) [
      | inl h ↦ inr (inr (omega arith, omega arith))
      | inr (inl d) ↦ inr (inl (contains_tail n k ns d))
      | inr (inr d) ↦ inr (inr (let a = d.0 in omega arith, let b = d.1 in omega arith))
    ]

-- a gate of the sum is read by the next one, or has the whole sum
pub added_fed : (first so_far : ℕ) (ns : List ℕ) (i : ℕ) → i < length ns → ((g : GateForm) × (slice_get (added_gates first so_far ns) (suc i) ≡ Some g) × Contains (gate_reads g) (first + i)) ⊎ (whole_sum first so_far ns ≡ first + i)
added_fed first so_far [] i h = absurd (omega arith)
added_fed first so_far (n ∷ []) zero h = inr (omega arith)
added_fed first so_far (n ∷ m ∷ ns) zero h = inl (two 6 first m, refl, subst (λ (q : ℕ). Contains (first ∷ m ∷ []) q) (let z : first ≡ first + 0 = omega arith in z) (contains_head first (m ∷ [])))
added_fed first so_far (n ∷ ns) (suc i) h =
    elim (added_fed (first + 1) first ns i (omega arith)) [
      | inl (g, at, c) ↦ inl (g, at, subst (λ (q : ℕ). Contains (gate_reads g) q) (let z : first + 1 + i ≡ first + suc i = omega arith in z) c)
      | inr e ↦ inr (omega arith)
    ]

-- ---- what a sum answers

differ_bits : (x y : Bool) → has_bit 6 (2 * bit_number x + bit_number y) ≡ differ x y
differ_bits false false = refl
differ_bits false true = refl
differ_bits true false = refl
differ_bits true true = refl

differ_none : (x : Bool) → x ≡ differ x false
differ_none false = refl
differ_none true = refl

differ_assoc : (x y z : Bool) → differ (differ x y) z ≡ differ x (differ y z)
differ_assoc false y z = refl
differ_assoc true false z = refl
differ_assoc true true false = refl
differ_assoc true true true = refl

pub sum_value : (v : ℕ → Bool) (first so_far : ℕ) (ns : List ℕ) → ((i : ℕ) (g : GateForm) → slice_get (added_gates first so_far ns) i ≡ Some g → v (first + i) ≡ gate_answer g v) → v (whole_sum first so_far ns) ≡ differ (v so_far) (parity (map v ns))
sum_value v first so_far [] answers = differ_none (v so_far)
sum_value v first so_far (n ∷ ns) answers =
    sum_value v (first + 1) first ns (λ i g e. ap v (let z : first + 1 + i ≡ first + suc i = omega arith in z) ∙ answers (suc i) g e)
    ∙ (ap (λ (x : Bool). differ x (parity (map v ns))) (ap v (let z : first ≡ first + 0 = omega arith in z) ∙ (answers 0 (two 6 so_far n) refl ∙ differ_bits (v so_far) (v n)))
    ∙ differ_assoc (v so_far) (v n) (parity (map v ns)))
