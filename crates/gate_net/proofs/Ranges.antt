-- Gates that have their answers within a range of nets, and lists of gates that grow.
use Rattle.std.proofs.Common.{◌≡◌, ◌∙◌, ap, ℕ, ◌+◌, ◌<◌, ◌≤◌, Bool, List, [], ◌∷◌, ◌++◌, length, arith}
use Rattle.std.specs.List.{AllByRecursion, enumerate_from}
use Rattle.netlist_spec.specs.Gates.{GateForm, gate_answer, GateList, AnswersWithin}
use Rattle.gate_net.specs.GateNet.{net_count}

abbrev Within : ℕ → ℕ → (ℕ → Bool) → ℕ → List GateForm → Type 0
Within first end v k gs = AllByRecursion (λ (p : ℕ × GateForm). first ≤ p.0 → p.0 < end → v p.0 ≡ gate_answer p.1 v) (enumerate_from k gs)

narrower_from : (first end low high : ℕ) (v : ℕ → Bool) → first ≤ low → high ≤ end → (k : ℕ) (gs : List GateForm) → Within first end v k gs → Within low high v k gs
narrower_from first end low high v l h k [] a = tt
narrower_from first end low high v l h k (g ∷ gs) a = (λ x y. a.0 (omega arith) (omega arith), narrower_from first end low high v l h (k + 1) gs a.1)

pub narrower : (net : GateList) (first end low high : ℕ) (v : ℕ → Bool) → first ≤ low → high ≤ end → AnswersWithin net first end v → AnswersWithin net low high v
narrower net first end low high v l h a = narrower_from first end low high v l h net.leaves net.gates a

front_from : (first end : ℕ) (v : ℕ → Bool) (more : List GateForm) (k : ℕ) (gs : List GateForm) → Within first end v k (gs ++ more) → Within first end v k gs
front_from first end v more k [] a = tt
front_from first end v more k (g ∷ gs) a = (a.0, front_from first end v more (k + 1) gs a.1)

-- what holds of a longer list holds of its front
pub front : (net : GateList) (more : List GateForm) (first end : ℕ) (v : ℕ → Bool) → AnswersWithin (record net { gates = net.gates ++ more }) first end v → AnswersWithin net first end v
front net more first end v a = front_from first end v more net.leaves net.gates a

last_from : (first end : ℕ) (v : ℕ → Bool) (g : GateForm) (k : ℕ) (gs : List GateForm) → first ≤ k + length gs → k + length gs < end → Within first end v k (gs ++ g ∷ []) → v (k + length gs) ≡ gate_answer g v
last_from first end v g k [] l h a = ap v (let e : k + 0 ≡ k = omega arith in e) ∙ a.0 (omega arith) (omega arith)
last_from first end v g k (x ∷ gs) l h a =
    ap v (let e : k + length (x ∷ gs) ≡ k + 1 + length gs = omega arith in e) ∙ last_from first end v g (k + 1) gs (omega arith) (omega arith) a.1

-- the gate that was appended last
pub last : (net : GateList) (g : GateForm) (first end : ℕ) (v : ℕ → Bool) → first ≤ net_count net → net_count net < end → AnswersWithin (record net { gates = net.gates ++ g ∷ [] }) first end v
    → v (net_count net) ≡ gate_answer g v
last net g first end v l h a = last_from first end v g net.leaves net.gates l h a
