-- The values of a step without faults are an evaluation.
use Rattle.std.proofs.Common.{◌≡◌, refl, ◌∙◌, ap, ap₂, ℕ, zero, suc, ◌+◌, ◌<◌, ◌≤◌, Bool, List, [], ◌∷◌, ◌++◌, length, map, arith}
use Rattle.std.specs.List.{AllByRecursion, AllZip, range_with_len, enumerate_from}
use Rattle.netlist_spec.specs.SourceRun.{Bits}
use Rattle.netlist_spec.specs.Gates.{GateForm, gate_answer, Machine, GateValues, IsEvaluation, latch_nets, shown_net}

unshown : (nets : List ℕ) (bits : Bits) (v : ℕ → Bool) → AllZip (λ q bit. v q ≡ shown_net [] q bit) nets bits → map v nets ≡ bits
unshown [] [] v h = refl
unshown [] (b ∷ bits) v h = absurd h
unshown (q ∷ nets) [] v h = absurd h
unshown (q ∷ nets) (b ∷ bits) v h = ap₂ (λ (x : Bool) (xs : Bits). x ∷ xs) h.0 (unshown nets bits v h.1)

range_split : (v : ℕ → Bool) (a n m : ℕ) → map v (range_with_len a (n + m)) ≡ map v (range_with_len a n) ++ map v (range_with_len (a + n) m)
range_split v a zero m = ap₂ (λ (k j : ℕ). map v (range_with_len k j)) (let e : a ≡ a + 0 = omega arith in e) (let e : 0 + m ≡ m = omega arith in e)
range_split v a (suc n) m =
    ap (λ (k : ℕ). map v (range_with_len a k)) (let e : suc n + m ≡ suc (n + m) = omega arith in e)
    ∙ ap (λ (bs : Bits). v a ∷ bs) (range_split v (a + 1) n m ∙ ap (λ (k : ℕ). map v (range_with_len (a + 1) n) ++ map v (range_with_len k m)) (let e : (a + 1) + n ≡ a + suc n = omega arith in e))

answered : (gs : List (ℕ × GateForm)) (first end : ℕ) (v : ℕ → Bool) → AllByRecursion (λ (p : ℕ × GateForm). v p.0 ≡ shown_net [] p.0 (gate_answer p.1 v)) gs → AllByRecursion (λ (p : ℕ × GateForm). first ≤ p.0 → p.0 < end → v p.0 ≡ gate_answer p.1 v) gs
answered [] first end v h = tt
answered (g ∷ gs) first end v h = ((λ low high. h.0), answered gs first end v h.1)

pub step_evaluates : (m : Machine) → m.net.leaves ≡ m.inputs + length m.latches → (s x : Bits) (v : ℕ → Bool) → GateValues m s x [] v → IsEvaluation m.net (x ++ s) v
step_evaluates m leaves s x v values = record {
  inputs = ap (λ (k : ℕ). map v (range_with_len 0 k)) leaves ∙ range_split v 0 m.inputs (length m.latches)
      ∙ ap₂ (λ (xs ys : Bits). xs ++ ys) values.inputs (ap (λ (k : ℕ). map v (range_with_len k (length m.latches))) (let e : 0 + m.inputs ≡ m.inputs = omega arith in e) ∙ unshown (latch_nets m) s v values.latches);
  gates = answered (enumerate_from m.net.leaves m.net.gates) m.net.leaves (m.net.leaves + length m.net.gates) v values.gates;
}
