-- A flat netlist has the cycles of the machine that it is made of.
use Rattle.std.proofs.Common.{◌≡◌, refl, sym, ◌∙◌, ap, ap₂, subst, ℕ, suc, ◌+◌, ◌<◌, Bool, true, false, List, [], ◌∷◌, ◌++◌, length, map, arith}
use Rattle.std.specs.Prelude.{nat_lt, if◌then◌else◌}
use Rattle.std.specs.List.{AllByRecursion, AllZip, range_with_len, enumerate_from}
use Rattle.std.proofs.lemmas.List.{length-map}
use Rattle.std.proofs.lemmas.List.FromFn.{length-range_with_len}
use Rattle.netlist_spec.specs.SourceRun.{Bits}
use Rattle.netlist_spec.specs.Gates.{GateForm, one, gate_answer, Machine, IsMachine, GateValues, GateStep, latch_nets}
use Rattle.gate_net.specs.GateNet.{net_count}
use Rattle.gate_net.proofs.OneEvaluation.{some_values, one_valuation, stored_nets}
use Rattle.elaborated.specs.Flat.{at_gates, copies_of, output_cells, HaveSameSteps}

abbrev Answer : (ℕ → Bool) → ℕ × GateForm → Type 0
Answer v p = v p.0 ≡ gate_answer p.1 v

-- the answers of gates, and of those behind them
answers_split : (v : ℕ → Bool) (a : ℕ) (gates more : List GateForm) → AllByRecursion (Answer v) (enumerate_from a (gates ++ more)) → AllByRecursion (Answer v) (enumerate_from a gates) × AllByRecursion (Answer v) (enumerate_from (a + length gates) more)
answers_split v a [] more h =
    let e : a ≡ a + 0 = omega arith in
    (tt, subst (λ (k : ℕ). AllByRecursion (Answer v) (enumerate_from k more)) e h)
answers_split v a (g ∷ gates) more h =
    let rest = answers_split v (a + 1) gates more h.1 in
    let e : (a + 1) + length gates ≡ a + suc (length gates) = omega arith in
    ((h.0, rest.0), subst (λ (k : ℕ). AllByRecursion (Answer v) (enumerate_from k more)) e rest.1)

-- an output's own cell has the bit of the gate that it copies
cells_copy : (v : ℕ → Bool) (leaves next : ℕ) (ns : List ℕ) → AllByRecursion (Answer v) (enumerate_from next (copies_of leaves ns)) → map v (output_cells leaves next ns) ≡ map v ns
cells_copy v leaves next [] h = refl
cells_copy v leaves next (n ∷ ns) h = by_test (nat_lt n leaves) (cells_copy v leaves next ns) (cells_copy v leaves (next + 1) ns) h
  where
    by_test : (b : Bool) → (AllByRecursion (Answer v) (enumerate_from next (copies_of leaves ns)) → map v (output_cells leaves next ns) ≡ map v ns)
        → (AllByRecursion (Answer v) (enumerate_from (next + 1) (copies_of leaves ns)) → map v (output_cells leaves (next + 1) ns) ≡ map v ns)
        → AllByRecursion (Answer v) (enumerate_from next (map (λ k. one false k) (if b then at_gates leaves ns ns else n ∷ at_gates leaves ns ns)))
        → map v (if b then n ∷ output_cells leaves next ns else next ∷ output_cells leaves (next + 1) ns) ≡ map v (n ∷ ns)
    by_test true same more h = ap (λ l. v n ∷ l) (same h)
    by_test false same more h = ap₂ (λ (b : Bool) (l : Bits). b ∷ l) h.0 (more h.1)

alike : (bound : ℕ) (v w : ℕ → Bool) → ((n : ℕ) → n < bound → v n ≡ w n) → (ns : List ℕ) → AllByRecursion (λ n. n < bound) ns → map w ns ≡ map v ns
alike bound v w same [] h = refl
alike bound v w same (n ∷ ns) h = ap₂ (λ (b : Bool) (l : Bits). b ∷ l) (sym (same n h.0)) (alike bound v w same ns h.1)

as_long : {A B : Type 0} (R : A → B → Type 0) (xs : List A) (ys : List B) → AllZip R xs ys → length ys ≡ length xs
as_long R [] [] h = refl
as_long R [] (y ∷ ys) h = absurd h
as_long R (x ∷ xs) [] h = absurd h
as_long R (x ∷ xs) (y ∷ ys) h = ap suc (as_long R xs ys h.1)

module _ (m : Machine) where
  -- the machine with cells for its outputs
  abbrev pub flat_machine : Machine
  flat_machine =
      record {
        net = record m.net { gates = m.net.gates ++ copies_of m.net.leaves m.outputs };
        inputs = m.inputs;
        latches = m.latches;
        outputs = output_cells m.net.leaves (net_count m.net) m.outputs;
      }

  behind : (v : ℕ → Bool) (s x : Bits) → GateValues flat_machine s x [] v → AllByRecursion (Answer v) (enumerate_from (net_count m.net) (copies_of m.net.leaves m.outputs))
  behind v s x h = (answers_split v m.net.leaves m.net.gates (copies_of m.net.leaves m.outputs) h.gates).1

  restricted : (v : ℕ → Bool) (s x : Bits) → GateValues flat_machine s x [] v → GateValues m s x [] v
  restricted v s x h = record { inputs = h.inputs; latches = h.latches; gates = (answers_split v m.net.leaves m.net.gates (copies_of m.net.leaves m.outputs) h.gates).0 }

  module _ (well : IsMachine m) (flat : IsMachine flat_machine) where
    pub same-steps : HaveSameSteps flat_machine m
    same-steps x s y next = (there, back)
      where
        there : GateStep flat_machine [] x s y next → GateStep m [] x s y next
        there h =
            record {
              values = h.values;
              agrees = restricted h.values s x h.agrees;
              outputs = sym (cells_copy h.values m.net.leaves (net_count m.net) m.outputs (behind h.values s x h.agrees)) ∙ h.outputs;
              stores = h.stores;
            }

        back : GateStep m [] x s y next → GateStep flat_machine [] x s y next
        back h =
            let ins : length x ≡ m.inputs = ap length (sym h.agrees.inputs) ∙ length-map (range_with_len 0 m.inputs) h.values ∙ length-range_with_len 0 m.inputs in
            let state : length s ≡ length m.latches = as_long (λ (q : ℕ) (bit : Bool). h.values q ≡ bit) (latch_nets m) s h.agrees.latches ∙ length-range_with_len m.inputs (length m.latches) in
            let (w, values) = some_values flat_machine flat x s ins state [] in
            let same = one_valuation m well x s [] h.values w h.agrees (restricted w s x values) in
            record {
              values = w;
              agrees = values;
              outputs = cells_copy w m.net.leaves (net_count m.net) m.outputs (behind w s x values) ∙ alike (net_count m.net) h.values w same m.outputs well.outputs ∙ h.outputs;
              stores = alike (net_count m.net) h.values w same (map (λ l. l.d) m.latches) (stored_nets (net_count m.net) m.latches well.stores) ∙ h.stores;
            }
