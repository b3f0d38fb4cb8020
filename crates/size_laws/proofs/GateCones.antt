-- The cone of a net of a machine has one cost.
use Rattle.std.proofs.Common.{◌≡◌, sym, ◌∙◌, subst, refl, ℕ, ◌+◌, ◌<◌, inl, inr, List, [], ◌∷◌, length, map, Contains, arith, Option, Some, None, slice_get}
use Rattle.std.specs.List.{range_with_len}
use Rattle.std.proofs.lemmas.Option.{slice_get_within}
use Rattle.std.proofs.lemmas.List.FromFn.{length-range_with_len, get_or-range_with_len}
use Rattle.std.proofs.lemmas.List.{length-map}
use Rattle.guard_spec.specs.Codes.{Code, Mode}
use Rattle.guard_spec.specs.Words.{Layout}
use Rattle.netlist_spec.specs.Gates.{GateForm, gate_reads, Machine}
use Rattle.netlist_spec.specs.Cones.{marked_sum, IsGateReached, same_net, read_by, GateConeCost}
use Rattle.guard_spec.specs.Plain.{IsMachineSizeWith}
use Rattle.size_laws.specs.Sizes.{Decided, HoldsOfOne, Fits}
use Rattle.size_laws.proofs.Lists.{contains_head, contains_cases, none_there, same_answer, marks_for, one_sum, contains_decided, numbers_decided}
use Rattle.size_laws.proofs.Closure.{IsClosed, closure}
use Rattle.size_laws.proofs.OneSize.{one_size}

in_range : (n p : ℕ) → p < n → Contains (range_with_len 0 n) p
in_range n p h = (p, (let l = length-range_with_len 0 n in omega arith), get_or-range_with_len 0 n p p h ∙ (let e : 0 + p ≡ p = omega arith in e))

module _ (m : Machine) where
  -- the gate at a place drives its net
  abbrev DrivesNet : ℕ → ℕ → Type 0
  DrivesNet place n = n ≡ m.net.leaves + place

  abbrev reads_of : Option GateForm → List ℕ
  reads_of None = []
  reads_of (Some gate) = gate_reads gate

  abbrev reads_at : ℕ → List ℕ
  reads_at place = reads_of (slice_get m.net.gates place)

  abbrev places : List ℕ
  places = range_with_len 0 (length m.net.gates)

  read_further : (x place n k : ℕ) → Contains places place → IsGateReached m x n → DrivesNet place n → Contains (reads_at place) k → IsGateReached m x k
  read_further x place n k there reached number reads = by_gate (slice_get m.net.gates place) refl reads
    where
      by_gate : (o : Option GateForm) → slice_get m.net.gates place ≡ o → Contains (reads_of o) k → IsGateReached m x k
      by_gate None e c = absurd (none_there k c)
      by_gate (Some gate) e c = read_by reached (record { place = place; number = number; gate = gate; is_gate = e; reads = c })

  found_all : (x : ℕ) (found : List ℕ) → IsClosed DrivesNet reads_at (λ p n. numbers_decided n (m.net.leaves + p)) places (IsGateReached m x) (x ∷ []) found → (k : ℕ) → IsGateReached m x k → Contains found k
  found_all x found c k same_net = c.starts x (contains_head x [])
  found_all x found c k (read_by {n = n} reached r) =
      c.closed r.place n k (in_range (length m.net.gates) r.place (slice_get_within m.net.gates r.place r.gate r.is_gate)) (found_all x found c n reached) r.number
      (subst (λ (o : Option GateForm). Contains (reads_of o) k) (sym r.is_gate) r.reads)

  pub reach_decided : (x k : ℕ) → Decided (IsGateReached m x k)
  reach_decided x k =
      let (found, c) = closure DrivesNet reads_at (λ p n. numbers_decided n (m.net.leaves + p)) places (IsGateReached m x) (read_further x) (x ∷ []) (λ n d. elim (contains_cases x n [] d) [ inl e ↦ subst (λ (q : ℕ). IsGateReached m x q) e same_net | inr d ↦ absurd (none_there n d) ]) in
      same_answer (c.alone k) (found_all x found c k) (contains_decided numbers_decided found k)

  pub one_gate_cone_cost : (x : ℕ) → HoldsOfOne (GateConeCost m x)
  one_gate_cone_cost x =
      let (marks, are) = marks_for (λ i. IsGateReached m x (m.net.leaves + i)) (λ i. reach_decided x (m.net.leaves + i)) places in (
        marked_sum (λ i. 1) places marks,
        record {
          holds = (marks, are, refl);
          alone = λ k h. h.2 ∙ one_sum (λ i. IsGateReached m x (m.net.leaves + i)) (λ i. 1) places h.0 marks h.1 are;
        },
      )

  pub one_machine_size : (code : Code) (mode : Mode) (radius rails : ℕ) (l : Layout) → Fits (length m.latches) (length m.outputs) l → HoldsOfOne (IsMachineSizeWith m code mode radius rails l)
  one_machine_size code mode radius rails l fits =
      one_size (GateConeCost m) (λ x i. IsGateReached m x (m.inputs + i)) code mode radius one_gate_cone_cost (λ x i. reach_decided x (m.inputs + i)) rails l (map (λ r. r.d) m.latches) m.outputs
      (subst (λ (n : ℕ). Fits n (length m.outputs) l) (sym (length-map m.latches (λ r. r.d))) fits)
