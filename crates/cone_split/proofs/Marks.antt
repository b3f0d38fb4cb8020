-- The gates of a cone as they are found, the greatest first.
use Rattle.std.proofs.Common.{◌≡◌, sym, ◌∙◌, ap, subst, refl, ℕ, ◌+◌, ◌-◌, ◌<◌, ◌≤◌, ◌⊎◌, inl, inr, List, [], ◌∷◌, ◌++◌, length, get_or, reverse, false, true, Contains, arith, Some, slice_get}
use Rattle.std.specs.List.{AllByRecursion, All}
use Rattle.std.specs.Ordering.{nat_cmp}
use Rattle.std.specs.BTreeMap.Range.{IsLtBy}
use Rattle.std.proofs.lemmas.List.Elements.{Contains-push_cases, Contains-push, Contains-append_left}
use Rattle.std.proofs.lemmas.List.{reverse-append}
use Rattle.netlist_spec.specs.Gates.{GateForm, GateList, IsGateList, ReadsNet, gate_reads}
use Rattle.gate_net.specs.GateNet.{net_count}
use Rattle.cone_split.specs.Cones.{IsInCone, is_root, is_read}
use Rattle.cone_split.specs.Copies.{Rises, GainsGates, AreConeOf}
use Rattle.cone_split.proofs.Cells.{contains_head, contains_tail, contains_cases, all_contains, less_from}
use Rattle.cone_split.proofs.Copied.{net_reads_below}

-- The found gates are closed but for pending ones, which are all lower.
pub record HasMarked (net : GateList) (roots found pending : List ℕ) : Type 0 where
  pub rise : Rises net.leaves found
  pub lower : (n : ℕ) → Contains pending n → (net.leaves ≤ n) × (n < net_count net) × (n < get_or found 0 (net_count net))
  pub within : AllByRecursion (λ n. n < net_count net) found
  pub closed : (n k : ℕ) → Contains found n → ReadsNet net n k → net.leaves ≤ k → Contains found k ⊎ Contains pending k
  pub roots_in : (n : ℕ) → Contains roots n → net.leaves ≤ n → Contains found n ⊎ Contains pending n
  pub alone_found : (n : ℕ) → Contains found n → IsInCone net roots n
  pub alone_pending : (n : ℕ) → Contains pending n → IsInCone net roots n

none_there : {X : Type 0} (x : X) → Contains [] x → ⊥
none_there x c = let h = c.1 in omega arith

-- at first the roots are pending
pub marked_first : (net : GateList) (roots pending : List ℕ) → AllByRecursion (λ n. n < net_count net) roots → GainsGates net.leaves [] pending roots → HasMarked net roots [] pending
marked_first net roots pending small g = record {
  rise = tt;
  lower = λ n c. elim (g.alone n c) [ inl d ↦ absurd (none_there n d) | inr d ↦ (d.1, all_contains (λ k. k < net_count net) roots n small d.0, all_contains (λ k. k < net_count net) roots n small d.0) ];
  within = tt;
  closed = λ n k c r low. absurd (none_there n c);
  roots_in = λ n c low. inr (g.added n c low);
  alone_found = λ n c. absurd (none_there n c);
  alone_pending = λ n c. elim (g.alone n c) [ inl d ↦ absurd (none_there n d) | inr d ↦ is_root d.0 ];
}

rises_cons : (low n end : ℕ) (ns : List ℕ) → low ≤ n → n < get_or ns 0 end → Rises low ns → Rises low (n ∷ ns)
rises_cons low n end [] a b r = (a, tt)
rises_cons low n end (m ∷ ns) a b r = (a, (b', r.1))
  where
    b' : n + 1 ≤ m
    b' = omega arith

module _ (net : GateList) (roots found old rest pending : List ℕ) (n : ℕ) (gate : GateForm) (well : IsGateList net) (m : HasMarked net roots found old) (split : old ≡ rest ++ n ∷ []) (below : All (λ q. IsLtBy nat_cmp q n) rest) (is_gate : slice_get net.gates (n - net.leaves) ≡ Some gate) (g : GainsGates net.leaves rest pending (gate_reads gate)) where
  there : Contains old n
  there = subst (λ (ks : List ℕ). Contains ks n) (sym split) (Contains-push rest n)

  in_old : (k : ℕ) → Contains rest k → Contains old k
  in_old k c = subst (λ (ks : List ℕ). Contains ks k) (sym split) (Contains-append_left rest (n ∷ []) k c)

  reads : (k : ℕ) → Contains (gate_reads gate) k → ReadsNet net n k
  reads k c = record { place = n - net.leaves; number = (let h = (m.lower n there).0 in omega arith); gate = gate; is_gate = is_gate; reads = c }

  less : (k : ℕ) → Contains rest k → k < n
  less k c = less_from k n (subst (λ (q : ℕ). IsLtBy nat_cmp q n) c.2 (below c.0 k c.1))

  -- what was pending is found now, or is pending still
  still : (k : ℕ) → Contains old k → Contains (n ∷ found) k ⊎ Contains pending k
  still k c = elim (Contains-push_cases rest n k (subst (λ (ks : List ℕ). Contains ks k) split c)) [ inl d ↦ inr (g.kept k d) | inr e ↦ inl (subst (λ (q : ℕ). Contains (n ∷ found) q) e (contains_head n found)) ]

  moved : (k : ℕ) → Contains found k ⊎ Contains old k → Contains (n ∷ found) k ⊎ Contains pending k
  moved k (inl c) = inl (contains_tail n k found c)
  moved k (inr c) = still k c

  -- the greatest pending gate is found, and the gates that it reads are pending
  pub marked_more : HasMarked net roots (n ∷ found) pending
  marked_more = record {
    rise = rises_cons net.leaves n (net_count net) found (m.lower n there).0 (m.lower n there).2 m.rise;
    lower = λ k c. elim (g.alone k c) [
      | inl d ↦ (let l = m.lower k (in_old k d) in (l.0, l.1, less k d))
      | inr d ↦ (let l = net_reads_below net n k well (reads k d.0) in let h = (m.lower n there).1 in let low : net.leaves ≤ k = d.1 in let small : k < net_count net = omega arith in (low, small, l))
    ];
    within = ((m.lower n there).1, m.within);
    closed = λ q k c r low. elim (contains_cases n q found c) [
      | inl e ↦ inr (g.added k (same_gate q k e r) low)
      | inr d ↦ moved k (m.closed q k d r low)
    ];
    roots_in = λ q c low. moved q (m.roots_in q c low);
    alone_found = λ q c. elim (contains_cases n q found c) [ inl e ↦ subst (λ (k : ℕ). IsInCone net roots k) e (m.alone_pending n there) | inr d ↦ m.alone_found q d ];
    alone_pending = λ q c. elim (g.alone q c) [ inl d ↦ m.alone_pending q (in_old q d) | inr d ↦ is_read (m.alone_pending n there) (reads q d.0) ];
  }
    where
      same_gate : (q k : ℕ) → n ≡ q → ReadsNet net q k → Contains (gate_reads gate) k
      same_gate q k e r =
          let place : r.place ≡ n - net.leaves = let f = r.number in omega arith in
          let same : Some r.gate ≡ Some gate = sym r.is_gate ∙ (ap (λ p. slice_get net.gates p) place ∙ is_gate) in
          let one : r.gate ≡ gate = cc same in
          subst (λ (f : GateForm). Contains (gate_reads f) k) one r.reads

-- where nothing is pending, the found gates are the cone
pub marked_all : (net : GateList) (roots found : List ℕ) → HasMarked net roots found [] → AreConeOf net roots found
marked_all net roots found m = record {
  all = record {
    rise = m.rise;
    within = m.within;
    closed = λ n k c r low. elim (m.closed n k c r low) [ inl d ↦ d | inr d ↦ absurd (none_there k d) ];
  };
  roots_in = λ n c low. elim (m.roots_in n c low) [ inl d ↦ d | inr d ↦ absurd (none_there n d) ];
  alone = m.alone_found;
}

-- the same where the lists are given by equations
pub marked_at_first : (net : GateList) (roots found old pending : List ℕ) (leaves : ℕ) → leaves ≡ net.leaves → old ≡ [] → found ≡ [] → AllByRecursion (λ n. n < net_count net) roots → GainsGates leaves old pending roots → HasMarked net roots found pending
marked_at_first net roots found old pending leaves e f h small g =
    subst (λ (ks : List ℕ). HasMarked net roots ks pending) (sym h)
    (marked_first net roots pending small
    (subst (λ (ks : List ℕ). GainsGates net.leaves ks pending roots) f (subst (λ (l : ℕ). GainsGates l old pending roots) e g)))

pub greatest_there : (old rest : List ℕ) (n : ℕ) → old ≡ rest ++ n ∷ [] → Contains old n
greatest_there old rest n split = subst (λ (ks : List ℕ). Contains ks n) (sym split) (Contains-push rest n)

pub reverse_more : (xs ys : List ℕ) (n : ℕ) → ys ≡ xs ++ n ∷ [] → reverse ys ≡ n ∷ reverse xs
reverse_more xs ys n e = ap reverse e ∙ reverse-append xs (n ∷ [])

pub marked_at_more : (net : GateList) (roots found more old rest pending : List ℕ) (n leaves : ℕ) (gate : GateForm) → IsGateList net → leaves ≡ net.leaves → HasMarked net roots (reverse found) old → more ≡ found ++ n ∷ [] → old ≡ rest ++ n ∷ [] → All (λ q. IsLtBy nat_cmp q n) rest
    → slice_get net.gates (n - net.leaves) ≡ Some gate → GainsGates leaves rest pending (gate_reads gate) → HasMarked net roots (reverse more) pending
marked_at_more net roots found more old rest pending n leaves gate well e m longer split below is_gate g =
    subst (λ (ks : List ℕ). HasMarked net roots ks pending) (sym (reverse_more found more n longer))
    (marked_more net roots (reverse found) old rest pending n gate well m split below is_gate (subst (λ (l : ℕ). GainsGates l rest pending (gate_reads gate)) e g))

pub marked_at_all : (net : GateList) (roots found cells pending : List ℕ) → pending ≡ [] → cells ≡ reverse found → HasMarked net roots (reverse found) pending → AreConeOf net roots cells
marked_at_all net roots found cells pending e f m =
    subst (λ (ks : List ℕ). AreConeOf net roots ks) (sym f) (marked_all net roots (reverse found) (subst (λ (ks : List ℕ). HasMarked net roots (reverse found) ks) e m))

pub none_left : (ks : List ℕ) → (0 < length ks → false ≡ true) → ks ≡ []
none_left [] h = refl
none_left (k ∷ ks) h = let clash : false ≡ true = h (omega arith) in cc clash
