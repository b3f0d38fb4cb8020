-- The cells of outputs, one more at a time.
use Rattle.std.proofs.Common.{◌≡◌, refl, sym, ◌∙◌, ap, subst, ℕ, zero, suc, ◌+◌, ◌<◌, ◌≤◌, Bool, true, false, List, [], ◌∷◌, ◌++◌, length, map, take, slice_get, Some, arith, length-append}
use Rattle.std.specs.Prelude.{nat_lt, if◌then◌else◌}
use Rattle.std.specs.List.{AllByRecursion, enumerate_from}
use Rattle.std.proofs.lemmas.List.{map-append, length-map, append_assoc}
use Rattle.netlist_spec.specs.Gates.{GateForm, constant, one, two, GateList, ReadsBelow, gate_reads}
use Rattle.gate_net.specs.GateNet.{net_count}
use Rattle.elaborated.specs.Flat.{at_gates, copies_of, output_cells, AreFlatNets}

pub few_at_gates : {A : Type 0} (leaves : ℕ) (xs : List A) (ns : List ℕ) → length (at_gates leaves xs ns) ≤ length xs
few_at_gates leaves [] ns = omega arith
few_at_gates leaves (x ∷ xs) [] = omega arith
few_at_gates leaves (x ∷ xs) (n ∷ ns) = by_test (nat_lt n leaves) (few_at_gates leaves xs ns)
  where
    by_test : (b : Bool) → length (at_gates leaves xs ns) ≤ length xs → length (if b then at_gates leaves xs ns else x ∷ at_gates leaves xs ns) ≤ suc (length xs)
    by_test true h = omega arith
    by_test false h = omega arith

pub at_gates-push : {A : Type 0} (leaves : ℕ) (xs : List A) (ns : List ℕ) (x : A) (n : ℕ) → length ns ≡ length xs → at_gates leaves (xs ++ x ∷ []) (ns ++ n ∷ []) ≡ at_gates leaves xs ns ++ at_gates leaves (x ∷ []) (n ∷ [])
at_gates-push leaves [] [] x n e = refl
at_gates-push leaves [] (k ∷ ns) x n e = absurd (omega arith)
at_gates-push leaves (y ∷ xs) [] x n e = absurd (omega arith)
at_gates-push {A} leaves (y ∷ xs) (k ∷ ns) x n e = by_test (nat_lt k leaves) (at_gates-push leaves xs ns x n (omega arith))
  where
    by_test : (b : Bool) → at_gates leaves (xs ++ x ∷ []) (ns ++ n ∷ []) ≡ at_gates leaves xs ns ++ at_gates leaves (x ∷ []) (n ∷ [])
        → (if b then at_gates leaves (xs ++ x ∷ []) (ns ++ n ∷ []) else y ∷ at_gates leaves (xs ++ x ∷ []) (ns ++ n ∷ [])) ≡ (if b then at_gates leaves xs ns else y ∷ at_gates leaves xs ns) ++ at_gates leaves (x ∷ []) (n ∷ [])
    by_test true h = h
    by_test false h = ap (λ (l : List A). y ∷ l) h

pub copies-push : (leaves : ℕ) (ns : List ℕ) (n : ℕ) → copies_of leaves (ns ++ n ∷ []) ≡ copies_of leaves ns ++ copies_of leaves (n ∷ [])
copies-push leaves ns n = ap (map (λ k. one false k)) (at_gates-push leaves ns ns n n refl) ∙ map-append (λ k. one false k) (at_gates leaves ns ns) (at_gates leaves (n ∷ []) (n ∷ []))

pub cells-push : (leaves next : ℕ) (ns : List ℕ) (n : ℕ) → output_cells leaves next (ns ++ n ∷ []) ≡ output_cells leaves next ns ++ (if nat_lt n leaves then n else next + length (at_gates leaves ns ns)) ∷ []
cells-push leaves next [] n = by_test (nat_lt n leaves)
  where
    by_test : (b : Bool) → (if b then n ∷ [] else next ∷ []) ≡ (if b then n else next + 0) ∷ []
    by_test true = refl
    by_test false = let e : next ≡ next + 0 = omega arith in ap (λ k. k ∷ []) e
cells-push leaves next (x ∷ ns) n = by_test (nat_lt x leaves) (cells-push leaves next ns n) (cells-push leaves (next + 1) ns n)
  where
    by_test : (b : Bool) → output_cells leaves next (ns ++ n ∷ []) ≡ output_cells leaves next ns ++ (if nat_lt n leaves then n else next + length (at_gates leaves ns ns)) ∷ []
        → output_cells leaves (next + 1) (ns ++ n ∷ []) ≡ output_cells leaves (next + 1) ns ++ (if nat_lt n leaves then n else (next + 1) + length (at_gates leaves ns ns)) ∷ []
        → (if b then x ∷ output_cells leaves next (ns ++ n ∷ []) else next ∷ output_cells leaves (next + 1) (ns ++ n ∷ []))
        ≡ (if b then x ∷ output_cells leaves next ns else next ∷ output_cells leaves (next + 1) ns) ++ (if nat_lt n leaves then n else next + length (if b then at_gates leaves ns ns else x ∷ at_gates leaves ns ns)) ∷ []
    by_test true here later = ap (λ l. x ∷ l) here
    by_test false here later =
        let place : (next + 1) + length (at_gates leaves ns ns) ≡ next + suc (length (at_gates leaves ns ns)) = omega arith in
        ap (λ l. next ∷ l) (later ∙ ap (λ k. output_cells leaves (next + 1) ns ++ (if nat_lt n leaves then n else k) ∷ []) place)

-- one more output
pub flat_nets-push : (base : GateList) (ends : List ℕ) (net new : GateList) (outputs : List ℕ) (n k : ℕ) → AreFlatNets base ends net outputs → new ≡ record net { gates = net.gates ++ copies_of net.leaves (n ∷ []) } → k ≡ (if nat_lt n net.leaves then n else net_count net)
    → AreFlatNets base (ends ++ n ∷ []) new (outputs ++ k ∷ [])
flat_nets-push base ends net new outputs n k are is cell =
    record {
      copies =
          is ∙ ap (λ (g : GateList). record g { gates = g.gates ++ copies_of g.leaves (n ∷ []) }) are.copies
          ∙ ap (λ (l : List GateForm). record base { gates = l }) (append_assoc base.gates (copies_of base.leaves ends) (copies_of base.leaves (n ∷ [])) ∙ ap (λ (l : List GateForm). base.gates ++ l) (sym (copies-push base.leaves ends n)));
      cells =
          ap (λ (l : List ℕ). l ++ k ∷ []) are.cells
          ∙ ap (λ (j : ℕ). output_cells base.leaves (net_count base) ends ++ j ∷ []) (cell ∙ ap (λ (g : GateList). if nat_lt n g.leaves then n else net_count g) are.copies ∙ ap (λ (j : ℕ). if nat_lt n base.leaves then n else j) counted)
          ∙ sym (cells-push base.leaves (net_count base) ends n);
    }
  where
    counted : net_count (record base { gates = base.gates ++ copies_of base.leaves ends }) ≡ net_count base + length (at_gates base.leaves ends ends)
    counted = omega (arith, length-append base.gates (copies_of base.leaves ends), length-map (at_gates base.leaves ends ends) (λ j. one false j))

pub no_outputs : (base : GateList) → AreFlatNets base [] base []
no_outputs base = record { copies = ap (λ (l : List GateForm). record base { gates = l }) (sym (nothing base.gates)); cells = refl }
  where
    nothing : (l : List GateForm) → l ++ [] ≡ l
    nothing [] = refl
    nothing (x ∷ l) = ap (λ r. x ∷ r) (nothing l)

-- how many nets there are with so many outputs
pub counted_nets : (base : GateList) (ends : List ℕ) (net : GateList) (outputs : List ℕ) → AreFlatNets base ends net outputs → (net_count base ≤ net_count net) × (net_count net ≤ net_count base + length ends)
counted_nets base ends net outputs are =
    let count = ap net_count are.copies in
    let few = few_at_gates base.leaves ends ends in
    let more = length-append base.gates (copies_of base.leaves ends) in
    let long = length-map (at_gates base.leaves ends ends) (λ j. one false j) in
    (omega arith, omega arith)

-- a gate reads lower nets
reads_lower : (n : ℕ) (gate : GateForm) → ReadsBelow n gate → AllByRecursion (λ k. k < n) (gate_reads gate)
reads_lower n (constant b) r = tt
reads_lower n (one inv a) r = (r, tt)
reads_lower n (two op a b) r = (r.0, (r.1, tt))

reads_from : (a k : ℕ) (gates : List GateForm) (gate : GateForm) → AllByRecursion (λ (p : ℕ × GateForm). ReadsBelow p.0 p.1) (enumerate_from a gates) → slice_get gates k ≡ Some gate → ReadsBelow (a + k) gate
reads_from a k [] gate h e = absurd (cc e)
reads_from a zero (x ∷ gates) gate h e =
    let same : x ≡ gate = cc e in
    let place : a ≡ a + 0 = omega arith in
    subst (λ (n : ℕ). ReadsBelow n gate) place (subst (λ (g : GateForm). ReadsBelow a g) same h.0)
reads_from a (suc k) (x ∷ gates) gate h e =
    let place : (a + 1) + k ≡ a + suc k = omega arith in
    subst (λ (n : ℕ). ReadsBelow n gate) place (reads_from (a + 1) k gates gate h.1 e)

pub reads_at : (a k n : ℕ) (gates : List GateForm) (gate : GateForm) → AllByRecursion (λ (p : ℕ × GateForm). ReadsBelow p.0 p.1) (enumerate_from a gates) → slice_get gates k ≡ Some gate → n ≡ a + k → AllByRecursion (λ j. j < n) (gate_reads gate)
reads_at a k n gates gate h e place = reads_lower n gate (subst (λ (j : ℕ). ReadsBelow j gate) (sym place) (reads_from a k gates gate h e))

-- the gates so far, and one more
pub taken : {A : Type 0} (xs : List A) (k : ℕ) (x : A) → slice_get xs k ≡ Some x → take (k + 1) xs ≡ take k xs ++ x ∷ []
taken [] k x e = absurd (cc e)
taken {A} (y ∷ xs) zero x e =
    let same : y ≡ x = cc e in
    ap (λ (z : A). z ∷ []) same
taken {A} (y ∷ xs) (suc k) x e =
    let place : suc k + 1 ≡ suc (k + 1) = omega arith in
    ap (λ (j : ℕ). take j (y ∷ xs)) place ∙ ap (λ (l : List A). y ∷ l) (taken xs k x e)
