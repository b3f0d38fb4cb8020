-- Gates that are appended statement by statement: those behind a net are no more than its cone costs.
use Rattle.std.proofs.Common.{◌≡◌, refl, sym, ◌∙◌, ap, subst, ℕ, zero, suc, ◌+◌, ◌-◌, ◌<◌, ◌≤◌, List, [], ◌∷◌, ◌++◌, length, map, take, replicate, get_or, Bool, true, false, cond, ◌⊎◌, inl, inr, Some, ◌==◌, arith, Contains, length-append}
use Rattle.std.proofs.lemmas.Bool.{eqb-true, eqb-false}
use Rattle.std.proofs.lemmas.List.{length-replicate}
use Rattle.std.proofs.lemmas.List.Sums.{sum_by-cons}
use Rattle.std.proofs.lemmas.Option.{slice_get_within}
use Rattle.std.specs.Prelude.{IsTrue, ◌↔◌, slice_get, sum_by}
use Rattle.std.specs.List.{AllByRecursion, AllZip, enumerate_from, range_with_len}
use Rattle.netlist_spec.specs.Netlist.{Name, stands_in, Statement, Located, Model, File}
use Rattle.netlist_spec.specs.Covers.{Library}
use Rattle.netlist_spec.specs.Models.{data_inputs, latch_outputs}
use Rattle.netlist_spec.specs.Size.{cost_of, main_cost, whole_cost}
use Rattle.netlist_spec.specs.Sound.{combines, reads, IsMain}
use Rattle.netlist_spec.specs.Gates.{GateForm, constant, one, two, GateList, ReadsBelow, gate_reads, Machine, IsMachine, ReadsNet}
use Rattle.netlist_spec.specs.Cones.{marked_sum, IsReached, itself, behind, IsInCone, ConeCostOf, RestsOnLatch, IsGateReached, same_net, read_by, GateConeCost}
use Rattle.netlist_spec.specs.Elaborated.{CostsNoMore}
use Rattle.source_laws.specs.Costs.{statements_of, StandsFor, a_leaf, a_gate, passed_on, ReadsAlone, AreGatesOf, no_gates, more_gates}
use Rattle.source_laws.proofs.Lists.{Among, among, contained, all_among}
use Rattle.source_laws.proofs.Cones.{reached_on, cone_on}
use Rattle.source_laws.proofs.Tallies.{get_back, get_front, get_from_front, get_copy, get_new, times, times_append, times_absent, times_copies, times_other, tally, tally_costs, gates_tallied, zip_length, mark_at}

-- ---- gates of a list that grows

get_taken : {A : Type 0} (n : ℕ) (xs : List A) (j : ℕ) → j < n → slice_get (take n xs) j ≡ slice_get xs j
get_taken zero xs j h = absurd (omega arith)
get_taken (suc n) [] j h = refl
get_taken (suc n) (x ∷ xs) zero h = refl
get_taken (suc n) (x ∷ xs) (suc j) h = get_taken n xs j (omega arith)

-- a gate reads lower nets
reads_below : (g : GateForm) (n k : ℕ) → ReadsBelow n g → Contains (gate_reads g) k → k < n
reads_below (constant b) n k r c = absurd (among [] k c)
reads_below (one inv a) n k r c = elim (among (a ∷ []) k c) [ inl e ↦ subst (λ i. i < n) e r | inr x ↦ absurd x ]
reads_below (two op a b) n k r c =
    elim (among (a ∷ b ∷ []) k c) [ inl e ↦ subst (λ i. i < n) e r.0 | inr x ↦ elim x [ inl e ↦ subst (λ i. i < n) e r.1 | inr y ↦ absurd y ] ]

gate_at : (P : ℕ × GateForm → Type 0) (a : ℕ) (gates : List GateForm) (j : ℕ) (g : GateForm) → AllByRecursion P (enumerate_from a gates) → slice_get gates j ≡ Some g → P (a + j, g)
gate_at P a [] j g all e = cc e
gate_at P a (x ∷ gates) zero g all e =
    let n : a ≡ a + 0 = omega arith in
    let same : x ≡ g = cc e in
    subst (λ (p : ℕ × GateForm). P p) (λ i. (n i, same i)) all.0
gate_at P a (x ∷ gates) (suc j) g all e = subst (λ i. P (i, g)) (let n : (a + 1) + j ≡ a + suc j = omega arith in n) (gate_at P (a + 1) gates j g all.1 e)

lower_reads : (machine : Machine) → IsMachine machine → (n k : ℕ) → ReadsNet machine.net n k → k < n
lower_reads machine is n k r =
    reads_below r.gate n k
    (subst (λ i. ReadsBelow i r.gate) (sym r.number) (gate_at (λ (p : ℕ × GateForm). ReadsBelow p.0 p.1) machine.net.leaves machine.net.gates r.place r.gate is.gates r.is_gate))
    r.reads

module _ (file : File) (library : Library) (m : Model) (leaves : ℕ) where
  pub still_stands : {owners : List ℕ} (more : List ℕ) {x : Name} {n : ℕ} → StandsFor file library m leaves owners x n → StandsFor file library m leaves (owners ++ more) x n
  still_stands more (a_leaf e) = a_leaf e
  still_stands {owners = owners} more (a_gate place owner s is at is_s c d) = a_gate place owner s is (get_front owners more place owner at) is_s c d
  still_stands more (passed_on r st) = passed_on r (still_stands more st)

  owners_count : {owners : List ℕ} {net : GateList} → AreGatesOf file library m leaves owners net → length owners ≡ length net.gates
  owners_count no_gates = refl
  owners_count (more_gates {owners = owners} {old = old} {new = new} owner count s ins before is_s c fresh same_leaves same_gates more within alone stand) =
      let a = owners_count before in
      let b = length-append owners (replicate count owner) in
      let d = length-replicate count owner in
      omega arith

  leaves_are : {owners : List ℕ} {net : GateList} → AreGatesOf file library m leaves owners net → net.leaves ≡ leaves
  leaves_are no_gates = refl
  leaves_are (more_gates owner count s ins before is_s c fresh same_leaves same_gates more within alone stand) = same_leaves ∙ leaves_are before

  -- each owner is a statement that combines
  record IsOwner (owner : ℕ) : Type 0 where
    statement : Statement
    stands : slice_get (statements_of m) owner ≡ Some statement
    combines : IsTrue (combines statement)

  owner_at : {owners : List ℕ} {net : GateList} → AreGatesOf file library m leaves owners net → (j o : ℕ) → slice_get owners j ≡ Some o → IsOwner o
  owner_at no_gates j o e = cc e
  owner_at (more_gates {owners = owners} owner count s ins before is_s c fresh same_leaves same_gates more within alone stand) j o e = by_case (order j (length owners)) (owner_at before j o)
    where
      order : (j n : ℕ) → (j < n) ⊎ (n ≤ j)
      order j n = grind arith

      by_case : (j < length owners) ⊎ (length owners ≤ j) → (slice_get owners j ≡ Some o → IsOwner o) → IsOwner o
      by_case (inl h) earlier = earlier (get_from_front owners (replicate count owner) j o h e)
      by_case (inr h) earlier = record { statement = s; stands = subst (λ i. slice_get (statements_of m) i ≡ Some s) (sym (get_copy owners count owner j o h e)) is_s; combines = c }

  -- no owner has more gates than it costs
  within_cost : {owners : List ℕ} {net : GateList} → AreGatesOf file library m leaves owners net → (i : ℕ) (x : Statement) → slice_get (statements_of m) i ≡ Some x → times i owners ≤ cost_of file library x
  within_cost no_gates i x e = omega arith
  within_cost (more_gates {owners = owners} owner count s ins before is_s c fresh same_leaves same_gates more within alone stand) i x e =
      by_case (owner == i) refl (within_cost before i x e) (times_append i owners (replicate count owner))
    where
      by_case : (b : Bool) → (owner == i) ≡ b → times i owners ≤ cost_of file library x → times i (owners ++ replicate count owner) ≡ times i owners + times i (replicate count owner) → times i (owners ++ replicate count owner) ≤ cost_of file library x
      by_case true t earlier all =
          let same : owner ≡ i = eqb-true owner i t in
          let is_x : s ≡ x = let at : Some s ≡ Some x = sym is_s ∙ (ap (slice_get (statements_of m)) same ∙ e) in cc at in
          let none : times i owners ≡ 0 = times_absent i owners (λ h. fresh (subst (λ o. Contains owners o) (sym same) h)) in
          let few = times_copies i count owner in
          let cost : count ≤ cost_of file library x = subst (λ y. count ≤ cost_of file library y) is_x within in
          omega arith
      by_case false t earlier all = let none = times_other i count owner (eqb-false owner i t) in omega arith

  -- what a gate of an owner reads: a gate of it, or a net that stands for what its statement reads
  abbrev Behind : List ℕ → ℕ → ℕ → Type 0
  Behind owners o k =
      (s : Statement) × (slice_get (statements_of m) o ≡ Some s)
      × (((i : ℕ) × (k ≡ leaves + i) × (slice_get owners i ≡ Some o)) ⊎ ((r : Name) × IsTrue (stands_in r (reads file library s)) × StandsFor file library m leaves owners r k))

  still_behind : (owners more : List ℕ) (o k : ℕ) → Behind owners o k → Behind (owners ++ more) o k
  still_behind owners more o k (s, is_s, inl (i, is, at)) = (s, is_s, inl (i, is, get_front owners more i o at))
  still_behind owners more o k (s, is_s, inr (r, in_reads, st)) = (s, is_s, inr (r, in_reads, still_stands more st))

  read_in_old : (old new : GateList) → new.leaves ≡ old.leaves → take (length old.gates) new.gates ≡ old.gates → (n k : ℕ) → ReadsNet old n k → ReadsNet new n k
  read_in_old old new same_leaves same_gates n k r =
      record {
        place = r.place;
        number = r.number ∙ ap (λ i. i + r.place) (sym same_leaves);
        gate = r.gate;
        is_gate = sym (get_taken (length old.gates) new.gates r.place (slice_get_within old.gates r.place r.gate r.is_gate)) ∙ (ap (λ gs. slice_get gs r.place) same_gates ∙ r.is_gate);
        reads = r.reads;
      }

  read_from_old : (old new : GateList) → new.leaves ≡ old.leaves → take (length old.gates) new.gates ≡ old.gates → (n k : ℕ) → n < old.leaves + length old.gates → ReadsNet new n k → ReadsNet old n k
  read_from_old old new same_leaves same_gates n k h r =
      let number : n ≡ old.leaves + r.place = r.number ∙ ap (λ i. i + r.place) same_leaves in
      let within : r.place < length old.gates = omega arith in
      record {
        place = r.place;
        number = number;
        gate = r.gate;
        is_gate = ap (λ gs. slice_get gs r.place) (sym same_gates) ∙ (get_taken (length old.gates) new.gates r.place within ∙ r.is_gate);
        reads = r.reads;
      }

  reads_behind : {owners : List ℕ} {net : GateList} → AreGatesOf file library m leaves owners net → ((n k : ℕ) → ReadsNet net n k → k < n) → (j o : ℕ) → slice_get owners j ≡ Some o → (k : ℕ) → ReadsNet net (leaves + j) k → Behind owners o k
  reads_behind no_gates below j o e k r = cc e
  reads_behind (more_gates {owners = owners} {old = old} {new = new} owner count s ins before is_s c fresh same_leaves same_gates more within alone stand) below j o e k r =
      by_case (order j (length owners)) (reads_behind before (λ n i q. below n i (read_in_old old new same_leaves same_gates n i q)) j o)
    where
      order : (j n : ℕ) → (j < n) ⊎ (n ≤ j)
      order j n = grind arith

      count_is : length owners ≡ length old.gates
      count_is = owners_count before

      old_leaves : old.leaves ≡ leaves
      old_leaves = leaves_are before

      new_gate : length owners ≤ j → (slice_get (statements_of m) o ≡ Some s) × (o ≡ owner)
      new_gate h = let same = get_copy owners count owner j o h e in (subst (λ i. slice_get (statements_of m) i ≡ Some s) (sym same) is_s, same)

      by_case : (j < length owners) ⊎ (length owners ≤ j) → (slice_get owners j ≡ Some o → (k : ℕ) → ReadsNet old (leaves + j) k → Behind owners o k) → Behind (owners ++ replicate count owner) o k
      by_case (inl h) earlier =
          let a = count_is in
          let b = old_leaves in
          still_behind owners (replicate count owner) o k
          (earlier (get_from_front owners (replicate count owner) j o h e) k (read_from_old old new same_leaves same_gates (leaves + j) k (omega arith) r))
      by_case (inr h) earlier =
          let a = count_is in
          let b = old_leaves in
          let is = new_gate h in
          elim (alone (leaves + j) k (omega arith) r) [
            | inl given ↦
                let (x, in_reads, st) = all_among (λ k. (r : Name) × IsTrue (stands_in r (reads file library s)) × StandsFor file library m leaves owners r k) ins stand k (among ins k given) in
                (s, is.0, inr (x, in_reads, still_stands (replicate count owner) st))
            | inr later ↦
                let lower = below (leaves + j) k r in
                let within_new = slice_get_within (owners ++ replicate count owner) j o e in
                let x = length-append owners (replicate count owner) in
                let y = length-replicate count owner in
                (s, is.0, inl (k - leaves, (let z : k ≡ leaves + (k - leaves) = omega arith in z), get_new owners count owner (k - leaves) (omega arith) (omega arith) ∙ ap (λ (i : ℕ). Some i) (sym is.1)))
          ]

  -- ---- nets behind a net

  -- A net is a leaf whose name is reached, or a gate of a statement of the cone.
  abbrev IsPlaced : List ℕ → Name → ℕ → Type 0
  IsPlaced owners x n =
      ((y : Name) × IsReached file library m x y × (slice_get (data_inputs m ++ latch_outputs m) n ≡ Some y))
      ⊎ ((j : ℕ) × (o : ℕ) × (s : Statement) × (n ≡ leaves + j) × (slice_get owners j ≡ Some o) × (slice_get (statements_of m) o ≡ Some s) × IsInCone file library m x s)

  located_on : (owners : List ℕ) (x k : Name) (n : ℕ) → IsReached file library m x k → IsPlaced owners k n → IsPlaced owners x n
  located_on owners x k n way (inl (y, on, at)) = inl (y, reached_on file library m way on, at)
  located_on owners x k n way (inr l) = inr (l.0, l.1, l.2, l.3, l.4, l.5, cone_on file library m x k l.2 way l.6)

  locate : {owners : List ℕ} {x : Name} {n : ℕ} → StandsFor file library m leaves owners x n → IsPlaced owners x n
  locate {x = x} (a_leaf e) = inl (x, itself, e)
  locate {x = x} (a_gate place owner s is at is_s c d) = inr (place, owner, s, is, at, is_s, (c, x, d, itself))
  locate {owners = owners} {x = x} {n = n} (passed_on {k = k} r st) = located_on owners x k n (behind itself r) (locate st)

  some_element : (xs : List Statement) (i : ℕ) (x : Statement) → slice_get xs i ≡ Some x → Among x xs
  some_element [] i x e = cc e
  some_element (y ∷ xs) zero x e = inl (let same : y ≡ x = cc e in same)
  some_element (y ∷ xs) (suc i) x e = inr (some_element xs i x e)

module _ (file : File) (library : Library) (m : Model) (machine : Machine) (is : IsMachine machine) (inputs_are : machine.inputs ≡ length (data_inputs m)) (latches_are : length machine.latches ≡ length (latch_outputs m))
    (owners : List ℕ) (gates_of : AreGatesOf file library m machine.net.leaves owners machine.net) where
  leaf_count : machine.net.leaves ≡ length (data_inputs m ++ latch_outputs m)
  leaf_count = let a = is.leaves in let b = length-append (data_inputs m) (latch_outputs m) in omega arith

  one_back : (x : Name) (n k : ℕ) → IsPlaced file library m machine.net.leaves owners x n → ReadsNet machine.net n k → IsPlaced file library m machine.net.leaves owners x k
  one_back x n k (inl (y, way, at)) r =
      let h = slice_get_within (data_inputs m ++ latch_outputs m) n y at in
      let a = leaf_count in
      let b = r.number in
      absurd (omega arith)
  one_back x n k (inr (j, o, s, n_is, o_at, s_at, cone)) r =
      let (t, t_at, reads_what) = reads_behind file library m machine.net.leaves gates_of (lower_reads machine is) j o o_at k (subst (λ i. ReadsNet machine.net i k) n_is r) in
      let same : t ≡ s = let e : Some t ≡ Some s = sym t_at ∙ s_at in cc e in
      by_case t same t_at reads_what
    where
      by_case : (t : Statement) → t ≡ s → slice_get (statements_of m) o ≡ Some t
          → ((i : ℕ) × (k ≡ machine.net.leaves + i) × (slice_get owners i ≡ Some o)) ⊎ ((r : Name) × IsTrue (stands_in r (reads file library t)) × StandsFor file library m machine.net.leaves owners r k)
          → IsPlaced file library m machine.net.leaves owners x k
      by_case t same t_at (inl (i, k_is, i_at)) = inr (i, o, s, k_is, i_at, s_at, cone)
      by_case t same t_at (inr (y, in_reads, st)) =
          let (c, z, d, way) = cone in
          let in_s : IsTrue (stands_in y (reads file library s)) = subst (λ w. IsTrue (stands_in y (reads file library w))) same in_reads in
          located_on file library m machine.net.leaves owners x y k (behind way (s, contained (statements_of m) s (some_element file library m machine.net.leaves (statements_of m) o s s_at), c, d, in_s)) (locate file library m machine.net.leaves st)

  all_back : (x : Name) {n k : ℕ} → IsPlaced file library m machine.net.leaves owners x n → IsGateReached machine n k → IsPlaced file library m machine.net.leaves owners x k
  all_back x l same_net = l
  all_back x l (read_by {n = i} {k = k} way r) = one_back x i k (all_back x l way) r

  module _ (x : Name) (n : ℕ) (stand : StandsFor file library m machine.net.leaves owners x n) where
    gate_in_cone : (j o : ℕ) (cs : List Bool) → AllZip (λ s mark. IsTrue mark ↔ IsInCone file library m x s) (statements_of m) cs → slice_get owners j ≡ Some o → IsGateReached machine n (machine.net.leaves + j) → get_or cs o false ≡ true
    gate_in_cone j o cs marked o_at way = by_case (all_back x (locate file library m machine.net.leaves stand) way)
      where
        by_case : IsPlaced file library m machine.net.leaves owners x (machine.net.leaves + j) → get_or cs o false ≡ true
        by_case (inl (y, reached, at)) =
            let h = slice_get_within (data_inputs m ++ latch_outputs m) (machine.net.leaves + j) y at in
            let a = leaf_count in
            absurd (omega arith)
        by_case (inr (i, p, s, number, p_at, s_at, cone)) =
            let same : i ≡ j = omega arith in
            let one : p ≡ o = let e : Some p ≡ Some o = sym p_at ∙ (ap (slice_get owners) same ∙ o_at) in cc e in
            mark_at (IsInCone file library m x) (statements_of m) cs o s marked (subst (λ q. slice_get (statements_of m) q ≡ Some s) one s_at) cone

    cone_cost : (gates cone : ℕ) → GateConeCost machine n gates → ConeCostOf file library m x cone → gates ≤ cone
    cone_cost gates cone (bs, gates_marked, gates_are) (cs, cone_marked, cone_is) =
        let count_is : length owners ≡ length machine.net.gates = owners_count file library m machine.net.leaves gates_of in
        let few : marked_sum (λ i. 1) (range_with_len 0 (length owners)) bs ≤ tally cs owners =
        gates_tallied (λ i. IsGateReached machine n (machine.net.leaves + i)) cs 0 owners bs
        (subst (λ l. AllZip (λ i mark. IsTrue mark ↔ IsGateReached machine n (machine.net.leaves + i)) (range_with_len 0 l) bs) (sym count_is) gates_marked)
        (λ j o at way. gate_in_cone j o cs cone_marked at (subst (λ i. IsGateReached machine n (machine.net.leaves + i)) (let z : 0 + j ≡ j = omega arith in z) way)) in
        let same : marked_sum (λ i. 1) (range_with_len 0 (length owners)) bs ≡ marked_sum (λ i. 1) (range_with_len 0 (length machine.net.gates)) bs = ap (λ l. marked_sum (λ i. 1) (range_with_len 0 l) bs) count_is in
        let costs = tally_costs (cost_of file library) (statements_of m) cs owners (zip_length _ (statements_of m) cs cone_marked) (within_cost file library m machine.net.leaves gates_of) in
        omega arith

    rests_on : (i : ℕ) → i < length machine.latches → IsGateReached machine n (machine.inputs + i) → RestsOnLatch file library m x i
    rests_on i h way = by_case (all_back x (locate file library m machine.net.leaves stand) way)
      where
        by_case : IsPlaced file library m machine.net.leaves owners x (machine.inputs + i) → RestsOnLatch file library m x i
        by_case (inl (y, reached, at)) =
            (y, sym (get_back (data_inputs m) (latch_outputs m) i) ∙ (ap (λ k. slice_get (data_inputs m ++ latch_outputs m) (k + i)) (sym inputs_are) ∙ at), reached)
        by_case (inr (j, o, s, number, o_at, s_at, cone)) = let a = is.leaves in absurd (omega arith)

    pub costs_no_more : CostsNoMore file library m machine x n
    costs_no_more = record { cost = cone_cost; latches = rests_on }

-- ---- all gates

module _ (file : File) (library : Library) (m : Model) where
  all_marked : (j : ℕ) (ss : List Statement) → j < length ss → get_or (map (λ (s : Statement). true) ss) j false ≡ true
  all_marked j [] h = absurd (omega arith)
  all_marked zero (s ∷ ss) h = refl
  all_marked (suc j) (s ∷ ss) h = all_marked j ss (omega arith)

  all_tallied : (os : List ℕ) → ((j o : ℕ) → slice_get os j ≡ Some o → o < length (statements_of m)) → length os ≤ tally (map (λ (s : Statement). true) (statements_of m)) os
  all_tallied [] f = omega arith
  all_tallied (o ∷ os) f = by_case (get_or (map (λ (s : Statement). true) (statements_of m)) o false) (all_marked o (statements_of m) (f 0 o refl)) (all_tallied os (λ j p e. f (suc j) p e))
    where
      by_case : (b : Bool) → b ≡ true → length os ≤ tally (map (λ (s : Statement). true) (statements_of m)) os → length (o ∷ os) ≤ cond b 1 0 + tally (map (λ (s : Statement). true) (statements_of m)) os
      by_case true e h = omega arith
      by_case false e h = cc e

  all_costs : (ss : List Located) → marked_sum (cost_of file library) (map (λ (l : Located). l.what) ss) (map (λ (s : Statement). true) (map (λ (l : Located). l.what) ss)) ≡ sum_by (λ (l : Located). cost_of file library l.what) ss
  all_costs [] = refl
  all_costs (s ∷ ss) =
      let e = all_costs ss in
      let f = sum_by-cons (λ (l : Located). cost_of file library l.what) s ss in
      omega arith

  marks_length : (ss : List Statement) → length (map (λ (s : Statement). true) ss) ≡ length ss
  marks_length [] = refl
  marks_length (s ∷ ss) = ap suc (marks_length ss)

  pub gates_within_cost : (net : GateList) (owners : List ℕ) → IsMain file m → AreGatesOf file library m net.leaves owners net → length net.gates ≤ whole_cost file library
  gates_within_cost net owners main gates_of =
      let count_is : length owners ≡ length net.gates = owners_count file library m net.leaves gates_of in
      let few = all_tallied owners (λ j o at. let w = owner_at file library m net.leaves gates_of j o at in slice_get_within (statements_of m) o w.statement w.stands) in
      let costs = tally_costs (cost_of file library) (statements_of m) (map (λ (s : Statement). true) (statements_of m)) owners (marks_length (statements_of m)) (within_cost file library m net.leaves gates_of) in
      let all = all_costs m.statements in
      let whole : whole_cost file library ≡ sum_by (λ (l : Located). cost_of file library l.what) m.statements = ap (main_cost file library) main in
      omega arith

-- ---- gates that are appended in two steps

pub reads_compose : (old middle new : GateList) (ins more : List ℕ) → middle.leaves ≡ old.leaves → new.leaves ≡ middle.leaves → length old.gates ≤ length middle.gates → take (length middle.gates) new.gates ≡ middle.gates
    → ReadsAlone middle (old.leaves + length old.gates) ins → ReadsAlone new (middle.leaves + length middle.gates) more
    → AllByRecursion (λ k. Contains ins k ⊎ (old.leaves + length old.gates ≤ k)) more → ReadsAlone new (old.leaves + length old.gates) ins
reads_compose old middle new ins more same_leaves new_leaves longer same_gates first second all n k h r = by_case (order n (middle.leaves + length middle.gates))
  where
    order : (j n : ℕ) → (j < n) ⊎ (n ≤ j)
    order j n = grind arith

    by_case : (n < middle.leaves + length middle.gates) ⊎ (middle.leaves + length middle.gates ≤ n) → Contains ins k ⊎ (old.leaves + length old.gates ≤ k)
    by_case (inl less) = first n k h (read_before r)
      where
        read_before : ReadsNet new n k → ReadsNet middle n k
        read_before r =
            let number : n ≡ middle.leaves + r.place = r.number ∙ ap (λ i. i + r.place) new_leaves in
            let within : r.place < length middle.gates = omega arith in
            record {
              place = r.place;
              number = number;
              gate = r.gate;
              is_gate = ap (λ gs. slice_get gs r.place) (sym same_gates) ∙ (get_taken (length middle.gates) new.gates r.place within ∙ r.is_gate);
              reads = r.reads;
            }
    by_case (inr more_than) =
        elim (second n k more_than r) [
          | inl c ↦ all_among (λ k. Contains ins k ⊎ (old.leaves + length old.gates ≤ k)) more all k (among more k c)
          | inr later ↦ inr (omega arith)
        ]
