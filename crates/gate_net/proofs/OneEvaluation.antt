-- A gate list has one evaluation, and a machine has one cycle, whatever its cells show.
use Rattle.std.proofs.Common.{◌≡◌, sym, ◌∙◌, ap, ap₂, refl, ℕ, zero, suc, ◌+◌, ◌<◌, Bool, false, List, [], ◌∷◌, ◌++◌, length, map, get_or, arith, below_more}
use Rattle.std.proofs.lemmas.List.{length-append, get_or_append_left, get_or_push, get_or-append-add}
use Rattle.std.proofs.lemmas.List.FromFn.{get_or-map-range_with_len, fill_by_all}
use Rattle.std.specs.List.{AllByRecursion, AllZip, enumerate_from, range_with_len}
use Rattle.netlist_spec.specs.Gates.{GateForm, gate_answer, GateList, IsGateList, IsEvaluation, LatchRow, Machine, IsMachine, ForcedNets, shown_net, GateValues, GateStep}
use Rattle.netlist_spec.specs.SourceRun.{Bits}
use Rattle.gate_net.specs.GateNet.{net_bit, net_count}
use Rattle.gate_net.proofs.Evaluation.{AgreeBelow, AllRead, answer_agrees, within, from_within}

-- the bits of these nets
same_bits : (n : ℕ) (bits : Bits) (v w : ℕ → Bool) → map v (range_with_len 0 n) ≡ bits → map w (range_with_len 0 n) ≡ bits → AgreeBelow n v w
same_bits n bits v w ev ew = λ k h.
    sym (get_or-map-range_with_len v 0 n k k false h (omega arith))
    ∙ (ap (λ (all : Bits). get_or all k false) (ev ∙ sym ew) ∙ get_or-map-range_with_len w 0 n k k false h (omega arith))

-- What a cell shows rests on its number and its own bit.
module _ (show : ℕ → Bool → Bool) where
  -- the gates from net k on show their answers
  abbrev Show : ℕ → List GateForm → (ℕ → Bool) → Type 0
  Show k gs v = AllByRecursion (λ (p : ℕ × GateForm). v p.0 ≡ show p.0 (gate_answer p.1 v)) (enumerate_from k gs)

  same_answers : (gs : List GateForm) (k : ℕ) (v w : ℕ → Bool) → AllRead k gs → AgreeBelow k v w → Show k gs v → Show k gs w → AgreeBelow (k + length gs) v w
  same_answers [] k v w r same a b = λ j h. same j (omega arith)
  same_answers (g ∷ gs) k v w r same a b =
      let here : v k ≡ w k = a.0 ∙ (ap (show k) (answer_agrees k g v w r.0 same) ∙ sym b.0) in
      λ j h. same_answers gs (k + 1) v w r.1 (below_more (λ i. v i ≡ w i) k same here) a.1 b.1 j (omega arith)

  -- the row behind these bits, gate by gate
  row_of : List GateForm → Bits → Bits
  row_of [] row = row
  row_of (g ∷ gs) row = row_of gs (row ++ show (length row) (gate_answer g (net_bit row)) ∷ [])

  row_kept : (gs : List GateForm) (row : Bits) → AgreeBelow (length row) (net_bit row) (net_bit (row_of gs row))
  unfolding row_of
  row_kept [] row = λ k h. refl
  row_kept (g ∷ gs) row = λ k h.
      let bit = show (length row) (gate_answer g (net_bit row)) in
      let long = length-append row (bit ∷ []) in
      sym (get_or_append_left row (bit ∷ []) false k h) ∙ row_kept gs (row ++ bit ∷ []) k (omega arith)

  row_shows : (gs : List GateForm) (row : Bits) (k : ℕ) → k ≡ length row → AllRead k gs → Show k gs (net_bit (row_of gs row))
  unfolding row_of
  row_shows [] row k e r = tt
  row_shows (g ∷ gs) row k e r =
      let bit = show (length row) (gate_answer g (net_bit row)) in
      let whole = row_of gs (row ++ bit ∷ []) in
      let long = length-append row (bit ∷ []) in (
        ap (net_bit whole) e
            ∙ (sym (row_kept gs (row ++ bit ∷ []) (length row) (omega arith))
            ∙ (get_or_push row bit false (length row) refl
            ∙ ap₂ show (sym e) (answer_agrees k g (net_bit row) (net_bit whole) r.0 (λ j h. row_kept (g ∷ gs) row j (omega arith))))),
        row_shows gs (row ++ bit ∷ []) (k + 1) (omega arith) r.1,
      )

-- Gate lists.

abbrev own : ℕ → Bool → Bool
own k bit = bit

pub one_evaluation : (net : GateList) → IsGateList net → (leaves : Bits) (v w : ℕ → Bool) → IsEvaluation net leaves v → IsEvaluation net leaves w → AgreeBelow (net_count net) v w
one_evaluation net reads leaves v w a b =
    same_answers own net.gates net.leaves v w reads (same_bits net.leaves leaves v w a.inputs b.inputs)
    (from_within net.gates net.leaves net.leaves (net_count net) v (omega arith) (omega arith) a.gates)
    (from_within net.gates net.leaves net.leaves (net_count net) w (omega arith) (omega arith) b.gates)

pub some_evaluation : (net : GateList) → IsGateList net → (leaves : Bits) → length leaves ≡ net.leaves → (v : ℕ → Bool) × IsEvaluation net leaves v
some_evaluation net reads leaves long = (
  net_bit (row_of own net.gates leaves),
  record {
    inputs = sym (fill_by_all (net_bit (row_of own net.gates leaves)) leaves net.leaves false long (λ k h. row_kept own net.gates leaves k (omega arith)));
    gates = within net.gates net.leaves net.leaves (net_count net) (net_bit (row_of own net.gates leaves)) (row_shows own net.gates leaves net.leaves (sym long) reads);
  },
)

-- Machines.

-- bits of cells from number a on, as they show
shown_from : (ℕ → Bool → Bool) → ℕ → Bits → Bits
shown_from show a [] = []
shown_from show a (b ∷ bs) = show a b ∷ shown_from show (a + 1) bs

length_shown : (show : ℕ → Bool → Bool) (a : ℕ) (bs : Bits) → length (shown_from show a bs) ≡ length bs
unfolding shown_from
length_shown show a [] = refl
length_shown show a (b ∷ bs) = ap suc (length_shown show (a + 1) bs)

-- the bits of latches, as they show, are read off a row that has them from net a on
latches_show : (show : ℕ → Bool → Bool) (v : ℕ → Bool) (bs : Bits) (a n : ℕ) → length bs ≡ n → ((i : ℕ) → i < n → v (a + i) ≡ get_or (shown_from show a bs) i false) → AllZip (λ q bit. v q ≡ show q bit) (range_with_len a n) bs
unfolding shown_from
latches_show show v [] a zero e read = tt
latches_show show v [] a (suc n) e read = absurd (omega arith)
latches_show show v (b ∷ bs) a zero e read = absurd (omega arith)
latches_show show v (b ∷ bs) a (suc n) e read = (
  ap v (let z : a ≡ a + 0 = omega arith in z) ∙ read 0 (omega arith),
  latches_show show v bs (a + 1) n (omega arith) (λ i h. ap v (let z : a + 1 + i ≡ a + suc i = omega arith in z) ∙ read (suc i) (omega arith)),
)

same_latches : (show : ℕ → Bool → Bool) (v w : ℕ → Bool) (bs : Bits) (a n : ℕ) → AllZip (λ q bit. v q ≡ show q bit) (range_with_len a n) bs → AllZip (λ q bit. w q ≡ show q bit) (range_with_len a n) bs
    → AgreeBelow a v w → AgreeBelow (a + n) v w
same_latches show v w bs a zero zv zw same = λ j h. same j (omega arith)
same_latches show v w [] a (suc n) zv zw same = absurd zv
same_latches show v w (b ∷ bs) a (suc n) zv zw same = λ j h.
    same_latches show v w bs (a + 1) n zv.1 zw.1 (below_more (λ i. v i ≡ w i) a same (zv.0 ∙ sym zw.0)) j (omega arith)

pub some_values : (m : Machine) → IsMachine m → (x s : Bits) → length x ≡ m.inputs → length s ≡ length m.latches → (faults : ForcedNets) → (v : ℕ → Bool) × GateValues m s x faults v
some_values m well x s inputs state faults =
    let show = shown_net faults in
    let stored = shown_from show m.inputs s in
    let long = length-append x stored in
    let kept = length_shown show m.inputs s in
    let leaves = well.leaves in
    let v = net_bit (row_of show m.net.gates (x ++ stored)) in
    let front = row_kept show m.net.gates (x ++ stored) in (
      v,
      record {
        inputs = sym (fill_by_all v x m.inputs false inputs (λ k h. sym (get_or_append_left x stored false k (omega arith)) ∙ front k (omega arith)));
        latches =
            latches_show show v s m.inputs (length m.latches) state
            (λ i h. sym (front (m.inputs + i) (omega arith)) ∙ (ap (λ (k : ℕ). net_bit (x ++ stored) (k + i)) (sym inputs) ∙ get_or-append-add x stored i false));
        gates = row_shows show m.net.gates (x ++ stored) m.net.leaves (omega arith) well.gates;
      },
    )

pub one_valuation : (m : Machine) → IsMachine m → (x s : Bits) (faults : ForcedNets) (v w : ℕ → Bool) → GateValues m s x faults v → GateValues m s x faults w → AgreeBelow (net_count m.net) v w
one_valuation m well x s faults v w a b =
    let show = shown_net faults in
    let leaves = well.leaves in
    same_answers show m.net.gates m.net.leaves v w well.gates
    (λ k h. same_latches show v w s m.inputs (length m.latches) a.latches b.latches (same_bits m.inputs x v w a.inputs b.inputs) k (omega arith)) a.gates b.gates

-- bits at nets on which two valuations agree
same_map : (v w : ℕ → Bool) (n : ℕ) → AgreeBelow n v w → (ks : List ℕ) → AllByRecursion (λ k. k < n) ks → map v ks ≡ map w ks
same_map v w n same [] below = refl
same_map v w n same (k ∷ ks) below = ap₂ (λ (b : Bool) (bs : Bits). b ∷ bs) (same k below.0) (same_map v w n same ks below.1)

pub stored_nets : (n : ℕ) (ls : List LatchRow) → AllByRecursion (λ l. l.d < n) ls → AllByRecursion (λ k. k < n) (map (λ l. l.d) ls)
stored_nets n [] below = tt
stored_nets n (l ∷ ls) below = (below.0, stored_nets n ls below.1)

pub one_cycle : (m : Machine) → IsMachine m → (faults : ForcedNets) (x s y next y' next' : Bits) → GateStep m faults x s y next → GateStep m faults x s y' next' → (y ≡ y') × (next ≡ next')
one_cycle m well faults x s y next y' next' a b =
    let same = one_valuation m well x s faults a.values b.values a.agrees b.agrees in (
      sym a.outputs ∙ (same_map a.values b.values (net_count m.net) same m.outputs well.outputs ∙ b.outputs),
      sym a.stores ∙ (same_map a.values b.values (net_count m.net) same (map (λ l. l.d) m.latches) (stored_nets (net_count m.net) m.latches well.stores) ∙ b.stores),
    )
