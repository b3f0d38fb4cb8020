-- A machine of gates has a run on each stream of its width, under each fault list.
use Rattle.std.proofs.Common.{◌≡◌, refl, sym, ◌∙◌, ap, ap₂, subst, ℕ, zero, suc, ◌+◌, ◌*◌, ◌<◌, ◌≤◌, List, [], ◌∷◌, ◌++◌, length, map, get_or, Bool, false, Some, arith, length-append, add-one, ext_get_or, get_or-append-add}
use Rattle.std.proofs.lemmas.List.{length-map, get_or_append_left}
use Rattle.std.proofs.lemmas.List.FromFn.{length-map-range_with_len, get_or-map-range_with_len}
use Rattle.std.specs.List.{AllByRecursion, AllZip, enumerate_from, range_with_len}
use Rattle.netlist_spec.specs.Covers.{differ, has_bit}
use Rattle.netlist_spec.specs.SourceRun.{Bits, Stream, RunsFrom}
use Rattle.netlist_spec.specs.Gates.{GateForm, constant, one, two, bit_number, gate_answer, ReadsBelow, Machine, IsMachine, ForcedNets, shown_net, GateValues, NetFault, forced_nets_at, GateStep, GateRun}

-- The row of the values of all nets grows gate by gate.
abbrev row_of : ForcedNets → ℕ → List GateForm → Bits → Bits
row_of faults n [] row = row
row_of faults n (g ∷ gs) row = row_of faults (n + 1) gs (row ++ shown_net faults n (gate_answer g (λ k. get_or row k false)) ∷ [])

one_longer : (row : Bits) (b : Bool) → length (row ++ b ∷ []) ≡ suc (length row)
one_longer row b = let e = length-append row (b ∷ []) in omega arith

-- a value that is in the row stays
stays : (faults : ForcedNets) (n : ℕ) (gs : List GateForm) (row : Bits) (k : ℕ) → k < length row → get_or (row_of faults n gs row) k false ≡ get_or row k false
stays faults n [] row k h = refl
stays faults n (g ∷ gs) row k h =
    let b = shown_net faults n (gate_answer g (λ k. get_or row k false)) in
    let e = one_longer row b in
    stays faults (n + 1) gs (row ++ b ∷ []) k (omega arith) ∙ get_or_append_left row (b ∷ []) false k h

-- a gate's answer rests on lower nets alone
same_answer : (g : GateForm) (n : ℕ) (u v : ℕ → Bool) → ReadsBelow n g → ((k : ℕ) → k < n → u k ≡ v k) → gate_answer g u ≡ gate_answer g v
same_answer (constant b) n u v below same = refl
same_answer (one inv a) n u v below same = ap (λ (b : Bool). differ inv b) (same a below)
same_answer (two op a b) n u v below same = ap₂ (λ (x y : Bool). has_bit op (2 * bit_number x + bit_number y)) (same a below.0) (same b below.1)

last_of : (row : Bits) (b : Bool) → get_or (row ++ b ∷ []) (length row) false ≡ b
last_of [] b = refl
last_of (c ∷ row) b = last_of row b

each_gate : (faults : ForcedNets) (n : ℕ) (gs : List GateForm) (row : Bits) → length row ≡ n → AllByRecursion (λ (p : ℕ × GateForm). ReadsBelow p.0 p.1) (enumerate_from n gs)
    → AllByRecursion (λ (p : ℕ × GateForm). get_or (row_of faults n gs row) p.0 false ≡ shown_net faults p.0 (gate_answer p.1 (λ k. get_or (row_of faults n gs row) k false))) (enumerate_from n gs)
each_gate faults n [] row long below = tt
each_gate faults n (g ∷ gs) row long below =
    let b = shown_net faults n (gate_answer g (λ k. get_or row k false)) in
    let e = one_longer row b in
    let more : length (row ++ b ∷ []) ≡ n + 1 = omega arith in
    let here : get_or (row ++ b ∷ []) n false ≡ b = subst (λ (k : ℕ). get_or (row ++ b ∷ []) k false ≡ b) long (last_of row b) in (
      stays faults (n + 1) gs (row ++ b ∷ []) n (omega arith)
          ∙ (here
          ∙ ap (λ (a : Bool). shown_net faults n a) (same_answer g n (λ k. get_or row k false) (λ k. get_or (row_of faults n (g ∷ gs) row) k false) below.0 (λ k h. sym (stays faults n (g ∷ gs) row k (omega arith))))),
      each_gate faults (n + 1) gs (row ++ b ∷ []) more below.1,
    )

-- the values that the latches show
abbrev latch_row : ForcedNets → ℕ → Bits → Bits
latch_row faults a [] = []
latch_row faults a (b ∷ bs) = shown_net faults a b ∷ latch_row faults (a + 1) bs

latch_row_long : (faults : ForcedNets) (a : ℕ) (bs : Bits) → length (latch_row faults a bs) ≡ length bs
latch_row_long faults a [] = refl
latch_row_long faults a (b ∷ bs) = ap suc (latch_row_long faults (a + 1) bs)

each_latch : (faults : ForcedNets) (v : ℕ → Bool) (a : ℕ) (n : ℕ) (stored : Bits) → length stored ≡ n → ((k : ℕ) → k < n → v (a + k) ≡ get_or (latch_row faults a stored) k false)
    → AllZip (λ q bit. v q ≡ shown_net faults q bit) (range_with_len a n) stored
each_latch faults v a zero [] long at = tt
each_latch faults v a zero (b ∷ stored) long at = absurd (omega arith)
each_latch faults v a (suc n) [] long at = absurd (omega arith)
each_latch faults v a (suc n) (b ∷ stored) long at = (
  ap v (Rattle.std.proofs.Common.sym (Rattle.std.proofs.Common.add-zero a)) ∙ at 0 (omega arith),
  each_latch faults v (a + 1) n stored (omega arith) (λ k h. ap v (moved k) ∙ at (suc k) (omega arith)),
)
  where
    moved : (k : ℕ) → (a + 1) + k ≡ a + suc k
    moved k = omega arith

module _ (m : Machine) (is_machine : IsMachine m) (faults : ForcedNets) (x stored : Bits) (wide : length x ≡ m.inputs) (long : length stored ≡ length m.latches) where
  abbrev leaf_row : Bits
  leaf_row = x ++ latch_row faults m.inputs stored

  abbrev pub machine_values : ℕ → Bool
  machine_values n = get_or (row_of faults m.net.leaves m.net.gates (x ++ latch_row faults m.inputs stored)) n false

  leaves_long : length (x ++ latch_row faults m.inputs stored) ≡ m.net.leaves
  leaves_long = let a = length-append x (latch_row faults m.inputs stored) in let b = latch_row_long faults m.inputs stored in let c = is_machine.leaves in omega arith

  leaf_is : (k : ℕ) → k < m.net.leaves → machine_values k ≡ get_or (x ++ latch_row faults m.inputs stored) k false
  leaf_is k h = stays faults m.net.leaves m.net.gates (x ++ latch_row faults m.inputs stored) k (let e = leaves_long in omega arith)

  -- The evaluation gate by gate has the values of the cycle.
  pub machine_has_values : GateValues m stored x faults machine_values
  machine_has_values = record {
    inputs = ext_get_or false (map machine_values (range_with_len 0 m.inputs)) x (length-map-range_with_len machine_values 0 m.inputs ∙ sym wide) (λ k h.
        let small : k < m.inputs = subst (λ (n : ℕ). k < n) (length-map-range_with_len machine_values 0 m.inputs) h in
        get_or-map-range_with_len machine_values 0 m.inputs k k false small (omega arith)
        ∙ (leaf_is k (let c = is_machine.leaves in omega arith) ∙ get_or_append_left x (latch_row faults m.inputs stored) false k (omega arith)));
    latches = each_latch faults machine_values m.inputs (length m.latches) stored long (λ k h.
        leaf_is (m.inputs + k) (let c = is_machine.leaves in omega arith)
        ∙ (ap (λ (n : ℕ). get_or (x ++ latch_row faults m.inputs stored) (n + k) false) (sym wide) ∙ get_or-append-add x (latch_row faults m.inputs stored) k false));
    gates = each_gate faults m.net.leaves m.net.gates (x ++ latch_row faults m.inputs stored) leaves_long is_machine.gates;
  }

abbrev SomeGateRun : Machine → List NetFault → ℕ → Bits → Stream → Type 0
SomeGateRun m faults c s xs = (states outs : List Bits) × RunsFrom (λ c x s y next. GateStep m (forced_nets_at c faults) x s y next) c s xs states outs

gate_run_from : (m : Machine) → IsMachine m → (faults : List NetFault) (c : ℕ) (s : Bits) (xs : Stream) → AllByRecursion (λ x. length x ≡ m.inputs) xs → length s ≡ length m.latches → SomeGateRun m faults c s xs
gate_run_from m is_machine faults c s [] w h = (s ∷ [], [], refl)
gate_run_from m is_machine faults c s (x ∷ xs) w h =
    let v = machine_values m is_machine (forced_nets_at c faults) x s w.0 h in
    let y = map v m.outputs in
    let next = map v (map (λ l. l.d) m.latches) in
    let long : length next ≡ length m.latches = length-map (map (λ l. l.d) m.latches) v ∙ length-map m.latches (λ l. l.d) in
    let rest = gate_run_from m is_machine faults (c + 1) next xs w.1 long in
    let here : GateStep m (forced_nets_at c faults) x s y next = record { values = v; agrees = machine_has_values m is_machine (forced_nets_at c faults) x s w.0 h; outputs = refl; stores = refl } in
    (s ∷ rest.0, y ∷ rest.1, (refl, next, here, rest.2))

-- A machine has a run.
pub some_gate_run : (m : Machine) → IsMachine m → (xs : Stream) (faults : List NetFault) → AllByRecursion (λ x. length x ≡ m.inputs) xs → (states outs : List Bits) × GateRun m xs faults states outs
some_gate_run m is_machine xs faults w = gate_run_from m is_machine faults 0 (map (λ l. l.init) m.latches) xs w (length-map m.latches (λ l. l.init))
