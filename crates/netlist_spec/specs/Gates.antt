-- Gate lists: nets by number, the evaluation of the gates, and runs of a machine of gates under faults.
use Rattle.std.specs.Prelude.{◌≡◌, ℕ, ◌+◌, ◌*◌, ◌<◌, Bool, true, false, List, [], ◌∷◌, ◌++◌, length, map, find, filter, option_map, unwrap_or, ◌==◌, if◌then◌else◌, ⊤, ◌≤◌, Some, slice_get, Contains}
use Rattle.std.specs.List.{AllByRecursion, AllZip, enumerate_from, range_with_len}
use Rattle.netlist_spec.specs.Netlist.{Row, Cover}
use Rattle.netlist_spec.specs.Covers.{differ, has_bit}
use Rattle.netlist_spec.specs.SourceRun.{Bits, Stream, RunsFrom}

-- A constant, a copy or an inverse, or a table of two nets: bit 2a + b of `op` is the answer for a and b.
pub data GateForm : Type 0 where
  constant : (b : Bool) → GateForm
  one : (inv : Bool) (a : ℕ) → GateForm
  two : (op : ℕ) (a b : ℕ) → GateForm

abbrev pub bit_number : Bool → ℕ
bit_number b = if b then 1 else 0

-- the answer of a gate at the bits of the nets
abbrev pub gate_answer : GateForm → (ℕ → Bool) → Bool
gate_answer (constant b) v = b
gate_answer (one inv a) v = differ inv (v a)
gate_answer (two op a b) v = has_bit op (2 * bit_number (v a) + bit_number (v b))

-- Nets are numbered: the leaves first, and then the gates.
pub record GateList : Type 0 where
  pub leaves : ℕ
  pub gates : List GateForm

-- a gate reads lower numbers only
abbrev pub ReadsBelow : ℕ → GateForm → Type 0
ReadsBelow n (constant b) = ⊤
ReadsBelow n (one inv a) = a < n
ReadsBelow n (two op a b) = (a < n) × (b < n) × (op < 16)

abbrev pub IsGateList : GateList → Type 0
IsGateList net = AllByRecursion (λ (p : ℕ × GateForm). ReadsBelow p.0 p.1) (enumerate_from net.leaves net.gates)

pub record LatchRow : Type 0 where
  pub d : ℕ
  pub init : Bool

-- Each gate from net `first` up to net `end` has its answer, whatever bits all other nets have.
abbrev pub AnswersWithin : GateList → ℕ → ℕ → (ℕ → Bool) → Type 0
AnswersWithin net first end v =
    AllByRecursion (λ (p : ℕ × GateForm). first ≤ p.0 → p.0 < end → v p.0 ≡ gate_answer p.1 v) (enumerate_from net.leaves net.gates)

-- The evaluation of a gate list at the bits of its leaves: each gate has its answer.
pub record IsEvaluation (net : GateList) (leaves : Bits) (v : ℕ → Bool) : Type 0 where
  pub inputs : map v (range_with_len 0 net.leaves) ≡ leaves
  pub gates : AnswersWithin net net.leaves (net.leaves + length net.gates) v

-- The leaves are the data inputs and then the latches.
pub record Machine : Type 0 where
  pub net : GateList
  pub inputs : ℕ
  pub latches : List LatchRow
  pub outputs : List ℕ

-- The leaves are the data inputs and then the latches, and each D and each output is a net.
pub record IsMachine (m : Machine) : Type 0 where
  pub gates : IsGateList m.net
  pub leaves : m.net.leaves ≡ m.inputs + length m.latches
  pub stores : AllByRecursion (λ l. l.d < m.net.leaves + length m.net.gates) m.latches
  pub outputs : AllByRecursion (λ n. n < m.net.leaves + length m.net.gates) m.outputs

-- the faults of one cycle: a finite map from cells, that is latches and gates, to bits
abbrev pub ForcedNets : Type 0
ForcedNets = List (ℕ × Bool)

abbrev pub shown_net : ForcedNets → ℕ → Bool → Bool
shown_net faults cell own = unwrap_or (option_map (λ (e : ℕ × Bool). e.1) (find (λ (e : ℕ × Bool). e.0 == cell) faults)) own

abbrev pub latch_nets : Machine → List ℕ
latch_nets m = range_with_len m.inputs (length m.latches)

-- The values of one cycle, as for the cells of a file: each data input has its bit, each latch its stored bit and each
-- gate its answer, but a faulty cell has the bit of its fault.
pub record GateValues (m : Machine) (stored x : Bits) (faults : ForcedNets) (v : ℕ → Bool) : Type 0 where
  pub inputs : map v (range_with_len 0 m.inputs) ≡ x
  pub latches : AllZip (λ q bit. v q ≡ shown_net faults q bit) (latch_nets m) stored
  pub gates : AllByRecursion (λ (p : ℕ × GateForm). v p.0 ≡ shown_net faults p.0 (gate_answer p.1 v)) (enumerate_from m.net.leaves m.net.gates)

-- In a cycle a cell, that is a latch or a gate, gives this bit.
pub record NetFault : Type 0 where
  pub cycle : ℕ
  pub cell : ℕ
  pub bit : Bool

abbrev pub forced_nets_at : ℕ → List NetFault → ForcedNets
forced_nets_at c faults = map (λ a. (a.cell, a.bit)) (filter (λ a. a.cycle == c) faults)

-- One cycle of a machine, in which some cells are faulty: from inputs and stored bits to outputs and the next stored
-- bits. A faulty latch stores its D too.
pub record GateStep (m : Machine) (faults : ForcedNets) (x stored y next : Bits) : Type 0 where
  pub values : ℕ → Bool
  pub agrees : GateValues m stored x faults values
  pub outputs : map values m.outputs ≡ y
  pub stores : map values (map (λ l. l.d) m.latches) ≡ next

-- The runs of a machine of gates under a fault list: the stored bits start with the inits. `states` has the stored bits
-- of each cycle and those after the last one, `outs` the outputs of each cycle.
abbrev pub GateRun : Machine → Stream → List NetFault → List Bits → List Bits → Type 0
GateRun m xs faults states outs = RunsFrom (λ c x s y next. GateStep m (forced_nets_at c faults) x s y next) 0 (map (λ l. l.init) m.latches) xs states outs

-- The cover that stands for a gate in a written file: no row and one row for the constants, one row for a
-- copy or an inverse, and for a table a row for each pair with the answer 1, in the order 00, 01, 10, 11.
abbrev pub pair_row : ℕ → Bool → Bool → List Row
pair_row op a b =
    if has_bit op (2 * bit_number a + bit_number b)
    then record { care = 3; value = bit_number a + 2 * bit_number b } ∷ []
    else []

abbrev pub pair_rows : ℕ → List Row
pair_rows op = pair_row op false false ++ pair_row op false true ++ pair_row op true false ++ pair_row op true true

abbrev pub gate_rows : GateForm → List Row
gate_rows (constant false) = []
gate_rows (constant true) = record { care = 0; value = 0 } ∷ []
gate_rows (one false a) = record { care = 1; value = 1 } ∷ []
gate_rows (one true a) = record { care = 1; value = 0 } ∷ []
gate_rows (two op a b) = pair_rows op

abbrev pub gate_cover : GateForm → Cover
gate_cover g = record { on = true; rows = gate_rows g }

abbrev pub gate_reads : GateForm → List ℕ
gate_reads (constant b) = []
gate_reads (one inv a) = a ∷ []
gate_reads (two op a b) = a ∷ b ∷ []

-- The gate with the number n reads net k.
pub record ReadsNet (net : GateList) (n k : ℕ) : Type 0 where
  pub place : ℕ
  pub number : n ≡ net.leaves + place
  pub gate : GateForm
  pub is_gate : slice_get net.gates place ≡ Some gate
  pub reads : Contains (gate_reads gate) k
