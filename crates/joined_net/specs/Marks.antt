-- Marks of the nets that D nets and outputs of a source need.
use Rattle.std.specs.Prelude.{◌≡◌, ℕ, ◌+◌, ◌≤◌, ◌⊎◌, Bool, List, length, map, Contains, IsTrue}
use Rattle.netlist_spec.specs.Gates.{Machine, ReadsNet}
use Rattle.netlist_spec.specs.Cones.{IsGateReached}
use Rattle.gate_net.specs.GateNet.{net_bit, net_count}

-- The nets are marked, and those that were, and no others.
pub record GainsMarks (old new : List Bool) (nets : List ℕ) : Type 0 where
  pub count : length new ≡ length old
  pub kept : (k : ℕ) → IsTrue (net_bit old k) → IsTrue (net_bit new k)
  pub added : (k : ℕ) → Contains nets k → IsTrue (net_bit new k)
  pub alone : (k : ℕ) → IsTrue (net_bit new k) → IsTrue (net_bit old k) ⊎ Contains nets k

-- With each marked net of number `first` or more its reads are marked. All marked nets are reached from nets that were marked.
pub record GainsReads (m : Machine) (first : ℕ) (old new : List Bool) : Type 0 where
  pub count : length new ≡ length old
  pub kept : (k : ℕ) → IsTrue (net_bit old k) → IsTrue (net_bit new k)
  pub closed : (n k : ℕ) → first ≤ n → IsTrue (net_bit new n) → ReadsNet m.net n k → IsTrue (net_bit new k)
  pub alone : (k : ℕ) → IsTrue (net_bit new k) → (x : ℕ) × IsTrue (net_bit old x) × IsGateReached m x k

-- the net is stored by a latch or shown by an output
abbrev pub IsStoredOrShown : Machine → ℕ → Type 0
IsStoredOrShown m x = Contains (map (λ r. r.d) m.latches) x ⊎ Contains m.outputs x

-- Exactly the nets that are reached from a D net or an output are marked.
pub record AreNeededNets (m : Machine) (marks : List Bool) : Type 0 where
  pub count : length marks ≡ net_count m.net
  pub all : (x k : ℕ) → IsStoredOrShown m x → IsGateReached m x k → IsTrue (net_bit marks k)
  pub alone : (k : ℕ) → IsTrue (net_bit marks k) → (x : ℕ) × IsStoredOrShown m x × IsGateReached m x k

-- whether some latch of the word is marked, where the latches are the nets from `inputs` on
abbrev pub HasMark : List Bool → ℕ → List ℕ → Type 0
HasMark marks inputs word = (i : ℕ) × Contains word i × IsTrue (net_bit marks (inputs + i))
