-- A guarded machine of gates: its regions, and the one bit of each cell.
use Rattle.std.specs.Prelude.{◌≡◌, ℕ, suc, ◌+◌, ◌<◌, ◌≤◌, ◌⊎◌, Bool, List, [], ◌∷◌, length, map, Some, slice_get, IsTrue, Contains, AllPairs}
use Rattle.std.specs.List.{AllByRecursion}
use Rattle.netlist_spec.specs.Gates.{Machine, ForcedNets, latch_nets, ReadsNet}
use Rattle.netlist_spec.specs.CellBits.{Bit, latch_bit, output_bit, stands_before}
use Rattle.netlist_spec.specs.GateRanges.{Region, LiesIn, LeadsToEnd}
use Rattle.guard_spec.specs.Codes.{Code}
use Rattle.guard_spec.specs.Words.{Words}

-- A guarded machine. Its outputs include the check outputs and the rails, which stand last.
pub record Guarded : Type 0 where
  pub machine : Machine
  pub rails : ℕ
  pub regions : List Region

-- the net of a bit: the D net of a latch, or an output net
abbrev pub IsBitNet : Guarded → Bit → ℕ → Type 0
IsBitNet g (latch_bit i) n = slice_get (map (λ r. r.d) g.machine.latches) i ≡ Some n
IsBitNet g (output_bit i) n = slice_get g.machine.outputs i ≡ Some n

-- A region has gates alone, and ends with its bit's own cell.
pub record IsRegion (g : Guarded) (r : Region) : Type 0 where
  pub gates : g.machine.net.leaves ≤ r.first
  pub some : r.first < r.end
  pub last : ℕ
  pub is_last : r.end ≡ suc last
  pub own : IsBitNet g r.bit last

-- The regions are disjoint, and each gate lies in one of them.
pub record CoversGates (g : Guarded) : Type 0 where
  pub regions : AllByRecursion (IsRegion g) g.regions
  pub apart : AllPairs (λ r s. (r.end ≤ s.first) ⊎ (s.end ≤ r.first)) g.regions
  pub each : (n : ℕ) → g.machine.net.leaves ≤ n → n < g.machine.net.leaves + length g.machine.net.gates
      → (r : Region) × Contains g.regions r × (r.first ≤ n) × (n < r.end)

-- Each latch has a region, and so has each output whose net is a gate. Another output is that data input of the
-- source, so check outputs and rails are gates. Where an output of the source is a data input, the guard's is that
-- input too, and no cell. The data inputs are the source's.
pub record HaveOwnNets (g : Guarded) (source : Machine) : Type 0 where
  pub inputs : g.machine.inputs ≡ source.inputs
  pub latches : (i : ℕ) → i < length g.machine.latches → (r : Region) × Contains g.regions r × (r.bit ≡ latch_bit i)
  pub outputs : (i n : ℕ) → slice_get g.machine.outputs i ≡ Some n → g.machine.net.leaves ≤ n → (r : Region) × Contains g.regions r × (r.bit ≡ output_bit i)
  pub passes : (i n : ℕ) → slice_get g.machine.outputs i ≡ Some n → n < g.machine.net.leaves → (n < source.inputs) × (slice_get source.outputs i ≡ Some n)
  pub passes_all : (i n : ℕ) → slice_get source.outputs i ≡ Some n → n < source.inputs → slice_get g.machine.outputs i ≡ Some n

-- ---- what regions read

-- The rails are the last outputs.
abbrev pub IsRailBit : Guarded → Bit → Type 0
IsRailBit g (latch_bit i) = ⊥
IsRailBit g (output_bit i) = length g.machine.outputs ≤ i + g.rails

-- The region may read net k: a leaf, a gate of its own, or, if it is a rail's, an output net.
abbrev pub MayRead : Guarded → Region → ℕ → Type 0
MayRead g r k = (k < g.machine.net.leaves) ⊎ (LiesIn r k ⊎ (IsRailBit g r.bit × Contains g.machine.outputs k))

-- No region reads a gate of another one, but rails read output nets. Each gate of a region leads to its last gate. The
-- regions follow each other in the order of their bits: latch places, and then outputs, by number.
pub record AreSeparate (g : Guarded) : Type 0 where
  pub reads : (r : Region) (n k : ℕ) → Contains g.regions r → LiesIn r n → ReadsNet g.machine.net n k → MayRead g r k
  pub leads : (r : Region) (n : ℕ) → Contains g.regions r → LiesIn r n → LeadsToEnd g.machine.net r n
  pub in_order : AllPairs (λ r s. IsTrue (stands_before r.bit s.bit) × (r.end ≤ s.first)) g.regions

-- The net shows a data place of one of the words, whose places are nets from `first` on: those of the words one behind
-- the other, and in each word its data places and then its check places.
abbrev pub IsDataNet : Code → ℕ → Words → ℕ → Type 0
IsDataNet code first [] k = ⊥
IsDataNet code first (w ∷ ws) k = ((first ≤ k) × (k < first + length w)) ⊎ IsDataNet code (first + length w + code.columns) ws k

-- In detection regions read data inputs, data places of state words and gates of their own alone. Rails read more.
abbrev pub ReadDataAlone : Guarded → Code → Words → Type 0
ReadDataAlone g code words =
    (r : Region) (n k : ℕ) → Contains g.regions r → (IsRailBit g r.bit → ⊥) → LiesIn r n → ReadsNet g.machine.net n k
    → (k < g.machine.inputs) ⊎ (IsDataNet code g.machine.inputs words k ⊎ LiesIn r k)

-- ---- the cells of a bit

-- A latch is a cell of the bit for which it is the latch. (The net of a latch is no output, as `HaveOwnNets` says.)
abbrev pub IsLatchCell : Guarded → Bit → ℕ → Type 0
IsLatchCell g (latch_bit i) n = slice_get (latch_nets g.machine) i ≡ Some n
IsLatchCell g (output_bit i) n = ⊥

-- The cells of a bit: the gates of its region, and a latch for itself.
abbrev pub IsCellOf : Guarded → Bit → ℕ → Type 0
IsCellOf g bit n =
    ((r : Region) × Contains g.regions r × (r.bit ≡ bit) × (r.first ≤ n) × (n < r.end)) ⊎ IsLatchCell g bit n

-- No cell of the bit is faulty in the cycle.
abbrev pub IsUntouched : Guarded → ForcedNets → Bit → Type 0
IsUntouched g faults bit = AllByRecursion (λ (e : ℕ × Bool). IsCellOf g bit e.0 → ⊥) faults
