-- A guard in detection as ranges of gates, one behind the other.
use Rattle.std.specs.Prelude.{◌≡◌, ℕ, suc, ◌+◌, ◌*◌, ◌<◌, ◌⊎◌, ◌↔◌, Bool, Option, Some, List, [], ◌∷◌, ◌++◌, length, map, slice_get, IsTrue, Contains, AllPairs}
use Rattle.std.specs.List.{range_with_len}
use Rattle.netlist_spec.specs.SourceRun.{Bits}
use Rattle.netlist_spec.specs.Gates.{GateList, Machine, IsMachine, AnswersWithin, IsEvaluation, latch_nets}
use Rattle.guard_spec.specs.Codes.{Code, IsCode, detect}
use Rattle.guard_spec.specs.Words.{Layout, codewords}
use Rattle.netlist_spec.specs.CellBits.{Bit, latch_bit, output_bit, stands_before}
use Rattle.guard_spec.specs.Regions.{Guarded, IsBitNet, IsDataNet, IsRailBit, HaveOwnNets}
use Rattle.netlist_spec.specs.GateRanges.{Region}
use Rattle.guard_spec.specs.Count.{StateWordsAre, IsNear, right_outputs}
use Rattle.gate_net.specs.GateNet.{net_count}
use Rattle.cone_split.specs.Ranges.{ReadsAlone, AllLead}

-- the bit that a guard's bit ought to be, given the bits of the source's nets
abbrev pub right_bit : Machine → Code → Layout → (ℕ → Bool) → Bit → Option Bool
right_bit source code l u (latch_bit i) = slice_get (codewords code l.state (map u (map (λ r. r.d) source.latches))) i
right_bit source code l u (output_bit i) = slice_get (right_outputs code l (map u source.outputs)) i

-- The range reads the given nets and itself, and ends with a gate that has the right bit of the range's bit where the given
-- nets have the bits of the source's leaves, whatever bits other nets have. A copy of a cone and a check bit are such ranges.
pub record IsRangeOf (net : GateList) (leaf : List ℕ) (source : Machine) (code : Code) (l : Layout) (r : Region) : Type 0 where
  pub reads : ReadsAlone net leaf r
  pub leads : AllLead net r
  pub value : (last : ℕ) (v u : ℕ → Bool) → r.end ≡ suc last → AnswersWithin net r.first r.end v → IsEvaluation source.net (map v leaf) u → Some (v last) ≡ right_bit source code l u r.bit

-- The range reads the watched nets and itself, and ends with a gate that is 1 exactly where the values are bad.
pub record IsRailRange (net : GateList) (watched : List ℕ) (Bad : (ℕ → Bool) → Type 0) (r : Region) : Type 0 where
  pub reads : ReadsAlone net watched r
  pub leads : AllLead net r
  pub value : (last : ℕ) (v : ℕ → Bool) → r.end ≡ suc last → AnswersWithin net r.first r.end v → IsTrue (v last) ↔ Bad v

-- Ranges that follow each other without a gap.
abbrev pub AreInRow : ℕ → List Region → ℕ → Type 0
AreInRow at [] end = at ≡ end
AreInRow at (r ∷ rs) end = (r.first ≡ at) × (r.first < r.end) × AreInRow r.end rs end

-- The nets that stand for the source's leaves are leaves of the guard: data inputs and data places. Where the state words are right they have the bits of
-- the inputs and of the source's state.
pub record StandForLeaves (g : Guarded) (source : Machine) (code : Code) (l : Layout) (leaf : List ℕ) : Type 0 where
  pub within : (k : ℕ) → Contains leaf k → k < g.machine.net.leaves
  pub data_nets : (k : ℕ) → Contains leaf k → (k < g.machine.inputs) ⊎ IsDataNet code g.machine.inputs l.state k
  pub bits : (v : ℕ → Bool) (s : Bits) → length s ≡ length source.latches → StateWordsAre code (IsNear code detect 0 s) l.state (map v (latch_nets g.machine)) 0
      → map v leaf ≡ map v (range_with_len 0 g.machine.inputs) ++ s

pub record IsMadeOfRanges (g : Guarded) (source : Machine) (code : Code) (l : Layout) (leaf watched : List ℕ) (Bad : (ℕ → Bool) → Type 0) : Type 0 where
  pub is_code : IsCode code
  pub is_source : IsMachine source
  pub is_machine : IsMachine g.machine
  pub own_nets : HaveOwnNets g source
  pub outputs : length g.machine.outputs ≡ (length source.outputs + length l.output * code.columns) + g.rails
  pub leaves : StandForLeaves g source code l leaf
  pub watches : (k : ℕ) → Contains watched k → (k < g.machine.net.leaves) ⊎ Contains g.machine.outputs k
  pub row : AreInRow g.machine.net.leaves g.regions (net_count g.machine.net)
  pub in_order : AllPairs (λ r s. IsTrue (stands_before r.bit s.bit)) g.regions
  pub own : (r : Region) (n : ℕ) → Contains g.regions r → r.end ≡ suc n → IsBitNet g r.bit n
  pub ranges : (r : Region) → Contains g.regions r → (IsRailBit g r.bit → ⊥) → IsRangeOf g.machine.net leaf source code l r
  pub rails : (r : Region) → Contains g.regions r → IsRailBit g r.bit → IsRailRange g.machine.net watched Bad r
