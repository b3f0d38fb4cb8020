-- A guard, in either mode, as ranges of gates, one behind the other.
use Rattle.std.specs.Prelude.{◌≡◌, ℕ, suc, ◌+◌, ◌*◌, ◌<◌, ◌⊎◌, Bool, Some, List, ◌++◌, length, map, IsTrue, Contains, AllPairs}
use Rattle.std.specs.List.{range_with_len}
use Rattle.netlist_spec.specs.SourceRun.{Bits}
use Rattle.netlist_spec.specs.Gates.{GateList, Machine, IsMachine, AnswersWithin, IsEvaluation, ReadsNet}
use Rattle.guard_spec.specs.Codes.{Code, IsCode, Mode, detect}
use Rattle.guard_spec.specs.Words.{Layout}
use Rattle.netlist_spec.specs.CellBits.{stands_before}
use Rattle.guard_spec.specs.Regions.{Guarded, IsBitNet, IsDataNet, IsRailBit, HaveOwnNets}
use Rattle.netlist_spec.specs.GateRanges.{Region, LiesIn}
use Rattle.guard_spec.specs.Count.{StateWordsAre, IsNear}
use Rattle.gate_net.specs.GateNet.{net_count}
use Rattle.cone_split.specs.Ranges.{AllLead}
use Rattle.guard_laws.specs.Rows.{right_bit, AreInRow, IsRailRange}

-- A range of a list whose leaves are data inputs and the latches of state words: it reads leaves, in detection no check
-- places, and itself, and ends with a
-- gate that has the right bit of the range's bit where the shown state words are near those of the state, whatever bits other
-- nets have.
pub record IsRangeWithin (net : GateList) (inputs latches : ℕ) (source : Machine) (code : Code) (mode : Mode) (radius : ℕ) (l : Layout) (r : Region) : Type 0 where
  pub reads : (n k : ℕ) → LiesIn r n → ReadsNet net n k → (k < net.leaves) ⊎ LiesIn r k
  pub reads_data : mode ≡ detect → (n k : ℕ) → LiesIn r n → ReadsNet net n k → (k < inputs) ⊎ (IsDataNet code inputs l.state k ⊎ LiesIn r k)
  pub leads : AllLead net r
  pub value : (last : ℕ) (v u : ℕ → Bool) (s : Bits) → r.end ≡ suc last → AnswersWithin net r.first r.end v
      → length s ≡ length source.latches → StateWordsAre code (IsNear code mode radius s) l.state (map v (range_with_len inputs latches)) 0
      → IsEvaluation source.net (map v (range_with_len 0 inputs) ++ s) u → Some (v last) ≡ right_bit source code l u r.bit

-- Such ranges, and those of rails if there are any.
pub record IsMadeWithin (g : Guarded) (source : Machine) (code : Code) (mode : Mode) (radius : ℕ) (l : Layout) (watched : List ℕ) (Bad : (ℕ → Bool) → Type 0) : Type 0 where
  pub is_code : IsCode code
  pub is_source : IsMachine source
  pub is_machine : IsMachine g.machine
  pub own_nets : HaveOwnNets g source
  pub outputs : length g.machine.outputs ≡ (length source.outputs + length l.output * code.columns) + g.rails
  pub watches : (k : ℕ) → Contains watched k → (k < g.machine.net.leaves) ⊎ Contains g.machine.outputs k
  pub row : AreInRow g.machine.net.leaves g.regions (net_count g.machine.net)
  pub in_order : AllPairs (λ r s. IsTrue (stands_before r.bit s.bit)) g.regions
  pub own : (r : Region) (n : ℕ) → Contains g.regions r → r.end ≡ suc n → IsBitNet g r.bit n
  pub ranges : (r : Region) → Contains g.regions r → (IsRailBit g r.bit → ⊥) → IsRangeWithin g.machine.net g.machine.inputs (length g.machine.latches) source code mode radius l r
  pub rails : (r : Region) → Contains g.regions r → IsRailBit g r.bit → IsRailRange g.machine.net watched Bad r
