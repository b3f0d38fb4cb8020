-- Where a range of a guard stands in the finished gate list.
use Rattle.std.specs.Prelude.{◌≡◌, ℕ, Bool, Some, List, [], ◌∷◌, map, slice_get}
use Rattle.netlist_spec.specs.Gates.{GateList, Machine}
use Rattle.guard_spec.specs.Codes.{Code, checks_of}
use Rattle.guard_spec.specs.Words.{Layout}
use Rattle.netlist_spec.specs.CellBits.{Bit}
use Rattle.netlist_spec.specs.GateRanges.{Region}
use Rattle.gate_net.specs.GateNet.{net_count}
use Rattle.cone_split.specs.Ranges.{IsCopy}
use Rattle.predictor.specs.Columns.{IsCheckBit, column_roots}
use Rattle.guard_laws.specs.Rows.{right_bit}

-- the range of what was appended for a bit
abbrev pub range_of : Bit → GateList → GateList → Region
range_of bit old new = record { bit = bit; first = net_count old; end = net_count new }

-- A copy of one net whose value the bit has.
pub record IsBitCopy (source : Machine) (code : Code) (l : Layout) (leaf : List ℕ) (bit : Bit) (old new : GateList) (last : ℕ) : Type 0 where
  pub root : ℕ
  pub copy : IsCopy source.net (root ∷ []) leaf old new last
  pub right : (u : ℕ → Bool) → right_bit source code l u bit ≡ Some (u root)

-- A check bit of the word of some nets.
pub record IsBitCheck (source : Machine) (code : Code) (l : Layout) (leaf : List ℕ) (bit : Bit) (old new : GateList) (last : ℕ) : Type 0 where
  pub roots : List ℕ
  pub j : ℕ
  pub copy : IsCopy source.net (column_roots code j roots) leaf old new last
  pub check : IsCheckBit source.net roots leaf code j old new last
  pub right : (u : ℕ → Bool) → right_bit source code l u bit ≡ slice_get (checks_of code (map u roots)) j
