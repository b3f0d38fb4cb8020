-- What is copied out of a joined list for a bit of a guard.
use Rattle.std.specs.Prelude.{◌≡◌, ℕ, ◌+◌, ◌<◌, Bool, Some, List, [], ◌∷◌, ◌++◌, length, map, slice_get}
use Rattle.std.specs.List.{AllByRecursion, AllZip, range_with_len}
use Rattle.netlist_spec.specs.Gates.{GateList, Machine}
use Rattle.guard_spec.specs.Codes.{Code, checks_of}
use Rattle.guard_spec.specs.Words.{Layout}
use Rattle.netlist_spec.specs.CellBits.{Bit}
use Rattle.cone_split.specs.Ranges.{IsCopy}
use Rattle.predictor.specs.Columns.{IsCheckBit, column_roots}
use Rattle.guard_laws.specs.Rows.{right_bit}
use Rattle.cone_split.specs.Whole.{StandsFor}
use Rattle.correction_laws.specs.Joined.{Corrector, IsServed}

-- Net m of the joined list stands for net x of the source.
abbrev pub IsOver : Machine → List ℕ → ℕ → ℕ → ℕ → Type 0
IsOver source nets first x m = StandsFor source.net.leaves (range_with_len 0 source.inputs ++ nets) first x m

-- A copy of the net that stands for one net whose value the bit has.
pub record IsJoinedCopy (source : Machine) (code : Code) (l : Layout) (joined : GateList) (correctors : List Corrector) (nets : List ℕ) (first : ℕ) (bit : Bit) (old new : GateList) (last : ℕ) : Type 0 where
  pub root : ℕ
  pub is_net : root < source.net.leaves + length source.net.gates
  pub served : IsServed source correctors root
  pub net : ℕ
  pub over : IsOver source nets first root net
  pub copy : IsCopy joined (net ∷ []) (range_with_len 0 joined.leaves) old new last
  pub right : (u : ℕ → Bool) → right_bit source code l u bit ≡ Some (u root)

-- A check bit of the word of some nets, over the nets that stand for them.
pub record IsJoinedCheck (source : Machine) (code : Code) (l : Layout) (joined : GateList) (correctors : List Corrector) (nets : List ℕ) (first : ℕ) (bit : Bit) (old new : GateList) (last : ℕ) : Type 0 where
  pub roots : List ℕ
  pub are_nets : AllByRecursion (λ x. x < source.net.leaves + length source.net.gates) roots
  pub served : AllByRecursion (IsServed source correctors) roots
  pub over_nets : List ℕ
  pub over : AllZip (IsOver source nets first) roots over_nets
  pub j : ℕ
  pub copy : IsCopy joined (column_roots code j over_nets) (range_with_len 0 joined.leaves) old new last
  pub check : IsCheckBit joined over_nets (range_with_len 0 joined.leaves) code j old new last
  pub right : (u : ℕ → Bool) → right_bit source code l u bit ≡ slice_get (checks_of code (map u roots)) j
