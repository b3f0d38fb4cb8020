-- The nets of names, by the names' numbers.
use Rattle.std.specs.Prelude.{◌≡◌, ℕ, ◌+◌, ◌<◌, ◌≤◌, List, length, map, slice_index, slice_set}
use Rattle.netlist_spec.specs.Netlist.{Cover}
use Rattle.netlist_spec.specs.Covers.{cover_value}
use Rattle.netlist_spec.specs.Size.{cover_cost}
use Rattle.netlist_spec.specs.Gates.{GateList}
use Rattle.imp_text.specs.declared.names.NameId.{NameId}
use Rattle.gate_net.specs.GateNet.{net_count}
use Rattle.reduction.specs.Appended.{Extends, HasBit, IsAppended, ReadsInputsAlone}

-- the nets of some names
abbrev pub nets_for : List ℕ → List NameId → List ℕ
nets_for table ids = map (λ (id : NameId). slice_index table id.0) ids

abbrev pub IsWithin : List ℕ → NameId → Type 0
IsWithin table id = id.0 < length table

-- Gates are appended for a cover of these nets, and its net is noted at a number.
pub record NotesCover (ins : List ℕ) (cover : Cover) (out : ℕ) (old : GateList) (before : List ℕ) (new : GateList) (noted : List ℕ) : Type 0 where
  pub net : ℕ
  pub table : noted ≡ slice_set before out net
  pub appended : IsAppended old new net
  pub value : HasBit old new net (λ v. cover_value cover (map v ins))
  pub cost : net_count new ≤ net_count old + cover_cost (length ins) (length cover.rows)
  pub reads : ReadsInputsAlone old new ins
  pub extends : Extends old new
