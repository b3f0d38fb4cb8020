-- Gates by the numbers of their nets, and their values in a row of bits.
use Rattle.std.specs.Prelude.{◌≡◌, ℕ, ◌+◌, ◌*◌, ◌<◌, ◌≤◌, Bool, false, List, [], ◌∷◌, length, map, All, Option, None, unwrap_or, slice_index_or, slice_range, slice_set, if◌then◌else◌}
use Rattle.std.specs.List.{AllZip}
use Rattle.netlist_spec.specs.Netlist.{Name, Cover}
use Rattle.netlist_spec.specs.Covers.{cover_value}
use Rattle.netlist_spec.specs.Models.{Gate}
use Rattle.imp_text.specs.declared.names.NameId.{NameId}
use Rattle.imp_text.specs.declared.cover.Cover.{Cover as ReadCover}
use Rattle.blif_read.specs.View.{name_at, cover_of}
use Rattle.fault_sim.specs.declared.gates.GateCell.{GateCell}
use Rattle.fault_sim.specs.declared.gates.Gates.{Gates}

-- the bit of a net
abbrev pub bit_in : List Bool → NameId → Bool
bit_in row id = slice_index_or row id.0 false

-- the number that at most two bits spell, the first of them highest
abbrev pub place_of : List Bool → ℕ
place_of [] = 0
place_of (a ∷ []) = if a then 1 else 0
place_of (a ∷ b ∷ rest) = 2 * (if a then 1 else 0) + (if b then 1 else 0)

-- A table has the answers of a cover of at most two inputs.
abbrev pub HasTable : List Bool → ℕ → Cover → Type 0
HasTable table inputs cover = (bits : List Bool) → length bits ≡ inputs → inputs ≤ 2 → slice_index_or table (place_of bits) false ≡ cover_value cover bits

-- a `.names` by the numbers of its nets
pub record NumberedGate : Type 0 where
  pub ins : List NameId
  pub out : NameId
  pub cover : Cover

abbrev pub named_gate : List Name → NumberedGate → Gate
named_gate all g = record { ins = map (name_at all) g.ins; out = name_at all g.out; cover = g.cover }

-- the inputs of a cell, which stand in the list of all inputs
abbrev pub ins_of : List NameId → GateCell → List NameId
ins_of reads cell = slice_range reads cell.first (cell.first + cell.width)

abbrev pub gate_in : List NameId → GateCell → ReadCover → NumberedGate
gate_in reads cell cover = record { ins = ins_of reads cell; out = cell.out; cover = cover_of cover }

abbrev pub gates_in : List NameId → List GateCell → List ReadCover → List NumberedGate
gates_in reads [] covers = []
gates_in reads (g ∷ gs) [] = []
gates_in reads (g ∷ gs) (c ∷ cs) = gate_in reads g c ∷ gates_in reads gs cs

-- A cell has at most 16 inputs, which stand in the list, and its table has the answers of its cover.
pub record IsGate (reads : List NameId) (cell : GateCell) (cover : ReadCover) : Type 0 where
  pub inside : cell.first + cell.width ≤ length reads
  pub few : cell.width ≤ 16
  pub table : HasTable cell.table cell.width (cover_of cover)

abbrev pub numbered : Gates → List NumberedGate
numbered g = gates_in g.reads.items g.cells.items g.covers.items

pub record AreGates (g : Gates) : Type 0 where
  pub each : AllZip (IsGate g.reads.items) g.cells.items g.covers.items

-- The nets of a gate are among so many.
pub record IsGateWithin (nets : ℕ) (g : NumberedGate) : Type 0 where
  pub ins : All (λ (id : NameId). id.0 < nets) g.ins
  pub out : g.out.0 < nets

-- The fault's bit if there is one, else the cell's own.
abbrev pub shown_bit : List (Option Bool) → NameId → Bool → Bool
shown_bit forced id own = unwrap_or (slice_index_or forced id.0 None) own

-- a gate puts its bit into the row
abbrev pub put_gate : List (Option Bool) → List Bool → NumberedGate → List Bool
put_gate forced row g = slice_set row g.out.0 (shown_bit forced g.out (cover_value g.cover (map (bit_in row) g.ins)))

abbrev pub put_gates : List (Option Bool) → List Bool → List NumberedGate → List Bool
put_gates forced row [] = row
put_gates forced row (g ∷ gs) = put_gates forced (put_gate forced row g) gs
