-- Rails as cells.
use Rattle.std.proofs.Common.{◌≡◌, refl, sym, ◌∙◌, ap, subst, ℕ, ◌+◌, List, [], ◌∷◌, ◌++◌, length, append_assoc, arith, IsTrue, ◌↔◌}
use Rattle.std.specs.List.{flat_map, zip}
use Rattle.std.proofs.lemmas.List.{append-nil, length-append}
use Rattle.netlist_spec.specs.CellBits.{Bit}
use Rattle.netlist_spec.specs.Gates.{GateList}
use Rattle.guard_spec.specs.Codes.{Code}
use Rattle.gate_net.specs.GateNet.{net_count}
use Rattle.gate_net.specs.Words.{WordNets, nets_of}
use Rattle.cone_split.specs.Ranges.{KeepsGates}
use Rattle.alarm_rails.specs.Rail.{IsRail, SomeIsNone}
use Rattle.guard_laws.specs.Copies.{range_of}
use Rattle.guard_laws.specs.Rows.{IsRailRange}
use Rattle.guard_cells.specs.Cells.{AreCells, Cell}
use Rattle.guard_cells.proofs.More.{cell_more, front_and_last, one_cell}

module _ (code : Code) (words : List WordNets) where
  -- a row of rails over the words
  abbrev pub AreRails : ℕ → List Cell → GateList → Type 0
  AreRails first cells net = AreCells (λ net r. IsRailRange net (flat_map nets_of words) (SomeIsNone code words) r) first cells net

  pub rail_cell : (old net : GateList) (n : ℕ) → IsRail code words old net n → (bit : Bit) → AreRails (net_count old) ((bit, n) ∷ []) net
  rail_cell old net n rail bit =
      one_cell (λ net r. IsRailRange net (flat_map nets_of words) (SomeIsNone code words) r) bit old net n rail.is_new rail.is_last
      (record {
        reads = rail.reads (range_of bit old net) (record { first = refl; end = refl });
        leads = rail.leads (range_of bit old net) (record { first = refl; end = refl });
        value = λ last v end answers. let same : n ≡ last = let long = rail.is_last in omega arith in subst (λ (k : ℕ). IsTrue (v k) ↔ SomeIsNone code words v) same (rail.value v answers);
      })

  -- what a rail adds to the nets of the cells
  abbrev pub AddsRail : (old net : GateList) → (before after : List ℕ) → Type 0
  AddsRail old net before after = (n : ℕ) × (after ≡ before ++ n ∷ []) × ((bit : Bit) → AreRails (net_count old) ((bit, n) ∷ []) net)

  -- what so many rails add
  abbrev pub AddRails : (old net : GateList) → (before after : List ℕ) → (many : ℕ) → Type 0
  AddRails old net before after many =
      (nets : List ℕ) × (length nets ≡ many) × (after ≡ before ++ nets) × ((bits : List Bit) → length bits ≡ many → AreRails (net_count old) (zip bits nets) net)

  pub no_rails : (old : GateList) (before : List ℕ) → AddRails old old before before 0
  no_rails old before = ([], refl, sym (append-nil before), none)
    where
      none : (bits : List Bit) → length bits ≡ 0 → AreRails (net_count old) (zip bits []) old
      none [] long = record { ranges = tt; end = refl }
      none (b ∷ bits) long = absurd (omega arith)

  abbrev RailsJoin : Type 0
  RailsJoin = (first : ℕ) (cs ds : List Cell) (mid net : GateList) → AreRails first cs mid → KeepsGates mid net → AreRails (net_count mid) ds net → AreRails first (cs ++ ds) net

  pub rails_more : (join : RailsJoin) (old mid net : GateList) (before so_far after : List ℕ) (many : ℕ)
      → AddRails old mid before so_far many → KeepsGates mid net → AddsRail mid net so_far after → AddRails old net before after (many + 1)
  rails_more join old mid net before so_far after many (nets, long, there, rows) kept (n, next, cell) = (
    nets ++ n ∷ [],
    (let a = length-append nets (n ∷ []) in omega arith),
    next ∙ (ap (λ (ns : List ℕ). ns ++ n ∷ []) there ∙ append_assoc before nets (n ∷ [])),
    λ bits all.
        let (front, bit, same, short) = front_and_last bits many all in
        subst (λ (bs : List Bit). AreRails (net_count old) (zip bs (nets ++ n ∷ [])) net) (sym same)
        (cell_more (λ net r. IsRailRange net (flat_map nets_of words) (SomeIsNone code words) r) join (net_count old) front nets bit n mid net (omega arith) (rows front short) kept (cell bit)),
  )
