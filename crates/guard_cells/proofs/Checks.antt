-- Check bits as cells.
use Rattle.std.proofs.Common.{◌≡◌, refl, sym, ◌∙◌, ap, ap₂, subst, ℕ, ◌+◌, ◌<◌, ◌^◌, ◌≤◌, Bool, List, [], ◌∷◌, ◌++◌, length, map, append_assoc, arith, Some, slice_get}
use Rattle.std.specs.List.{AllByRecursion, AllZip, zip}
use Rattle.std.proofs.lemmas.List.{append-nil, length-append}
use Rattle.netlist_spec.specs.CellBits.{Bit}
use Rattle.netlist_spec.specs.Cones.{GateConeCost}
use Rattle.netlist_spec.specs.Gates.{GateForm, GateList, Machine}
use Rattle.guard_spec.specs.Codes.{Code, checks_of}
use Rattle.guard_spec.specs.Plain.{column_cost}
use Rattle.guard_spec.specs.Words.{Layout}
use Rattle.gate_net.specs.GateNet.{net_count}
use Rattle.cone_split.specs.Cones.{HasRoom, IsConeSize}
use Rattle.cone_split.specs.Ranges.{IsCopy, KeepsGates}
use Rattle.predictor.specs.Columns.{IsCheckBit, column_roots}
use Rattle.guard_laws.specs.Copies.{IsBitCheck, range_of}
use Rattle.guard_laws.specs.Rows.{IsRangeOf, right_bit}
use Rattle.guard_cells.specs.Cells.{AreCells, GivesCosts, bit_costs}
use Rattle.guard_cells.proofs.Copies.{RangesJoin}
use Rattle.guard_cells.proofs.More.{cell_more, front_and_last, get_front, get_last, one_cell}

-- the bit has check bit j of the word of the roots
abbrev pub ShowsCheck : Machine → Code → List ℕ → Layout → ℕ → Bit → Type 0
ShowsCheck m code roots l j bit = (u : ℕ → Bool) → right_bit m code l u bit ≡ slice_get (checks_of code (map u roots)) j

-- ---- one check bit

abbrev pub ChecksAreRanges : Type 0
ChecksAreRanges = (source : Machine) (code : Code) (l : Layout) (leaf : List ℕ) (bit : Bit) (old new : GateList) (last : ℕ) (more : List GateForm)
    → IsBitCheck source code l leaf bit old new last → IsRangeOf (record new { gates = new.gates ++ more }) leaf source code l (range_of bit old new)

pub check_cell : (ranges : ChecksAreRanges) (m : Machine) (leaf : List ℕ) (code : Code) (roots : List ℕ) (j : ℕ) (old net : GateList) (n : ℕ)
    → IsCopy m.net (column_roots code j roots) leaf old net n → IsCheckBit m.net roots leaf code j old net n → (l : Layout) (bit : Bit) → ShowsCheck m code roots l j bit
    → AreCells (λ net r. IsRangeOf net leaf m code l r) (net_count old) ((bit, n) ∷ []) net
check_cell ranges m leaf code roots j old net n copy check l bit right =
    let whole : record net { gates = net.gates ++ [] } ≡ net = ap (λ (gs : List GateForm). record net { gates = gs }) (append-nil net.gates) in
    let Range : GateList → Type 0 = λ g. IsRangeOf g leaf m code l (range_of bit old net) in
    one_cell (λ net r. IsRangeOf net leaf m code l r) bit old net n copy.is_new copy.is_last
    (subst Range whole (ranges m code l leaf bit old net n [] (record { roots = roots; j = j; copy = copy; check = check; right = right })))

abbrev pub ColumnsCost : Type 0
ColumnsCost = (m : Machine) (code : Code) (j : ℕ) (roots cones : List ℕ) (size : ℕ) → AllZip (GateConeCost m) roots cones → IsConeSize m.net (column_roots code j roots) size
    → size + length (column_roots code j roots) + 1 ≤ column_cost code (map (λ cone. 2 + cone) cones) j

costs_map : (cost : ℕ → ℕ) (roots : List ℕ) → map (λ cone. 2 + cone) (map cost roots) ≡ bit_costs cost roots
costs_map cost [] = refl
costs_map cost (n ∷ roots) = ap (λ (ks : List ℕ). (2 + cost n) ∷ ks) (costs_map cost roots)

cones_cost : (m : Machine) (cost : ℕ → ℕ) (roots : List ℕ) → GivesCosts m cost → AllByRecursion (λ n. n < net_count m.net) roots → AllZip (GateConeCost m) roots (map cost roots)
cones_cost m cost [] gives below = tt
cones_cost m cost (n ∷ roots) gives below = (gives n below.0, cones_cost m cost roots gives below.1)

column_within : (columns : ColumnsCost) (m : Machine) (code : Code) (roots : List ℕ) (j size : ℕ) (cost : ℕ → ℕ) → GivesCosts m cost → AllByRecursion (λ n. n < net_count m.net) roots → IsConeSize m.net (column_roots code j roots) size
    → size + length (column_roots code j roots) + 1 ≤ column_cost code (bit_costs cost roots) j
column_within columns m code roots j size cost gives below is_size =
    let Within : List ℕ → Type 0 = λ costs. size + length (column_roots code j roots) + 1 ≤ column_cost code costs j in
    subst Within (costs_map cost roots) (columns m code j roots (map cost roots) size (cones_cost m cost roots gives below) is_size)

pub check_few : (columns : ColumnsCost) (m : Machine) (leaf : List ℕ) (code : Code) (roots : List ℕ) (j : ℕ) (old net : GateList) (n : ℕ) (cost : ℕ → ℕ) → AllByRecursion (λ n. n < net_count m.net) roots
    → IsCopy m.net (column_roots code j roots) leaf old net n → GivesCosts m cost → net_count net ≤ net_count old + column_cost code (bit_costs cost roots) j
check_few columns m leaf code roots j old net n cost below copy gives =
    let within = column_within columns m code roots j copy.size cost gives below copy.is_size in let few = copy.few in omega arith

pub check_room : (columns : ColumnsCost) (m : Machine) (code : Code) (roots : List ℕ) (j : ℕ) (old : GateList) (cost : ℕ → ℕ) → AllByRecursion (λ n. n < net_count m.net) roots → GivesCosts m cost
    → net_count old + column_cost code (bit_costs cost roots) j ≤ 2 ^ 23 → HasRoom m.net (column_roots code j roots) old
check_room columns m code roots j old cost below gives room = λ size is_size. let within = column_within columns m code roots j size cost gives below is_size in omega arith

-- ---- check bits one behind the other

-- what check bit j adds to the nets of the cells
abbrev pub AddsCheck : Machine → List ℕ → Code → List ℕ → (old net : GateList) → (before after : List ℕ) → (j : ℕ) → Type 0
AddsCheck m leaf code roots old net before after j =
    (n : ℕ) × (after ≡ before ++ n ∷ [])
    × ((l : Layout) (bit : Bit) → ShowsCheck m code roots l j bit → AreCells (λ net r. IsRangeOf net leaf m code l r) (net_count old) ((bit, n) ∷ []) net)

-- what the first check bits add
abbrev pub AddChecks : Machine → List ℕ → Code → List ℕ → (old net : GateList) → (before after : List ℕ) → (many : ℕ) → Type 0
AddChecks m leaf code roots old net before after many =
    (nets : List ℕ) × (length nets ≡ many) × (after ≡ before ++ nets)
    × ((l : Layout) (bits : List Bit) → length bits ≡ many → ((j : ℕ) (bit : Bit) → slice_get bits j ≡ Some bit → ShowsCheck m code roots l j bit)
    → AreCells (λ net r. IsRangeOf net leaf m code l r) (net_count old) (zip bits nets) net)

pub no_checks : (m : Machine) (leaf : List ℕ) (code : Code) (roots : List ℕ) (old : GateList) (before : List ℕ) → AddChecks m leaf code roots old old before before 0
no_checks m leaf code roots old before = ([], refl, sym (append-nil before), none)
  where
    none : (l : Layout) (bits : List Bit) → length bits ≡ 0 → ((j : ℕ) (bit : Bit) → slice_get bits j ≡ Some bit → ShowsCheck m code roots l j bit) → AreCells (λ net r. IsRangeOf net leaf m code l r) (net_count old) (zip bits []) old
    none l [] long right = record { ranges = tt; end = refl }
    none l (b ∷ bits) long right = absurd (omega arith)

pub checks_more : (join : RangesJoin) (m : Machine) (leaf : List ℕ) (code : Code) (roots : List ℕ) (old mid net : GateList) (before so_far after : List ℕ) (j : ℕ)
    → AddChecks m leaf code roots old mid before so_far j → KeepsGates mid net → AddsCheck m leaf code roots mid net so_far after j → AddChecks m leaf code roots old net before after (j + 1)
checks_more join m leaf code roots old mid net before so_far after j (nets, many, there, rows) kept (n, next, cell) = (
  nets ++ n ∷ [],
  (let a = length-append nets (n ∷ []) in omega arith),
  next ∙ (ap (λ (ns : List ℕ). ns ++ n ∷ []) there ∙ append_assoc before nets (n ∷ [])),
  λ l bits long right.
      let (front, bit, same, short) = front_and_last bits j long in
      let at_front = λ (k : ℕ) (b : Bit) (e : slice_get front k ≡ Some b). right k b (ap (λ (bs : List Bit). slice_get bs k) same ∙ get_front front (bit ∷ []) k b e) in
      let last = right j bit (ap₂ (λ (bs : List Bit) (k : ℕ). slice_get bs k) same (sym short) ∙ get_last front bit) in
      subst (λ (bs : List Bit). AreCells (λ net r. IsRangeOf net leaf m code l r) (net_count old) (zip bs (nets ++ n ∷ [])) net) (sym same)
      (cell_more (λ net r. IsRangeOf net leaf m code l r) (join leaf m code l) (net_count old) front nets bit n mid net (omega arith) (rows l front short at_front) kept (cell l bit last)),
)
