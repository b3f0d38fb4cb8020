-- Copies of cones as cells.
use Rattle.std.proofs.Common.{◌≡◌, sym, ◌∙◌, ap, subst, ℕ, ◌+◌, ◌^◌, ◌≤◌, Bool, List, [], ◌∷◌, ◌++◌, length, append_assoc, arith, Some, sum}
use Rattle.std.specs.List.{AllZip, zip}
use Rattle.std.proofs.lemmas.List.{append-nil, length-append}
use Rattle.netlist_spec.specs.CellBits.{Bit}
use Rattle.netlist_spec.specs.Cones.{GateConeCost}
use Rattle.netlist_spec.specs.Gates.{GateForm, GateList, Machine}
use Rattle.guard_spec.specs.Codes.{Code}
use Rattle.guard_spec.specs.Words.{Layout}
use Rattle.gate_net.specs.GateNet.{net_count}
use Rattle.cone_split.specs.Cones.{HasRoom, IsConeSize}
use Rattle.cone_split.specs.Ranges.{IsCopy, KeepsGates}
use Rattle.guard_laws.specs.Copies.{IsBitCopy, range_of}
use Rattle.guard_laws.specs.Rows.{IsRangeOf, right_bit}
use Rattle.guard_cells.specs.Cells.{AreCells, Cell}
use Rattle.guard_cells.proofs.More.{beside_length, beside_more, cell_more, one_cell}

-- the bit has the root's value
abbrev pub ShowsNet : Machine → Code → Layout → Bit → ℕ → Type 0
ShowsNet m c l bit root = (u : ℕ → Bool) → right_bit m c l u bit ≡ Some (u root)

-- ---- one copy

abbrev pub CopiesAreRanges : Type 0
CopiesAreRanges = (source : Machine) (code : Code) (l : Layout) (leaf : List ℕ) (bit : Bit) (old new : GateList) (last : ℕ) (more : List GateForm)
    → IsBitCopy source code l leaf bit old new last → IsRangeOf (record new { gates = new.gates ++ more }) leaf source code l (range_of bit old new)

pub copy_cell : (ranges : CopiesAreRanges) (m : Machine) (leaf : List ℕ) (old net : GateList) (root n : ℕ) → IsCopy m.net (root ∷ []) leaf old net n → (c : Code) (l : Layout) (bit : Bit) → ShowsNet m c l bit root
    → AreCells (λ net r. IsRangeOf net leaf m c l r) (net_count old) ((bit, n) ∷ []) net
copy_cell ranges m leaf old net root n copy c l bit right =
    let whole : record net { gates = net.gates ++ [] } ≡ net = ap (λ (gs : List GateForm). record net { gates = gs }) (append-nil net.gates) in
    let Range : GateList → Type 0 = λ g. IsRangeOf g leaf m c l (range_of bit old net) in
    one_cell (λ net r. IsRangeOf net leaf m c l r) bit old net n copy.is_new copy.is_last (subst Range whole (ranges m c l leaf bit old net n [] (record { root = root; copy = copy; right = right })))

abbrev pub ConesCost : Type 0
ConesCost = (m : Machine) (roots costs : List ℕ) (n : ℕ) → AllZip (GateConeCost m) roots costs → IsConeSize m.net roots n → n ≤ sum costs

pub copy_few : (costs : ConesCost) (m : Machine) (leaf : List ℕ) (old net : GateList) (root n cost : ℕ) → IsCopy m.net (root ∷ []) leaf old net n → GateConeCost m root cost → net_count net ≤ net_count old + (2 + cost)
copy_few costs m leaf old net root n cost copy is_cost =
    let within = costs m (root ∷ []) (cost ∷ []) copy.size (is_cost, tt) copy.is_size in let few = copy.few in omega arith

pub copy_room : (costs : ConesCost) (m : Machine) (old : GateList) (root cost : ℕ) → GateConeCost m root cost → net_count old + (2 + cost) ≤ 2 ^ 23 → HasRoom m.net (root ∷ []) old
copy_room costs m old root cost is_cost room = λ size is_size. let within = costs m (root ∷ []) (cost ∷ []) size (is_cost, tt) is_size in omega arith

-- ---- copies one behind the other

-- what a copy adds to the nets of the cells
abbrev pub AddsCopy : Machine → List ℕ → (old net : GateList) → (before after : List ℕ) → (root : ℕ) → Type 0
AddsCopy m leaf old net before after root =
    (n : ℕ) × (after ≡ before ++ n ∷ [])
    × ((c : Code) (l : Layout) (bit : Bit) → ShowsNet m c l bit root → AreCells (λ net r. IsRangeOf net leaf m c l r) (net_count old) ((bit, n) ∷ []) net)

-- what copies of some roots add
abbrev pub AddCopies : Machine → List ℕ → (old net : GateList) → (before after : List ℕ) → (roots : List ℕ) → Type 0
AddCopies m leaf old net before after roots =
    (nets : List ℕ) × (length nets ≡ length roots) × (after ≡ before ++ nets)
    × ((c : Code) (l : Layout) (bits : List Bit) → AllZip (ShowsNet m c l) bits roots → AreCells (λ net r. IsRangeOf net leaf m c l r) (net_count old) (zip bits nets) net)

abbrev pub RangesJoin : Type 0
RangesJoin = (leaf : List ℕ) (m : Machine) (code : Code) (l : Layout) (first : ℕ) (cs ds : List Cell) (mid net : GateList)
    → AreCells (λ net r. IsRangeOf net leaf m code l r) first cs mid → KeepsGates mid net → AreCells (λ net r. IsRangeOf net leaf m code l r) (net_count mid) ds net
    → AreCells (λ net r. IsRangeOf net leaf m code l r) first (cs ++ ds) net

pub no_copies : (m : Machine) (leaf : List ℕ) (old : GateList) (before : List ℕ) → AddCopies m leaf old old before before []
no_copies m leaf old before = ([], omega arith, sym (append-nil before), none)
  where
    none : (c : Code) (l : Layout) (bits : List Bit) → AllZip (ShowsNet m c l) bits [] → AreCells (λ net r. IsRangeOf net leaf m c l r) (net_count old) (zip bits []) old
    none c l [] all = record { ranges = tt; end = omega arith }
    none c l (b ∷ bits) all = absurd all

pub copies_more : (join : RangesJoin) (m : Machine) (leaf : List ℕ) (old mid net : GateList) (before so_far after : List ℕ) (roots : List ℕ) (root : ℕ)
    → AddCopies m leaf old mid before so_far roots → KeepsGates mid net → AddsCopy m leaf mid net so_far after root → AddCopies m leaf old net before after (roots ++ root ∷ [])
copies_more join m leaf old mid net before so_far after roots root (nets, many, there, rows) kept (n, next, cell) = (
  nets ++ n ∷ [],
  (let a = length-append nets (n ∷ []) in let b = length-append roots (root ∷ []) in omega arith),
  next ∙ (ap (λ (ns : List ℕ). ns ++ n ∷ []) there ∙ append_assoc before nets (n ∷ [])),
  λ c l bits right.
      let (front, bit, same, rest, last) = beside_more (ShowsNet m c l) bits roots root right in
      let long = beside_length (ShowsNet m c l) front roots rest in
      subst (λ (bs : List Bit). AreCells (λ net r. IsRangeOf net leaf m c l r) (net_count old) (zip bs (nets ++ n ∷ [])) net) (sym same)
      (cell_more (λ net r. IsRangeOf net leaf m c l r) (join leaf m c l) (net_count old) front nets bit n mid net (omega arith) (rows c l front rest) kept (cell c l bit last)),
)
