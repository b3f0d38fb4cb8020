-- The cells of a guard's bits, each at the end of a range of gates, one range behind the other.
use Rattle.std.specs.Prelude.{◌≡◌, ℕ, suc, ◌+◌, ◌<◌, List, [], ◌∷◌, map, slice_index_or, sum_by}
use Rattle.std.specs.List.{AllByRecursion, range_with_len}
use Rattle.netlist_spec.specs.Gates.{GateList, Machine}
use Rattle.netlist_spec.specs.CellBits.{Bit}
use Rattle.netlist_spec.specs.Cones.{GateConeCost}
use Rattle.netlist_spec.specs.GateRanges.{Region}
use Rattle.guard_spec.specs.Codes.{Code}
use Rattle.guard_spec.specs.Plain.{column_cost, word_cost}
use Rattle.guard_spec.specs.Words.{Words}
use Rattle.gate_net.specs.GateNet.{net_count}

-- a bit, and the net of its own cell
abbrev pub Cell : Type 0
Cell = Bit × ℕ

-- The ranges of some cells, from net `first` on: each begins behind the cell in front of it, and ends with its own cell.
abbrev pub ranges_from : ℕ → List Cell → List Region
ranges_from first [] = []
ranges_from first (c ∷ cs) = record { bit = c.0; first = first; end = suc c.1 } ∷ ranges_from (suc c.1) cs

-- the net behind the last of them
abbrev pub end_from : ℕ → List Cell → ℕ
end_from first [] = first
end_from first (c ∷ cs) = end_from (suc c.1) cs

-- From net `first` to its end the list has the ranges of these cells and nothing else, and each range is as it ought to be.
pub record AreCells (IsOne : GateList → Region → Type 0) (first : ℕ) (cells : List Cell) (net : GateList) : Type 0 where
  pub ranges : AllByRecursion (λ r. (r.first < r.end) × IsOne net r) (ranges_from first cells)
  pub end : end_from first cells ≡ net_count net

-- ---- what they cost

-- for each net of a machine, what its cone costs
abbrev pub GivesCosts : Machine → (ℕ → ℕ) → Type 0
GivesCosts m cost = (n : ℕ) → n < net_count m.net → GateConeCost m n (cost n)

-- the costs of bits that show some nets
abbrev pub bit_costs : (ℕ → ℕ) → List ℕ → List ℕ
bit_costs cost nets = map (λ n. 2 + cost n) nets

-- the nets of a word, of all nets
abbrev pub nets_at : List ℕ → List ℕ → List ℕ
nets_at all word = map (λ i. slice_index_or all i 0) word

-- what some words cost
abbrev pub words_cost : (ℕ → ℕ) → Code → List ℕ → Words → ℕ
words_cost cost code all words = sum_by (λ w. word_cost code (bit_costs cost (nets_at all w))) words

-- what the check bits of a word cost
abbrev pub checks_cost : (ℕ → ℕ) → Code → List ℕ → ℕ
checks_cost cost code nets = sum_by (column_cost code (bit_costs cost nets)) (range_with_len 0 code.columns)
