-- Ranges of a guard that take no more than their bits cost.
use Rattle.std.specs.Prelude.{◌≡◌, ℕ, ◌+◌, ◌*◌, ◌<◌, ◌≤◌, Some, List, ◌∷◌, ◌++◌, length, map, slice_get}
use Rattle.std.specs.List.{AllZip}
use Rattle.netlist_spec.specs.Gates.{Machine}
use Rattle.guard_spec.specs.Codes.{Code, Mode}
use Rattle.guard_spec.specs.Words.{Words, Layout}
use Rattle.netlist_spec.specs.CellBits.{latch_bit, output_bit}
use Rattle.guard_spec.specs.Plain.{BitCost, column_cost, rail_cost}
use Rattle.netlist_spec.specs.Cones.{GateConeCost, IsGateReached}
use Rattle.netlist_spec.specs.GateRanges.{Region}
use Rattle.guard_laws.specs.Places.{latches_of_words}

-- the cost of a bit with the value of net x
abbrev pub NetCost : Machine → Code → Mode → ℕ → Layout → ℕ → ℕ → Type 0
NetCost source code mode radius l x n = BitCost (GateConeCost source) (λ y i. IsGateReached source y (source.inputs + i)) code mode radius l.state x n

-- The range is of a place of a state word, of an output, of a check bit of either, or of a rail, and has at most as many gates
-- as that costs.
pub data IsFew (source : Machine) (code : Code) (mode : Mode) (radius rails : ℕ) (l : Layout) (r : Region) : Type 0 where
  of_place : (before after : Words) (w : List ℕ) (p j d : ℕ) → r.bit ≡ latch_bit (latches_of_words code before + p) → l.state ≡ before ++ w ∷ after → slice_get w p ≡ Some j → slice_get (map (λ r. r.d) source.latches) j ≡ Some d
      → ((n : ℕ) → NetCost source code mode radius l d n → r.end ≤ r.first + n) → IsFew source code mode radius rails l r
  of_check : (before after : Words) (w : List ℕ) (c : ℕ) (roots : List ℕ) → r.bit ≡ latch_bit (latches_of_words code before + length w + c) → l.state ≡ before ++ w ∷ after → c < code.columns → map (λ j. slice_get (map (λ r. r.d) source.latches) j) w ≡ map (λ d. Some d) roots
      → ((costs : List ℕ) → AllZip (NetCost source code mode radius l) roots costs → r.end ≤ r.first + column_cost code costs c) → IsFew source code mode radius rails l r
  of_output : (i o : ℕ) → r.bit ≡ output_bit i → slice_get source.outputs i ≡ Some o
      → ((n : ℕ) → NetCost source code mode radius l o n → r.end ≤ r.first + n) → IsFew source code mode radius rails l r
  of_output_check : (before after : Words) (w : List ℕ) (c : ℕ) (roots : List ℕ) → r.bit ≡ output_bit (length source.outputs + length before * code.columns + c) → l.output ≡ before ++ w ∷ after → c < code.columns → map (λ j. slice_get source.outputs j) w ≡ map (λ o. Some o) roots
      → ((costs : List ℕ) → AllZip (NetCost source code mode radius l) roots costs → r.end ≤ r.first + column_cost code costs c) → IsFew source code mode radius rails l r
  of_rail : (i : ℕ) → r.bit ≡ output_bit (length source.outputs + length l.output * code.columns + i) → i < rails → r.end ≤ r.first + rail_cost code l → IsFew source code mode radius rails l r
