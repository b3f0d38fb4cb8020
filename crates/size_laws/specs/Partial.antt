-- Sums of a size that have come as far as some of the words.
use Rattle.std.specs.Prelude.{◌≡◌, ℕ, ◌+◌, ◌*◌, List, length, take, sum_by, Contains}
use Rattle.netlist_spec.specs.Netlist.{Name, Model, File}
use Rattle.netlist_spec.specs.Covers.{Library}
use Rattle.netlist_spec.specs.Models.{latch_inputs, output_nets}
use Rattle.guard_spec.specs.Codes.{Code, Mode}
use Rattle.guard_spec.specs.Words.{Words, Layout}
use Rattle.guard_spec.specs.Plain.{rail_cost, BitCost, WordCost, WordsCost}
use Rattle.netlist_spec.specs.Cones.{ConeCostOf, RestsOnLatch}

-- The sum over the words `done` of a layout: as the size of a guard, with `done` in the place of all words.
pub record IsSumOver {X : Type 0} (ConeCost : X → ℕ → Type 0) (RestsOn : X → ℕ → Type 0) (code : Code) (mode : Mode) (radius rails : ℕ) (l done : Layout) (stores outs : List X) (n : ℕ) : Type 0 where
  pub state_cost : ℕ
  pub is_state_cost : WordsCost ConeCost RestsOn code mode radius l stores done.state state_cost
  pub output_cost : ℕ
  pub is_output_cost : WordsCost ConeCost RestsOn code mode radius l outs done.output output_cost
  pub total : n ≡ sum_by (λ w. length w + code.columns) done.state + state_cost + output_cost + rails * rail_cost code l

-- the first i state words and the first j output words of a layout
abbrev pub first_words : Layout → ℕ → ℕ → Layout
first_words l i j = record { state = take i l.state; output = take j l.output }

-- The same for a source: the cost of a bit, of a word with these nets, and the sum over the first words.
module _ (file : File) (library : Library) (m : Model) (code : Code) (mode : Mode) (radius : ℕ) where
  abbrev pub IsBitCost : Words → Name → ℕ → Type 0
  IsBitCost state x n = BitCost (ConeCostOf file library m) (RestsOnLatch file library m) code mode radius state x n

  abbrev pub IsWordCost : Words → List Name → ℕ → Type 0
  IsWordCost state nets n = WordCost (ConeCostOf file library m) (RestsOnLatch file library m) code mode radius state nets n

  -- so many rails, and the sum over the first i state words and the first j output words
  abbrev pub IsPartialSize : (rails : ℕ) → Layout → (i j : ℕ) → ℕ → Type 0
  IsPartialSize rails l i j n =
      IsSumOver (ConeCostOf file library m) (RestsOnLatch file library m) code mode radius rails l (first_words l i j) (latch_inputs m) (output_nets m) n

-- In correction the bit needs a corrector for the word.
abbrev pub NeedsWord : File → Library → Model → Name → List ℕ → Type 0
NeedsWord file library m x word = (i : ℕ) × Contains word i × RestsOnLatch file library m x i
