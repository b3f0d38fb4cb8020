-- The plain size of a guard, in cells.
use Rattle.std.specs.Prelude.{◌≡◌, ℕ, zero, suc, ◌+◌, ◌*◌, Bool, false, List, length, map, take, Some, slice_get, slice_index_or, sum_by, Contains, if◌then◌else◌}
use Rattle.std.specs.List.{AllZip, range_with_len, zip}
use Rattle.netlist_spec.specs.Netlist.{Model, File}
use Rattle.netlist_spec.specs.Covers.{Library}
use Rattle.netlist_spec.specs.Models.{latch_inputs, output_nets}
use Rattle.netlist_spec.specs.SourceRun.{Bits}
use Rattle.guard_spec.specs.Codes.{Code, weight, Mode, detect, correct, rail_count}
use Rattle.guard_spec.specs.Words.{Words, Layout}
use Rattle.netlist_spec.specs.Gates.{Machine}
use Rattle.netlist_spec.specs.Cones.{marked_sum, AreMarked, ConeCostOf, RestsOnLatch, IsGateReached, GateConeCost}

-- the binomial coefficient of n over i
abbrev pub choose : ℕ → ℕ → ℕ
choose n zero = 1
choose zero (suc i) = 0
choose (suc n) (suc i) = choose n i + choose n (suc i)

-- the ones in the first m rows
abbrev pub ones : Code → ℕ → ℕ
ones code m = sum_by weight (take m code.rows)

-- the number of error patterns of weight 1 to t over m data places and the check places
abbrev pub pattern_count : Code → ℕ → ℕ → ℕ
pattern_count code t m = sum_by (λ i. choose (m + code.columns) i) (range_with_len 1 t)

-- the cost of a corrector that reads a word of m places within t
abbrev pub corrector_cost : Code → ℕ → ℕ → ℕ
corrector_cost code t m = ones code m + pattern_count code t m * (code.columns + t) + 2 * m + 1

-- the cost of check bit j, given the costs of the bits: 1, and the bits whose row has a 1 in column j
abbrev pub column_cost : Code → List ℕ → ℕ → ℕ
column_cost code costs j = 1 + sum_by (λ (p : ℕ × Bits). if slice_index_or p.1 j false then p.0 else 0) (zip costs code.rows)

-- the cost of a word, given the costs of its bits
abbrev pub word_cost : Code → List ℕ → ℕ
word_cost code costs = sum_by (λ n. n) costs + sum_by (column_cost code costs) (range_with_len 0 code.columns)

-- the cost of a rail over all words
abbrev pub rail_cost : Code → Layout → ℕ
rail_cost code l = 1 + sum_by (λ w. ones code (length w) + 2 * code.columns) l.state + sum_by (λ w. ones code (length w) + 2 * code.columns) l.output

-- the nets of a word
abbrev pub AreNets : {X : Type 0} → List X → List ℕ → List X → Type 0
AreNets all word nets = AllZip (λ i x. slice_get all i ≡ Some x) word nets

-- The sums for nets of some kind. `ConeCost x n` says that the cone of x costs n, and `RestsOn x i` that x is
-- the output of latch i or that the cone of x reads it. State words are read within a radius.
module _ {X : Type 0} (ConeCost : X → ℕ → Type 0) (RestsOn : X → ℕ → Type 0) (code : Code) (mode : Mode) (radius : ℕ) where
  -- In correction a bit pays a corrector for each state word that holds a latch on which it rests.
  abbrev pub Needs : X → List ℕ → Type 0
  Needs x word = (i : ℕ) × Contains word i × RestsOn x i

  abbrev pub CorrectorCost : Mode → Words → X → ℕ → Type 0
  CorrectorCost detect state x n = n ≡ 0
  CorrectorCost correct state x n =
      (marks : List Bool) × AreMarked (Needs x) state marks × (n ≡ marked_sum (λ w. corrector_cost code radius (length w)) state marks)

  -- the cost of one bit: 2, its cone, and its correctors
  pub record BitCost (state : Words) (x : X) (n : ℕ) : Type 0 where
    pub cone : ℕ
    pub is_cone : ConeCost x cone
    pub correctors : ℕ
    pub are_correctors : CorrectorCost mode state x correctors
    pub total : n ≡ 2 + cone + correctors

  abbrev pub WordCost : Words → List X → ℕ → Type 0
  WordCost state nets n = (costs : List ℕ) × AllZip (BitCost state) nets costs × (n ≡ word_cost code costs)

  abbrev pub WordsCost : Layout → List X → Words → ℕ → Type 0
  WordsCost l all words n =
      (costs : List ℕ) × AllZip (λ word cost. (nets : List X) × AreNets all word nets × WordCost l.state nets cost) words costs
      × (n ≡ sum_by (λ c. c) costs)

  -- The size of a guard with so many rails, where `stores` are the D nets of the latches and `outs` the output nets.
  pub record IsPlainSize (rails : ℕ) (l : Layout) (stores outs : List X) (n : ℕ) : Type 0 where
    pub state_cost : ℕ
    pub is_state_cost : WordsCost l stores l.state state_cost
    pub output_cost : ℕ
    pub is_output_cost : WordsCost l outs l.output output_cost
    pub total : n ≡ sum_by (λ w. length w + code.columns) l.state + state_cost + output_cost + rails * rail_cost code l

-- The size of a guard for a source that reads its state within a radius and has so many rails.
abbrev pub IsSizeWith : File → Library → Model → Code → Mode → (radius rails : ℕ) → Layout → ℕ → Type 0
IsSizeWith file library m code mode radius rails l n =
    IsPlainSize (ConeCostOf file library m) (RestsOnLatch file library m) code mode radius rails l (latch_inputs m) (output_nets m) n

-- The plain size of a guard for a source, where the bound is t.
abbrev pub IsPlain : File → Library → Model → Code → Mode → ℕ → Layout → ℕ → Type 0
IsPlain file library m code mode t l n = IsSizeWith file library m code mode t (rail_count mode t) l n

abbrev pub IsMachineSizeWith : Machine → Code → Mode → (radius rails : ℕ) → Layout → ℕ → Type 0
IsMachineSizeWith m code mode radius rails l n =
    IsPlainSize (GateConeCost m) (λ x i. IsGateReached m x (m.inputs + i)) code mode radius rails l (map (λ r. r.d) m.latches) m.outputs n

abbrev pub IsMachinePlain : Machine → Code → Mode → ℕ → Layout → ℕ → Type 0
IsMachinePlain m code mode t l n = IsMachineSizeWith m code mode t (rail_count mode t) l n
