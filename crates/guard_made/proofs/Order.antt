-- Cells in the order of their bits.
use Rattle.std.proofs.Common.{refl, ℕ, zero, suc, ◌<◌, ◌≤◌, List, [], ◌∷◌, ◌++◌, arith, IsTrue}
use Rattle.std.specs.Prelude.{AllPairs}
use Rattle.std.specs.List.{AllByRecursion}
use Rattle.std.proofs.lemmas.List.Elements.{All-from_recursion}
use Rattle.netlist_spec.specs.CellBits.{Bit, latch_bit, output_bit, stands_before}
use Rattle.netlist_spec.specs.GateRanges.{Region}
use Rattle.netlist_spec.proofs.OneValue.{All_append}
use Rattle.guard_cells.specs.Cells.{Cell, ranges_from}
use Rattle.guard_made.proofs.Cells.{of_range_bits, weaker}

abbrev pub Before : Cell → Cell → Type 0
Before c d = IsTrue (stands_before c.0 d.0)

abbrev pub InOrder : List Cell → Type 0
InOrder [] = Unit {0}
InOrder (c ∷ cs) = AllByRecursion (Before c) cs × InOrder cs

pub order_join : (cs ds : List Cell) → InOrder cs → InOrder ds → AllByRecursion (λ c. AllByRecursion (Before c) ds) cs → InOrder (cs ++ ds)
order_join [] ds a b all = b
order_join (c ∷ cs) ds a b all = (All_append (Before c) cs ds a.0 all.0, order_join cs ds a.1 b all.1)

-- ---- by the numbers of outputs

-- a latch, or an output below a number
abbrev pub IsBelow : ℕ → Bit → Type 0
IsBelow n (latch_bit i) = Unit {0}
IsBelow n (output_bit i) = i < n

-- an output from a number on
abbrev pub IsFrom : ℕ → Bit → Type 0
IsFrom n (latch_bit i) = ⊥
IsFrom n (output_bit i) = n ≤ i

pub latches_rise : (i j : ℕ) → i < j → IsTrue (stands_before (latch_bit i) (latch_bit j))
latches_rise i j h = grind arith

pub outputs_rise : (i j : ℕ) → i < j → IsTrue (stands_before (output_bit i) (output_bit j))
outputs_rise i j h = grind arith

below_before : (n : ℕ) (a b : Bit) → IsBelow n a → IsFrom n b → IsTrue (stands_before a b)
below_before n (latch_bit i) (latch_bit j) low high = absurd high
below_before n (latch_bit i) (output_bit j) low high = refl
below_before n (output_bit i) (latch_bit j) low high = absurd high
below_before n (output_bit i) (output_bit j) low high = outputs_rise i j (omega arith)

pub all_before : (n : ℕ) (cs ds : List Cell) → AllByRecursion (λ c. IsBelow n c.0) cs → AllByRecursion (λ d. IsFrom n d.0) ds → AllByRecursion (λ c. AllByRecursion (Before c) ds) cs
all_before n cs ds low high =
    weaker (λ (c : Cell). IsBelow n c.0) (λ (c : Cell). AllByRecursion (Before c) ds) (λ c a. weaker (λ (d : Cell). IsFrom n d.0) (Before c) (λ d b. below_before n c.0 d.0 a b) ds high) cs low

-- ---- their ranges

-- So stand their ranges.
pub ranges_in_order : (first : ℕ) (cs : List Cell) → InOrder cs → AllPairs (λ r s. IsTrue (stands_before r.bit s.bit)) (ranges_from first cs)
ranges_in_order first [] o i j d less h = absurd (omega arith)
ranges_in_order first (c ∷ cs) o zero zero d less h = absurd (omega arith)
ranges_in_order first (c ∷ cs) o zero (suc j) d less h =
    All-from_recursion (λ (r : Region). IsTrue (stands_before c.0 r.bit)) (ranges_from (suc c.1) cs) (of_range_bits (λ b. IsTrue (stands_before c.0 b)) (suc c.1) cs o.0) j d (omega arith)
ranges_in_order first (c ∷ cs) o (suc i) zero d less h = absurd (omega arith)
ranges_in_order first (c ∷ cs) o (suc i) (suc j) d less h = ranges_in_order (suc c.1) cs o.1 i j d (omega arith) (omega arith)
