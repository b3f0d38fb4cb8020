-- Cells whose bits are numbered, in the order of their nets.
use Rattle.std.proofs.Common.{◌≡◌, refl, sym, ◌∙◌, ap, ap₂, subst, ℕ, zero, suc, ◌+◌, ◌<◌, ◌≤◌, Bool, true, false, cond, nat_lt, List, [], ◌∷◌, length, map, slice_get, Some, arith, Contains, IsTrue, zip, ltb-true}
use Rattle.std.specs.List.{AllByRecursion, range_with_len}
use Rattle.netlist_spec.specs.CellBits.{Bit, latch_bit, output_bit, stands_before}
use Rattle.cone_split.proofs.Cells.{contains_head, contains_tail}
use Rattle.guard_laws.proofs.Lists.{inside}
use Rattle.guard_cells.specs.Cells.{Cell}
use Rattle.guard_made.specs.Made.{gate_output_cells}
use Rattle.guard_made.proofs.Cells.{weaker}
use Rattle.guard_made.proofs.Order.{Before, InOrder, IsBelow, IsFrom, outputs_rise}

-- the cells of bits from number `first` on
abbrev pub cells_of : (ℕ → Bit) → ℕ → List ℕ → List Cell
cells_of bit first nets = zip (map bit (range_with_len first (length nets))) nets

-- The cell has the bit and the net of one place of the list.
pub record IsAt (bit : ℕ → Bit) (first : ℕ) (nets : List ℕ) (c : Cell) : Type 0 where
  pub place : ℕ
  pub is_bit : c.0 ≡ bit (first + place)
  pub is_net : slice_get nets place ≡ Some c.1

module _ (bit : ℕ → Bit) where
  at_first : (first n : ℕ) (ns : List ℕ) → IsAt bit first (n ∷ ns) (bit first, n)
  at_first first n ns = record { place = 0; is_bit = ap bit (let e : first ≡ first + 0 = omega arith in e); is_net = refl }

  at_later : (first n : ℕ) (ns : List ℕ) (c : Cell) → IsAt bit (first + 1) ns c → IsAt bit first (n ∷ ns) c
  at_later first n ns c is = record { place = suc is.place; is_bit = is.is_bit ∙ ap bit (let e : first + 1 + is.place ≡ first + suc is.place = omega arith in e); is_net = is.is_net }

  pub each_at : (first : ℕ) (nets : List ℕ) → AllByRecursion (IsAt bit first nets) (cells_of bit first nets)
  each_at first [] = tt
  each_at first (n ∷ ns) = (at_first first n ns, weaker (IsAt bit (first + 1) ns) (IsAt bit first (n ∷ ns)) (at_later first n ns) (cells_of bit (first + 1) ns) (each_at (first + 1) ns))

  -- The cell of each place is there.
  pub has_cell : (first : ℕ) (nets : List ℕ) (i n : ℕ) → slice_get nets i ≡ Some n → Contains (cells_of bit first nets) (bit (first + i), n)
  has_cell first [] i n e = cc e
  has_cell first (k ∷ ns) zero n e =
      let same : k ≡ n = cc e in
      subst (λ (c : Cell). Contains (cells_of bit first (k ∷ ns)) c) (ap₂ (λ (b : Bit) (m : ℕ). (b, m)) (ap bit (let z : first ≡ first + 0 = omega arith in z)) same) (contains_head (bit first, k) (cells_of bit (first + 1) ns))
  has_cell first (k ∷ ns) (suc i) n e =
      contains_tail (bit first, k) (bit (first + suc i), n) (cells_of bit (first + 1) ns)
      (subst (λ (j : ℕ). Contains (cells_of bit (first + 1) ns) (bit j, n)) (let z : first + 1 + i ≡ first + suc i = omega arith in z) (has_cell (first + 1) ns i n e))

  module _ (rises : (i j : ℕ) → i < j → IsTrue (stands_before (bit i) (bit j))) where
    -- cells of lower numbers stand before these
    pub before_at : (i first : ℕ) (nets : List ℕ) (b c : Cell) → b.0 ≡ bit i → i < first → IsAt bit first nets c → Before b c
    before_at i first nets b c e less is =
        subst (λ (x : Bit). IsTrue (stands_before x c.0)) (sym e) (subst (λ (x : Bit). IsTrue (stands_before (bit i) x)) (sym is.is_bit) (rises i (first + is.place) (omega arith)))

    pub in_order : (first : ℕ) (nets : List ℕ) → InOrder (cells_of bit first nets)
    in_order first [] = tt
    in_order first (n ∷ ns) = (weaker (IsAt bit (first + 1) ns) (Before (bit first, n)) (λ c is. before_at first (first + 1) ns (bit first, n) c refl (omega arith) is) (cells_of bit (first + 1) ns) (each_at (first + 1) ns), in_order (first + 1) ns)

-- what the numbers of outputs are between
pub latch_below : (n first : ℕ) (nets : List ℕ) (c : Cell) → IsAt (λ i. latch_bit i) first nets c → IsBelow n c.0
latch_below n first nets c is = subst (IsBelow n) (sym is.is_bit) tt

pub output_below : (n first : ℕ) (nets : List ℕ) (c : Cell) → first + length nets ≤ n → IsAt (λ i. output_bit i) first nets c → IsBelow n c.0
output_below n first nets c h is = subst (IsBelow n) (sym is.is_bit) (let there = inside nets is.place c.1 is.is_net in omega arith)

pub output_from : (n first : ℕ) (nets : List ℕ) (c : Cell) → n ≤ first → IsAt (λ i. output_bit i) first nets c → IsFrom n c.0
output_from n first nets c h is = subst (IsFrom n) (sym is.is_bit) (omega arith)

-- ---- without leaves

module _ (leaves : ℕ) where
  pub each_gate_at : (first : ℕ) (nets : List ℕ) → AllByRecursion (IsAt output_bit first nets) (gate_output_cells leaves first nets)
  each_gate_at first [] = tt
  each_gate_at first (n ∷ ns) = by_test (nat_lt n leaves) (weaker (IsAt output_bit (first + 1) ns) (IsAt output_bit first (n ∷ ns)) (at_later output_bit first n ns) (gate_output_cells leaves (first + 1) ns) (each_gate_at (first + 1) ns))
    where
      by_test : (b : Bool) → AllByRecursion (IsAt output_bit first (n ∷ ns)) (gate_output_cells leaves (first + 1) ns) → AllByRecursion (IsAt output_bit first (n ∷ ns)) (cond b (gate_output_cells leaves (first + 1) ns) ((output_bit first, n) ∷ gate_output_cells leaves (first + 1) ns))
      by_test true later = later
      by_test false later = (at_first output_bit first n ns, later)

  pub has_gate_cell : (first : ℕ) (nets : List ℕ) (i n : ℕ) → slice_get nets i ≡ Some n → leaves ≤ n → Contains (gate_output_cells leaves first nets) (output_bit (first + i), n)
  has_gate_cell first [] i n e high = cc e
  has_gate_cell first (k ∷ ns) zero n e high = by_test (nat_lt k leaves) refl
    where
      by_test : (b : Bool) → nat_lt k leaves ≡ b → Contains (cond b (gate_output_cells leaves (first + 1) ns) ((output_bit first, k) ∷ gate_output_cells leaves (first + 1) ns)) (output_bit (first + 0), n)
      by_test true t = absurd (let same : k ≡ n = cc e in let less = ltb-true k leaves t in omega arith)
      by_test false t =
          let same : k ≡ n = cc e in
          subst (λ (c : Cell). Contains ((output_bit first, k) ∷ gate_output_cells leaves (first + 1) ns) c) (ap₂ (λ (b : Bit) (m : ℕ). (b, m)) (ap output_bit (let z : first ≡ first + 0 = omega arith in z)) same) (contains_head (output_bit first, k) (gate_output_cells leaves (first + 1) ns))
  has_gate_cell first (k ∷ ns) (suc i) n e high =
      by_test (nat_lt k leaves) (subst (λ (j : ℕ). Contains (gate_output_cells leaves (first + 1) ns) (output_bit j, n)) (let z : first + 1 + i ≡ first + suc i = omega arith in z) (has_gate_cell (first + 1) ns i n e high))
    where
      by_test : (b : Bool) → Contains (gate_output_cells leaves (first + 1) ns) (output_bit (first + suc i), n) → Contains (cond b (gate_output_cells leaves (first + 1) ns) ((output_bit first, k) ∷ gate_output_cells leaves (first + 1) ns)) (output_bit (first + suc i), n)
      by_test true later = later
      by_test false later = contains_tail (output_bit first, k) (output_bit (first + suc i), n) (gate_output_cells leaves (first + 1) ns) later

  pub gates_in_order : (first : ℕ) (nets : List ℕ) → InOrder (gate_output_cells leaves first nets)
  gates_in_order first [] = tt
  gates_in_order first (n ∷ ns) =
      by_test (nat_lt n leaves)
      (weaker (IsAt output_bit (first + 1) ns) (Before (output_bit first, n)) (λ c is. before_at output_bit outputs_rise first (first + 1) ns (output_bit first, n) c refl (omega arith) is) (gate_output_cells leaves (first + 1) ns) (each_gate_at (first + 1) ns))
      (gates_in_order (first + 1) ns)
    where
      by_test : (b : Bool) → AllByRecursion (Before (output_bit first, n)) (gate_output_cells leaves (first + 1) ns) → InOrder (gate_output_cells leaves (first + 1) ns) → InOrder (cond b (gate_output_cells leaves (first + 1) ns) ((output_bit first, n) ∷ gate_output_cells leaves (first + 1) ns))
      by_test true here later = later
      by_test false here later = (here, later)
