-- What is kept of some bits: none, exactly one, or the first two of them.
use Rattle.std.specs.Prelude.{◌≡◌, ℕ, ◌+◌, ◌⊎◌, ◌&&◌, List, [], ◌∷◌, ◌++◌, length, if◌then◌else◌, IsTrue, ⊤}
use Rattle.netlist_spec.specs.Netlist.{Name, same_name, Model}
use Rattle.netlist_spec.specs.Models.{latch_outputs, latch_inputs, output_nets}
use Rattle.netlist_spec.specs.CellBits.{Bit, latch_bit, output_bit, stands_before, IsStored, IsOutput}

pub data FirstBits : Type 0 where
  no_bit : FirstBits
  one_bit : (bit : Bit) → FirstBits
  two_bits : (one other : Bit) → FirstBits

-- There is no such bit; or this one and no other; or these two, in order, and all others behind them.
abbrev pub AreFirstBits : (Bit → Type 0) → FirstBits → Type 0
AreFirstBits P no_bit = (b : Bit) → P b → ⊥
AreFirstBits P (one_bit bit) = P bit × ((b : Bit) → P b → b ≡ bit)
AreFirstBits P (two_bits one other) =
    P one × P other × IsTrue (stands_before one other) × ((b : Bit) → P b → (b ≡ one) ⊎ ((b ≡ other) ⊎ IsTrue (stands_before other b)))

-- Two bits that are kept stand in order.
abbrev pub AreInBitOrder : FirstBits → Type 0
AreInBitOrder (two_bits one other) = IsTrue (stands_before one other)
AreInBitOrder _ = ⊤

-- with one more bit, which may be there already
abbrev pub with_bit : Bit → FirstBits → FirstBits
with_bit b no_bit = one_bit b
with_bit b (one_bit a) = if stands_before b a then two_bits b a else if stands_before a b then two_bits a b else one_bit a
with_bit b (two_bits a c) = if stands_before b a then two_bits b a else if stands_before a b && stands_before b c then two_bits a b else two_bits a c

-- with the first bits of others
abbrev pub merged : FirstBits → FirstBits → FirstBits
merged kept no_bit = kept
merged kept (one_bit b) = with_bit b kept
merged kept (two_bits b c) = with_bit c (with_bit b kept)

-- the bits of the names of a list, counted from i, that are the given name
abbrev pub named_bits : (ℕ → Bit) → ℕ → List Name → Name → FirstBits → FirstBits
named_bits kind i [] n kept = kept
named_bits kind i (k ∷ ks) n kept = named_bits kind (i + 1) ks n (if same_name k n then with_bit (kind i) kept else kept)

-- A net's own bits are the latches whose D it is, and the outputs that it is.
abbrev pub IsOwnBit : Model → Name → Bit → Type 0
IsOwnBit m n (latch_bit i) = IsStored m i n
IsOwnBit m n (output_bit i) = IsOutput m i n

abbrev pub own_bits : Model → Name → FirstBits
own_bits m n = named_bits output_bit 0 (output_nets m) n (named_bits latch_bit 0 (latch_inputs m) n no_bit)

abbrev pub latch_bits : Model → Name → FirstBits
latch_bits m q = named_bits output_bit 0 (output_nets m) q (named_bits latch_bit 0 (latch_outputs m) q no_bit)

-- One more name of the list changes what is kept for that name alone.
abbrev pub NamedBitsGrow : (ℕ → Bit) → ℕ → List Name → (k n : Name) → FirstBits → Type 0
NamedBitsGrow kind i ks k n kept =
    named_bits kind i (ks ++ k ∷ []) n kept ≡ (if same_name k n then with_bit (kind (i + length ks)) (named_bits kind i ks n kept) else named_bits kind i ks n kept)
