-- Rows of bits, one after the other in one list.
use Rattle.std.specs.Prelude.{◌≡◌, ℕ, zero, suc, Bool, true, false, [], ◌∷◌, ◌++◌, take, drop, Option, None, IsSomeAnd}
use Rattle.netlist_spec.specs.SourceRun.{Bits, Stream}

-- A stimulus: how many data inputs it has, and their bits in each cycle.
pub record Rows : Type 0 where
  pub inputs : ℕ
  pub cycles : Stream

-- the rows of this width that the bits are cut into
abbrev pub rows : ℕ → ℕ → Bits → Stream
rows width zero bits = []
rows width (suc count) bits = take width bits ∷ rows width count (drop width bits)

-- Where there is a row its bits are appended, and else there is none.
abbrev pub IsPushed : Bool → Option Bits → Bits → Bits → Type 0
IsPushed true row old new = IsSomeAnd row (λ bits. new ≡ old ++ bits)
IsPushed false row old new = row ≡ None
