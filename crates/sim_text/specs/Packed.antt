-- Bits, eight to a byte.
use Rattle.std.specs.Prelude.{◌≡◌, ℕ, ◌+◌, ◌/◌, ◌%◌, ◌^◌, ◌<◌, Bool, List, length, map, get_or}
use Rattle.std.specs.List.{range_with_len}
use Rattle.netlist_spec.specs.Covers.{has_bit}

-- bit i stands at place i mod 8 of byte i / 8
abbrev pub packed_bit : List ℕ → ℕ → Bool
packed_bit bytes i = has_bit (get_or bytes (i / 8) 0) (i % 8)

-- the first bits
abbrev pub unpacked : ℕ → List ℕ → List Bool
unpacked len bytes = map (packed_bit bytes) (range_with_len 0 len)

-- There are as many bytes as so many bits take, and the places behind the last bit are 0.
pub record IsPacked (len : ℕ) (bytes : List ℕ) : Type 0 where
  pub whole : length bytes ≡ (len + 7) / 8
  pub rest : get_or bytes (len / 8) 0 < 2 ^ (len % 8)
