-- Outputs of tables, from the bits of their places.
use Rattle.std.specs.Prelude.{ℕ, Bool, false, ◌&&◌, List, length, slice_index, slice_index_or}
use Rattle.std.specs.List.{list_any, range_with_len}
use Rattle.netlist_spec.specs.Covers.{has_bit}

-- whether output j is 1 at some place whose bit is 1
abbrev pub output_bit : List ℕ → List Bool → ℕ → Bool
output_bit rows places j = list_any (λ k. has_bit (slice_index rows k) j && slice_index_or places k false) (range_with_len 0 (length rows))
