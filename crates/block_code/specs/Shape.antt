-- Check matrices whose rows are given as numbers.
use Rattle.std.specs.Prelude.{◌≡◌, ℕ, ◌^◌, ◌<◌, ◌≤◌, List, length, map, All}
use Rattle.guard_spec.specs.Codes.{Code, bits_of}

-- 1 to 12 rows of 1 to 16 columns, where bit j of a row is column j, so that a row is below 2^r
pub record HasShape (k r : ℕ) (rows : List ℕ) : Type 0 where
  pub places : (1 ≤ k) × (k ≤ 12)
  pub columns : (1 ≤ r) × (r ≤ 16)
  pub count : length rows ≡ k
  pub each : All (λ row. row < 2 ^ r) rows

-- the check matrix of r columns with these rows
abbrev pub code_of : ℕ → List ℕ → Code
code_of r rows = record { columns = r; rows = map (bits_of r) rows }
