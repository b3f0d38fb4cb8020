-- Numbers by how many ones they have.
use Rattle.std.specs.Prelude.{◌≡◌, ℕ, ◌^◌, ◌<◌, List, count_ones, Contains, AllPairs}
use Rattle.std.specs.List.{AllByRecursion}

-- every number of at most so many places with so many ones, once, in rising order
pub record IsLevel (places ones : ℕ) (xs : List ℕ) : Type 0 where
  pub each : AllByRecursion (λ x. (x < 2 ^ places) × (count_ones x ≡ ones)) xs
  pub rising : AllPairs (λ x y. x < y) xs
  pub all : (x : ℕ) → x < 2 ^ places → count_ones x ≡ ones → Contains xs x
