-- Sizes that are one number, and the layouts that have one.
use Rattle.std.specs.Prelude.{◌≡◌, ℕ, ◌<◌, ◌⊎◌}
use Rattle.std.specs.List.{AllByRecursion}
use Rattle.guard_spec.specs.Words.{Layout, all_numbers}

-- a property that holds, or doesn't
abbrev pub Decided : Type 0 → Type 0
Decided P = P ⊎ (P → ⊥)

-- The property holds of one number, and of no other.
pub record IsOne (P : ℕ → Type 0) (n : ℕ) : Type 0 where
  pub holds : P n
  pub alone : (k : ℕ) → P k → k ≡ n

abbrev pub HoldsOfOne : (ℕ → Type 0) → Type 0
HoldsOfOne P = (n : ℕ) × IsOne P n

-- Each number of the words is the number of a latch, or of an output.
pub record Fits (latches outputs : ℕ) (l : Layout) : Type 0 where
  pub state : AllByRecursion (λ i. i < latches) (all_numbers l.state)
  pub output : AllByRecursion (λ i. i < outputs) (all_numbers l.output)
