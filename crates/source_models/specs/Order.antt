-- An order of the used models in which a model stands behind those that it places.
use Rattle.std.specs.Prelude.{◌≡◌, ◌==◌, ℕ, ◌<◌, ◌≤◌, List, length, take, count_by, All, Some, slice_get, Contains}
use Rattle.netlist_spec.specs.Netlist.{Model, File}
use Rattle.netlist_spec.specs.Sound.{Places, IsUsed}

-- The order has the places of the used models, each once.
pub record IsPlacedFirst (file : File) (order : List ℕ) : Type 0 where
  pub within : All (λ i. i < length file.models) order
  pub once : (i : ℕ) → count_by (λ k. k == i) order ≤ 1
  pub used : (i : ℕ) (m : Model) → Contains order i → slice_get file.models i ≡ Some m → IsUsed file m
  pub each : (i : ℕ) (m : Model) → slice_get file.models i ≡ Some m → IsUsed file m → Contains order i
  -- what the model at a place of the order places stands at an earlier one
  pub earlier : (k i j : ℕ) (m c : Model) → slice_get order k ≡ Some i → slice_get file.models i ≡ Some m → slice_get file.models j ≡ Some c
      → Places file m c → Contains (take k order) j
