-- The places of nets by the numbers of their names.
use Rattle.std.specs.Prelude.{◌≡◌, ℕ, ◌<◌, false, List, [], length, Option, None, Some, slice_get, slice_index_or, IsTrue}
use Rattle.std.specs.List.{AllByRecursion}
use Rattle.netlist_spec.specs.Netlist.{Name, stands_in}

-- a place of the name in the list, and none where it isn't there
abbrev pub IsPlaceOf : List Name → Name → Option ℕ → Type 0
IsPlaceOf nets name None = stands_in name nets ≡ false
IsPlaceOf nets name (Some i) = slice_get nets i ≡ Some name

-- the places of all names in a list of nets, which have names among them
pub record ArePlaces (all nets : List Name) (places : List (Option ℕ)) : Type 0 where
  pub known : AllByRecursion (λ n. IsTrue (stands_in n all)) nets
  pub each_name : length places ≡ length all
  pub each_place : (k : ℕ) → k < length all → IsPlaceOf nets (slice_index_or all k []) (slice_index_or places k None)
