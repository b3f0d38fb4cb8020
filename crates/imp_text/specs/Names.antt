-- Distinct names in order.
use Rattle.std.specs.Prelude.{ℕ, ◌^◌, ◌≤◌, List, [], ◌∷◌, ◌++◌, map, length, Vec, IsTrue, if◌then◌else◌}
use Rattle.std.specs.List.{AllByRecursion}
use Rattle.std.specs.declared.alloc.Global.{Global}
use Rattle.netlist_spec.specs.Netlist.{Name, IsName, stands_in, are_distinct}

-- the bytes of each name
abbrev pub names_in : List (Vec ℕ Global) → List Name
names_in keys = map (λ (key : Vec ℕ Global). key.items) keys

-- distinct names of 1 to 255 bytes, few enough to be numbered by 31 bits
pub record AreNames (names : List Name) : Type 0 where
  pub each : AllByRecursion IsName names
  pub distinct : IsTrue (are_distinct names)
  pub few : length names ≤ 2 ^ 31

-- the names, with a new one at the end
abbrev pub with_name : List Name → Name → List Name
with_name names name = if stands_in name names then names else names ++ name ∷ []
