-- The nets of names, from a table by the names' numbers.
use Rattle.std.specs.Prelude.{ℕ, zero, suc, List, [], ◌∷◌, if◌then◌else◌, slice_index_or}
use Rattle.netlist_spec.specs.Netlist.{Name, same_name}
use Rattle.source_laws.specs.Nets.{Nets}

-- the place of a name in a list, and the list's length where it isn't there
abbrev pub place_of : List Name → Name → ℕ
place_of [] n = zero
place_of (k ∷ ks) n = if same_name k n then zero else suc (place_of ks n)

-- A table has for each name, by its number, the number of its net.
abbrev pub net_in : List Name → List ℕ → Nets
net_in names table n = slice_index_or table (place_of names n) 0
