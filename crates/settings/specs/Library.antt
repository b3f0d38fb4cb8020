-- The library that a document has, part by part.
use Rattle.std.specs.Prelude.{ℕ, List, Option, Result, Ok, codes, map, option_map}
use Rattle.netlist_spec.specs.Digits.{each_gives}
use Rattle.netlist_spec.specs.Netlist.{Name, IsName}
use Rattle.netlist_spec.specs.Covers.{Library, Linear, NamedTable, NamedLinear, IsTable, IsLinear, number_of}
use Rattle.guard_spec.specs.SettingsFile.{SettingsFault, as_text, then_gives, bit_rows, linear_of, as_members, optional, all_of, entries_of, sbox_entry, linear_entry, ◌>>=◌}
use Rattle.toml.specs.Data.{Data, Members}
use Rattle.settings.specs.Matrix.{row_at}

-- the tables of `sbox`
abbrev pub tables_of : Members → Result (List NamedTable) SettingsFault
tables_of doc = do
  sboxes ← optional (codes "sbox") (codes "sbox") as_members doc
  all_of sbox_entry (entries_of sboxes)

-- the layers of `linear`, none of them under a name that is taken
abbrev pub linears_of : List Name → Members → Result (List NamedLinear) SettingsFault
linears_of taken doc = do
  layers ← optional (codes "linear") (codes "linear") as_members doc
  all_of (linear_entry taken) (entries_of layers)

-- both
abbrev pub library_of : Members → Result Library SettingsFault
library_of doc = do
  tables ← tables_of doc
  linears ← linears_of (map (λ t. t.name) tables) doc
  Ok (record { tables = tables; linears = linears })

-- the layer of an array of these elements
abbrev pub layer_from : List Data → Option Linear
layer_from ds = option_map linear_of (then_gives (each_gives as_text ds) (bit_rows 128 128))

-- the number whose bits a text of so many characters spells
abbrev pub number_at : ℕ → Data → Option ℕ
number_at width d = option_map number_of (row_at width d)

-- what holds of all tables and of all layers that are read
abbrev pub IsNamedTable : NamedTable → Type 0
IsNamedTable t = IsName t.name × IsTable t.table

abbrev pub IsNamedLinear : NamedLinear → Type 0
IsNamedLinear l = IsName l.name × IsLinear l.layer
