-- The keys of a table that it may not have.
use Rattle.std.specs.Prelude.{List, [], ◌∷◌, ℕ, Option, codes, find, not, option_map}
use Rattle.netlist_spec.specs.Netlist.{stands_in}
use Rattle.guard_spec.specs.SettingsFile.{known_keys, member_list}
use Rattle.toml.specs.Data.{Data, Members}
use Rattle.settings.specs.declared.keys.Keys.{Keys}
use Rattle.settings.specs.declared.keys.Keys.TheVariants.{Document, Sbox, Linear}

-- the keys that the table may have
abbrev pub keys_in : Keys → List (List ℕ)
keys_in Document = known_keys
keys_in Sbox = codes "inputs" ∷ codes "outputs" ∷ codes "values" ∷ []
keys_in Linear = codes "rows" ∷ []

-- the first key in byte order that isn't one of these
abbrev pub other_key_of : List (List ℕ) → Members → Option (List ℕ)
other_key_of keys table = option_map (λ m. m.0) (find (λ (m : List ℕ × Data). not (stands_in m.0 keys)) (member_list table))
