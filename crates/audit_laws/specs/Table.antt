-- What a pass keeps, as a table by net number: entry i is of the i-th name of the model.
use Rattle.std.specs.Prelude.{◌≡◌, ℕ, false, List, [], ◌∷◌, ◌++◌, length, map, Some, slice_get, slice_set, if◌then◌else◌, IsTrue}
use Rattle.netlist_spec.specs.Netlist.{Name, same_name, stands_in, are_distinct, Model}
use Rattle.netlist_spec.specs.Models.{Gate, output_nets}
use Rattle.netlist_spec.specs.CellBits.{Bit}
use Rattle.audit_laws.specs.FirstBits.{FirstBits, with_bit, merged, named_bits}
use Rattle.audit_laws.specs.Along.{bits_along, bits_partly}

-- Where what is kept changes for one name alone, one entry of the table is set.
abbrev pub OneEntryIsSet : (names : List Name) (i : ℕ) (k : Name) (kept after : Name → FirstBits) → FirstBits → Type 0
OneEntryIsSet names i k kept after entry =
    IsTrue (are_distinct names) → slice_get names i ≡ Some k → after k ≡ entry → ((n : Name) → same_name k n ≡ false → after n ≡ kept n)
    → map after names ≡ slice_set (map kept names) i entry

-- The table before the first read of a `.names`, with one more read of the i-th name, and behind the last.
pub record ReadsSetEntries (m : Model) (later : List Gate) (g : Gate) : Type 0 where
  pub none : map (bits_partly m later g []) m.names ≡ map (bits_along m later) m.names
  pub one_more : (done : List Name) (i : ℕ) (k : Name) → slice_get m.names i ≡ Some k
      → map (bits_partly m later g (done ++ k ∷ [])) m.names
      ≡ (if stands_in k (output_nets m) then map (bits_partly m later g done) m.names
      else slice_set (map (bits_partly m later g done) m.names) i (merged (bits_partly m later g done k) (bits_along m later g.out)))
  pub all : map (bits_partly m later g g.ins) m.names ≡ map (bits_along m (g ∷ later)) m.names

abbrev pub PassesSetEntries : Model → List Gate → Gate → Type 0
PassesSetEntries m later g = IsTrue (are_distinct m.names) → ReadsSetEntries m later g

-- The table while the latches or the outputs are gone through: one more of them sets one entry.
abbrev pub NamedBitsSetEntries : (names : List Name) (kind : ℕ → Bit) (ks : List Name) (kept : Name → FirstBits) (j : ℕ) (k : Name) → Type 0
NamedBitsSetEntries names kind ks kept j k =
    IsTrue (are_distinct names) → slice_get names j ≡ Some k
    → map (λ n. named_bits kind 0 (ks ++ k ∷ []) n (kept n)) names
    ≡ slice_set (map (λ n. named_bits kind 0 ks n (kept n)) names) j (with_bit (kind (length ks)) (named_bits kind 0 ks k (kept k)))
