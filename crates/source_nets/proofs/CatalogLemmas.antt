-- What a name means, by its place.
use Rattle.std.proofs.Common.{◌≡◌, refl, sym, ◌∙◌, ap, ℕ, List, map, Bool, true, false, length, Option, Some, None, slice_get}
use Rattle.std.specs.Prelude.{find}
use Rattle.netlist_spec.specs.Netlist.{Name, same_name, stands_in, are_distinct, Model, File}
use Rattle.netlist_spec.specs.Covers.{Library, NamedTable, NamedLinear}
use Rattle.netlist_spec.specs.Placed.{Placed, nothing, placed, model_or, table_or, linear_or_nothing, find_model}
use Rattle.source_nets.specs.declared.catalog.Catalog.{Catalog}
use Rattle.source_nets.specs.declared.types.Meaning.TheVariants.{Nothing, Model as ModelAt, Table as TableAt, Linear as LinearAt}
use Rattle.source_nets.specs.Catalog.{IsCatalog}
use Rattle.source_nets.specs.Survey.{placed_at, IsMeaningIn}
use Rattle.source_nets.proofs.NameLemmas.{find_at, find_none, place_within, at_place}

module _ (file : File) (library : Library) (c : Catalog) (is : IsCatalog file library c) (name : Name) where
  no_model : stands_in name c.models ≡ false → find_model file.models name ≡ None
  no_model h = find_none (λ (m : Model). m.name) name file.models (ap (stands_in name) (sym is.models) ∙ h)

  no_table : stands_in name c.tables ≡ false → find (λ (t : NamedTable). same_name t.name name) library.tables ≡ None
  no_table h = find_none (λ (t : NamedTable). t.name) name library.tables (ap (stands_in name) (sym is.tables) ∙ h)

  no_linear : stands_in name c.linears ≡ false → find (λ (l : NamedLinear). same_name l.name name) library.linears ≡ None
  no_linear h = find_none (λ (l : NamedLinear). l.name) name library.linears (ap (stands_in name) (sym is.linears) ∙ h)

  abbrev layer : Placed
  layer = linear_or_nothing (find (λ (l : NamedLinear). same_name l.name name) library.linears)

  pub means_model : (k : ℕ) → slice_get c.models k ≡ Some name → placed_at file library (ModelAt k) ≡ placed file library name
  means_model k h =
      let f : Model → Name = λ m. m.name in
      let there : slice_get (map f file.models) k ≡ Some name = ap (λ ns. slice_get ns k) (sym is.models) ∙ h in
      let found = find_at f name file.models k (ap are_distinct (sym is.models) ∙ is.distinct_models) there in
      let one = at_place f file.models k name there in
      ap (λ o. model_or o nothing) one.1
      ∙ sym (ap (λ o. model_or o (table_or (find (λ (t : NamedTable). same_name t.name name) library.tables) layer)) (found ∙ one.1))

  pub means_table : (k : ℕ) → stands_in name c.models ≡ false → slice_get c.tables k ≡ Some name → placed_at file library (TableAt k) ≡ placed file library name
  means_table k none h =
      let f : NamedTable → Name = λ t. t.name in
      let there : slice_get (map f library.tables) k ≡ Some name = ap (λ ns. slice_get ns k) (sym is.tables) ∙ h in
      let found = find_at f name library.tables k (ap are_distinct (sym is.tables) ∙ is.distinct_tables) there in
      let one = at_place f library.tables k name there in
      ap (λ o. table_or o nothing) one.1
      ∙ sym (ap (λ o. model_or o (table_or (find (λ (t : NamedTable). same_name t.name name) library.tables) layer)) (no_model none)
      ∙ ap (λ o. table_or o layer) (found ∙ one.1))

  pub means_linear : (k : ℕ) → stands_in name c.models ≡ false → stands_in name c.tables ≡ false → slice_get c.linears k ≡ Some name → placed_at file library (LinearAt k) ≡ placed file library name
  means_linear k none absent h =
      let f : NamedLinear → Name = λ l. l.name in
      let there : slice_get (map f library.linears) k ≡ Some name = ap (λ ns. slice_get ns k) (sym is.linears) ∙ h in
      let found = find_at f name library.linears k (ap are_distinct (sym is.linears) ∙ is.distinct_linears) there in
      sym (ap (λ o. model_or o (table_or (find (λ (t : NamedTable). same_name t.name name) library.tables) layer)) (no_model none)
      ∙ ap (λ o. table_or o layer) (no_table absent)
      ∙ ap linear_or_nothing found)

  pub means_nothing : stands_in name c.models ≡ false → stands_in name c.tables ≡ false → stands_in name c.linears ≡ false → placed_at file library Nothing ≡ placed file library name
  means_nothing none absent without =
      sym (ap (λ o. model_or o (table_or (find (λ (t : NamedTable). same_name t.name name) library.tables) layer)) (no_model none)
      ∙ ap (λ o. table_or o layer) (no_table absent)
      ∙ ap linear_or_nothing (no_linear without))

  pub model_within : (k : ℕ) → slice_get c.models k ≡ Some name → IsMeaningIn file library (ModelAt k)
  model_within k h = place_within (λ (m : Model). m.name) file.models k name (ap (λ ns. slice_get ns k) (sym is.models) ∙ h)

  pub table_within : (k : ℕ) → slice_get c.tables k ≡ Some name → IsMeaningIn file library (TableAt k)
  table_within k h = place_within (λ (t : NamedTable). t.name) library.tables k name (ap (λ ns. slice_get ns k) (sym is.tables) ∙ h)

  pub linear_within : (k : ℕ) → slice_get c.linears k ≡ Some name → IsMeaningIn file library (LinearAt k)
  linear_within k h = place_within (λ (l : NamedLinear). l.name) library.linears k name (ap (λ ns. slice_get ns k) (sym is.linears) ∙ h)
