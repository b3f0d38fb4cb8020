-- The names that a `.subckt` may have, by their places.
use Rattle.std.specs.Prelude.{◌≡◌, map, IsTrue}
use Rattle.netlist_spec.specs.Netlist.{File, are_distinct}
use Rattle.netlist_spec.specs.Covers.{Library}
use Rattle.source_nets.specs.declared.catalog.Catalog.{Catalog}

pub record IsCatalog (file : File) (library : Library) (c : Catalog) : Type 0 where
  pub models : c.models ≡ map (λ m. m.name) file.models
  pub tables : c.tables ≡ map (λ t. t.name) library.tables
  pub linears : c.linears ≡ map (λ l. l.name) library.linears
  pub distinct_models : IsTrue (are_distinct c.models)
  pub distinct_tables : IsTrue (are_distinct c.tables)
  pub distinct_linears : IsTrue (are_distinct c.linears)
