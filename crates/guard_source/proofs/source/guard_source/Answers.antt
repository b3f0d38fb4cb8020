use Rattle.std.proofs.Common.{◌≡◌, sym, subst, List, map, true}
use Rattle.netlist_spec.specs.Netlist.{are_distinct}
use Rattle.sbox_table.specs.declared.table.NamedTable.{NamedTable as ReadTable}
use Rattle.linear_layer.specs.declared.layer.NamedLinear.{NamedLinear as ReadLinear}
use Rattle.plain_size.proofs.SourceLemmas.{linears_distinct, tables_distinct}
use Rattle.guard_source.proofs.source.guard_source.Goals as goal

pub check-requires-clause-tables : goal.check-requires-clause-tables
check-requires-clause-tables c =
    subst (λ (ts : List ReadTable). are_distinct (map (λ (t : ReadTable). t.name) ts) ≡ true) (sym c.deref.ensures.value)
    (tables_distinct c.s.inside.tables.items c.s.inside.linears.items c.s.invariant.library.distinct)

pub check-requires-clause-linears : goal.check-requires-clause-linears
check-requires-clause-linears c =
    subst (λ (ls : List ReadLinear). are_distinct (map (λ (l : ReadLinear). l.name) ls) ≡ true) (sym c.deref-2.ensures.value)
    (linears_distinct c.s.inside.tables.items c.s.inside.linears.items c.s.invariant.library.distinct)
