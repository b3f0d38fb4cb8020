use Rattle.std.proofs.Common.{◌≡◌, sym, subst, List, map, true}
use Rattle.netlist_spec.specs.Netlist.{are_distinct}
use Rattle.sbox_table.specs.declared.table.NamedTable.{NamedTable as ReadTable}
use Rattle.linear_layer.specs.declared.layer.NamedLinear.{NamedLinear as ReadLinear}
use Rattle.plain_size.proofs.SourceLemmas.{linears_distinct, tables_distinct}
use Rattle.plain_size.proofs.source.plain_size.Goals as goal

pub survey-requires-clause-tables : goal.survey-requires-clause-tables
survey-requires-clause-tables c =
    subst (λ (ts : List ReadTable). are_distinct (map (λ (t : ReadTable). t.name) ts) ≡ true) (sym c.deref-2.ensures.value)
    (tables_distinct c.s.inside.tables.items c.s.inside.linears.items c.s.invariant.library.distinct)

pub survey-requires-clause-linears : goal.survey-requires-clause-linears
survey-requires-clause-linears c =
    subst (λ (ls : List ReadLinear). are_distinct (map (λ (l : ReadLinear). l.name) ls) ≡ true) (sym c.deref-3.ensures.value)
    (linears_distinct c.s.inside.tables.items c.s.inside.linears.items c.s.invariant.library.distinct)
