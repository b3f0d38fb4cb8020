use Rattle.std.proofs.Common.{◌≡◌, sym, subst, List, map, true}
use Rattle.netlist_spec.specs.Netlist.{are_distinct}
use Rattle.sbox_table.specs.declared.table.NamedTable.{NamedTable}
use Rattle.linear_layer.specs.declared.layer.NamedLinear.{NamedLinear}
use Rattle.plain_size.proofs.SourceLemmas.{linears_distinct, tables_distinct}
use Rattle.plain_size_tests.proofs.inits.initial_words.Goals as goal

pub elaborate-requires-clause-tables : goal.elaborate-requires-clause-tables
elaborate-requires-clause-tables c =
    subst (λ (ts : List NamedTable). are_distinct (map (λ (t : NamedTable). t.name) ts) ≡ true) (sym c.deref.ensures.value)
    (tables_distinct c.s.inside.tables.items c.s.inside.linears.items c.s.invariant.library.distinct)

pub elaborate-requires-clause-linears : goal.elaborate-requires-clause-linears
elaborate-requires-clause-linears c =
    subst (λ (ls : List NamedLinear). are_distinct (map (λ (l : NamedLinear). l.name) ls) ≡ true) (sym c.deref-2.ensures.value)
    (linears_distinct c.s.inside.tables.items c.s.inside.linears.items c.s.invariant.library.distinct)
