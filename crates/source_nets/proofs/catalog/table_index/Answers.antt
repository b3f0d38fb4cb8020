use Rattle.std.proofs.Common.{◌∙◌, ap, ap₂, List}
use Rattle.netlist_spec.specs.Netlist.{Name, stands_in}
use Rattle.sbox_table.specs.declared.table.NamedTable.{NamedTable}
use Rattle.source_nets.proofs.NameLemmas.{absent_before}
use Rattle.source_nets.proofs.catalog.table_index.Goals as goal

pub push-requires : goal.push-requires
push-requires c =
    ap₂ (λ (n : Name) (ns : List Name). stands_in n ns) (c.bytes.ensures.bytes ∙ ap (λ (x : NamedTable). x.name) c.t-item.is) c.loop-t.invariant
    ∙ absent_before (λ (x : NamedTable). x.name) c.args.tables.now c.loop-t.t-index c.t-item.result c.requires c.loop-t-test.true
