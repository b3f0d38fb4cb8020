use Rattle.std.proofs.Common.{◌∙◌, ap, ap₂, List}
use Rattle.netlist_spec.specs.Netlist.{Name, stands_in}
use Rattle.linear_layer.specs.declared.layer.NamedLinear.{NamedLinear}
use Rattle.source_nets.proofs.NameLemmas.{absent_before}
use Rattle.source_nets.proofs.catalog.linear_index.Goals as goal

pub push-requires : goal.push-requires
push-requires c =
    ap₂ (λ (n : Name) (ns : List Name). stands_in n ns) (c.bytes.ensures.bytes ∙ ap (λ (x : NamedLinear). x.name) c.l-item.is) c.loop-l.invariant
    ∙ absent_before (λ (x : NamedLinear). x.name) c.args.linears.now c.loop-l.l-index c.l-item.result c.requires c.loop-l-test.true
