use Rattle.std.proofs.Common.{◌∙◌, ap, ap₂, List}
use Rattle.netlist_spec.specs.Netlist.{Name, stands_in}
use Rattle.blif_read.specs.declared.file.Model.{Model}
use Rattle.source_nets.proofs.NameLemmas.{absent_before}
use Rattle.source_nets.proofs.catalog.model_index.Goals as goal

pub push-requires : goal.push-requires
push-requires c =
    ap₂ (λ (n : Name) (ns : List Name). stands_in n ns) (c.bytes.ensures.bytes ∙ ap (λ (x : Model). x.name) c.m-item.is) c.loop-m.invariant
    ∙ absent_before (λ (x : Model). x.name) c.args.models.now c.loop-m.m-index c.m-item.result c.requires c.loop-m-test.true
