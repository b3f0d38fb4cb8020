use Rattle.std.proofs.Common.{◌∙◌, ◌++◌, [], List, ap, ap₂, map}
use Rattle.netlist_spec.specs.Netlist.{Name}
use Rattle.netlist_spec.specs.Placed.{port_names}
use Rattle.blif_read.specs.declared.file.Port.{Port}
use Rattle.blif_read.specs.View.{name_at, model_of}
use Rattle.line_order.proofs.MarkLemmas.{listed_as}
use Rattle.line_order.proofs.TableLemmas.{ports_named}
use Rattle.source_nets.proofs.ports.model_marks.Goals as goal

pub returns : goal.returns
returns c =
    let m = c.args.m.now in
    let all = m.names in
    let M = model_of m in
    let named : List Port → List Name = map (λ (p : Port). name_at all p.name) in
    let inputs = c.mark_ports.ensures.marked all [] c.in_ok-inputs.ensures in
    record {
      inputs = listed_as all c.mark_ports-2.new.self _ (port_names M.inputs ++ port_names M.clocks)
          (ap₂ (λ (xs ys : List Name). xs ++ ys) (ap named c.deref.ensures.value ∙ ports_named all m.inputs.items) (ap named c.deref-2.ensures.value ∙ ports_named all m.clocks.items))
          (c.mark_ports-2.ensures.marked all _ inputs);
      outputs = listed_as all c.mark_ports-3.new.self _ (port_names M.outputs) (ap named c.deref-3.ensures.value ∙ ports_named all m.outputs.items)
          (c.mark_ports-3.ensures.marked all [] c.in_ok-outputs.ensures);
    }
