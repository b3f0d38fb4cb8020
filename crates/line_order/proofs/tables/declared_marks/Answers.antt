use Rattle.std.proofs.Common.{◌∙◌, ◌++◌, ap, ap₂, List, [], map}
use Rattle.netlist_spec.specs.Netlist.{Name}
use Rattle.netlist_spec.specs.Placed.{port_names}
use Rattle.blif_read.specs.declared.file.Port.{Port}
use Rattle.blif_read.specs.View.{name_at, model_of}
use Rattle.line_order.proofs.MarkLemmas.{listed_as}
use Rattle.line_order.proofs.TableLemmas.{ports_named}
use Rattle.line_order.proofs.tables.declared_marks.Goals as goal

pub returns : goal.returns
returns c =
    let m = c.args.m.now in
    let M = model_of m in
    let all = m.names in
    listed_as all c.mark_ports-2.new.self _ (port_names M.inputs ++ port_names M.clocks)
    (ap₂ (λ (xs ys : List Name). xs ++ ys)
    (ap (map (λ (p : Port). name_at all p.name)) c.deref.ensures.value ∙ ports_named all m.inputs.items)
    (ap (map (λ (p : Port). name_at all p.name)) c.deref-2.ensures.value ∙ ports_named all m.clocks.items))
    (c.mark_ports-2.ensures.marked all _ (c.mark_ports.ensures.marked all [] c.in_ok-declared.ensures))
