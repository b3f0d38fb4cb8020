use Rattle.std.proofs.Common.{◌∙◌, ◌++◌, ap, ap₂, List, [], map}
use Rattle.std.specs.List.{flat_map}
use Rattle.netlist_spec.specs.Netlist.{Name}
use Rattle.netlist_spec.specs.Models.{clock_nets}
use Rattle.blif_read.specs.declared.file.Port.{Port}
use Rattle.blif_read.specs.declared.file.Located.{Located}
use Rattle.blif_read.specs.View.{name_at, statement_of, model_of}
use Rattle.line_order.specs.Marks.{controls_of}
use Rattle.line_order.proofs.MarkLemmas.{listed_as}
use Rattle.line_order.proofs.TableLemmas.{ports_named, controls_named}
use Rattle.line_order.proofs.tables.clock_marks.Goals as goal

pub returns : goal.returns
returns c =
    let m = c.args.m.now in
    let all = m.names in
    let ports = c.mark_ports.ensures.marked all [] c.in_ok-clocks.ensures in
    listed_as all c.mark_controls.new.self _ (clock_nets (model_of m))
    (ap₂ (λ (xs ys : List Name). xs ++ ys)
    (ap (map (λ (p : Port). name_at all p.name)) c.deref.ensures.value ∙ ports_named all m.clocks.items)
    (ap (flat_map (λ (s : Located). controls_of (statement_of all s.what))) c.deref-2.ensures.value ∙ controls_named all m.statements.items))
    (c.mark_controls.ensures.marked all _ ports)
