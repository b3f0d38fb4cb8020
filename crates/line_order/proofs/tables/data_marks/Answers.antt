use Rattle.std.proofs.Common.{◌∙◌, ap, [], filter, map, not}
use Rattle.netlist_spec.specs.Netlist.{Name, stands_in}
use Rattle.netlist_spec.specs.Models.{clock_nets, data_inputs}
use Rattle.blif_read.specs.declared.file.Port.{Port}
use Rattle.blif_read.specs.View.{name_at, model_of}
use Rattle.line_order.proofs.MarkLemmas.{listed_as}
use Rattle.line_order.proofs.TableLemmas.{ports_named}
use Rattle.line_order.proofs.tables.data_marks.Goals as goal

pub returns : goal.returns
returns c =
    let m = c.args.m.now in
    let all = m.names in
    let nets = clock_nets (model_of m) in
    listed_as all c.mark_data.new.self _ (data_inputs (model_of m))
    (ap (filter (λ (n : Name). not (stands_in n nets))) (ap (map (λ (p : Port). name_at all p.name)) c.deref.ensures.value ∙ ports_named all m.inputs.items))
    (c.mark_data.ensures all [] nets c.in_ok-clocks.ensures c.in_ok-marks.ensures)
