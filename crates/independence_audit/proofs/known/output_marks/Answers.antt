use Rattle.std.proofs.Common.{◌∙◌, ap, [], map}
use Rattle.blif_read.specs.declared.file.Port.{Port}
use Rattle.blif_read.specs.View.{name_at}
use Rattle.line_order.proofs.MarkLemmas.{listed_as}
use Rattle.line_order.proofs.TableLemmas.{ports_named}
use Rattle.independence_audit.proofs.known.output_marks.Goals as goal

pub returns : goal.returns
returns c =
    let m = c.args.m.now in
    listed_as m.names c.mark_ports.new.self _ _ (ap (map (λ (p : Port). name_at m.names p.name)) c.deref.ensures.value ∙ ports_named m.names m.outputs.items) (c.mark_ports.ensures.marked m.names [] c.in_ok-outputs.ensures)
