use Rattle.std.proofs.Common.{◌++◌, ◌∙◌, refl, subst, filter, map, not}
use Rattle.std.proofs.lemmas.List.{take_all}
use Rattle.netlist_spec.specs.Netlist.{stands_in}
use Rattle.blif_read.specs.declared.file.Port.{Port}
use Rattle.blif_read.specs.View.{name_at}
use Rattle.line_order.specs.Marks.{Marks}
use Rattle.line_order.proofs.MarkLemmas.{data_marked, none_marked}
use Rattle.line_order.proofs.marks.NetMarks.mark_data.Goals as goal

pub loop-port-init : goal.loop-port-init
loop-port-init c = record { size = refl; marked = λ all listed nets k m. none_marked all listed _ m }

pub loop-port-preserved : goal.loop-port-preserved
loop-port-preserved c =
    let none : Port = record { name = record { 0 = 0 }; line = 0 } in
    record {
      size = c.mark_if.ensures.size ∙ c.loop-port.invariant.size;
      marked = λ all listed nets k m.
          data_marked all listed nets c.mark_if.new.self c.args.ports.now c.loop-port.port-index none c.has-is_clock.result c.loop-port-test.true (c.has-is_clock.ensures all nets k)
          (c.mark_if.ensures.marked all _ (c.loop-port.invariant.marked all listed nets k m));
    }

pub returns : goal.returns
returns c = λ all listed nets k m.
    subst (λ ps. Marks all c.loop-port.self (listed ++ filter (λ n. not (stands_in n nets)) (map (λ (port : Port). name_at all port.name) ps))) (take_all c.loop-port.port-index c.args.ports.now c.loop-port-test.false) (c.loop-port.invariant.marked all listed nets k m)
