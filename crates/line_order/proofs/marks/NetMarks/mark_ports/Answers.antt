use Rattle.std.proofs.Common.{◌++◌, ◌∙◌, refl, subst, map}
use Rattle.std.proofs.lemmas.List.{take_all}
use Rattle.blif_read.specs.declared.file.Port.{Port}
use Rattle.blif_read.specs.View.{name_at}
use Rattle.line_order.specs.Marks.{Marks}
use Rattle.line_order.proofs.MarkLemmas.{port_marked, none_marked}
use Rattle.line_order.proofs.marks.NetMarks.mark_ports.Goals as goal

pub loop-port-init : goal.loop-port-init
loop-port-init c = record { size = refl; marked = λ all listed m. none_marked all listed _ m }

pub loop-port-preserved : goal.loop-port-preserved
loop-port-preserved c =
    let none : Port = record { name = record { 0 = 0 }; line = 0 } in
    record {
      size = c.mark.ensures.size ∙ c.loop-port.invariant.size;
      marked = λ all listed m. port_marked all listed c.mark.new.self c.args.ports.now c.loop-port.port-index none c.loop-port-test.true (c.mark.ensures.marked all _ (c.loop-port.invariant.marked all listed m));
    }

pub returns-clause-marked : goal.returns-clause-marked
returns-clause-marked c = λ all listed m.
    subst (λ ps. Marks all c.loop-port.self (listed ++ map (λ (port : Port). name_at all port.name) ps)) (take_all c.loop-port.port-index c.args.ports.now c.loop-port-test.false) (c.loop-port.invariant.marked all listed m)
