use Rattle.std.proofs.Common.{◌∙◌, refl}
use Rattle.std.proofs.lemmas.List.{take_all}
use Rattle.imp_text.specs.declared.names.NameId.{NameId}
use Rattle.line_order.proofs.MarkLemmas.{none_marked}
use Rattle.source_tests.proofs.NetLemmas.{net_marked}
use Rattle.source_tests.proofs.marks.mark_nets.Goals as goal

pub loop-net-init : goal.loop-net-init
loop-net-init c = record { size = refl; marked = λ all listed m. none_marked all listed _ m }

pub loop-net-preserved : goal.loop-net-preserved
loop-net-preserved c =
    let none : NameId = record { 0 = 0 } in
    record {
      size = c.mark.ensures.size ∙ c.loop-net.invariant.size;
      marked = λ all listed m. net_marked all listed c.mark.new.self c.args.nets.now c.loop-net.net-index none c.loop-net-test.true (c.mark.ensures.marked all _ (c.loop-net.invariant.marked all listed m));
    }

pub returns-clause-marked : goal.returns-clause-marked
returns-clause-marked c = λ all listed m.
    rw (← take_all c.loop-net.net-index c.args.nets.now c.loop-net-test.false) (c.loop-net.invariant.marked all listed m)
