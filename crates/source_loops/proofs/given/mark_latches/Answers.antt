use Rattle.std.proofs.Common.{◌∙◌, refl, List}
use Rattle.std.proofs.lemmas.List.{take_all}
use Rattle.netlist_spec.specs.Netlist.{Name}
use Rattle.blif_read.specs.declared.file.Located.{Located}
use Rattle.blif_read.specs.View.{statement_of}
use Rattle.line_order.specs.Marks.{latch_output_of}
use Rattle.line_order.proofs.MarkLemmas.{none_marked, part_more, part_marked}
use Rattle.source_loops.proofs.given.mark_latches.Goals as goal

pub loop-s-init : goal.loop-s-init
loop-s-init c = record { size = refl; marked = λ all listed m. none_marked all listed _ m }

pub loop-s-preserved : goal.loop-s-preserved
loop-s-preserved c =
    let part : List Name → Located → List Name = λ all s. latch_output_of (statement_of all s.what) in
    let more = λ (all : List Name). part_more (part all) c.args.statements.now c.loop-s.s-index c.s-item.result c.loop-s-test.true c.s-item.is in
    record {
      size = c.mark_latch.ensures.size ∙ c.loop-s.invariant.size;
      marked = λ all listed m. part_marked all listed _ _ c.mark_latch.new.marks _ (more all) (c.mark_latch.ensures.marked all _ (c.loop-s.invariant.marked all listed m));
    }

pub returns-clause-marked : goal.returns-clause-marked
returns-clause-marked c = λ all listed m.
    rw (← take_all c.loop-s.s-index c.args.statements.now c.loop-s-test.false) (c.loop-s.invariant.marked all listed m)
