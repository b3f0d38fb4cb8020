use Rattle.std.proofs.Common.{◌∙◌, refl, sym, map, List, arith, ◌<◌, ◌≤◌, length}
use Rattle.std.proofs.lemmas.List.{take_all}
use Rattle.std.proofs.lemmas.Option.{get_or_from_slice_get}
use Rattle.netlist_spec.specs.Netlist.{Name}
use Rattle.blif_read.specs.View.{name_at}
use Rattle.line_order.proofs.MarkLemmas.{none_marked, part_more, part_marked}
use Rattle.source_tests.proofs.marks.mark_rows.Goals as goal

pub loop-i-init : goal.loop-i-init
loop-i-init c = record { size = refl; marked = λ all listed m. none_marked all listed _ m }

pub loop-i-preserved : goal.loop-i-preserved
loop-i-preserved c =
    let rows = c.args.rows.now in
    let i = c.loop-i.i in
    let row = c.row.result.now in
    let inside : i < length rows = omega arith in
    let more = λ (all : List Name). part_more (map (name_at all)) rows i row inside (sym (get_or_from_slice_get rows i row row c.row.ensures)) in
    record {
      size = c.mark_nets.ensures.size ∙ c.loop-i.invariant.size;
      marked = λ all listed m. part_marked all listed _ _ c.mark_nets.new.marks _ (more all) (c.mark_nets.ensures.marked all _ (c.loop-i.invariant.marked all listed m));
    }

pub returns-clause-marked : goal.returns-clause-marked
returns-clause-marked c = λ all listed m.
    let past : length c.args.rows.now ≤ c.loop-i.i = omega arith in
    rw (← take_all c.loop-i.i c.args.rows.now past) (c.loop-i.invariant.marked all listed m)
