use Rattle.std.proofs.Common.{sym, subst, map, take, List}
use Rattle.netlist_spec.specs.Netlist.{Name}
use Rattle.imp_text.specs.declared.names.NameId.{NameId}
use Rattle.blif_read.specs.View.{name_at}
use Rattle.fault_sim.specs.Cells.{AreCells}
use Rattle.fault_sim.proofs.CellLemmas.{cells_more, count_so_far}
use Rattle.fault_sim.proofs.cells.note_cells.Goals as goal

pub loop-i-preserved : goal.loop-i-preserved
loop-i-preserved c = λ all a.
    let none : NameId = record { 0 = 0 } in
    let cells = c.args.cells.now in
    let i = c.loop-i.i in
    subst (λ (ns : List Name). AreCells all ns c.note_cell.new.by_net) (sym (cells_more all cells i none c.loop-i-test.true))
    (c.note_cell.ensures all (map (name_at all) (take i cells)) (c.loop-i.invariant all a) (count_so_far all cells i c.loop-i-test.true))
