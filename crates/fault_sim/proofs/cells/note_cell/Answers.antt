use Rattle.fault_sim.proofs.CellLemmas.{cell_noted}
use Rattle.fault_sim.proofs.cells.note_cell.Goals as goal

pub returns : goal.returns
returns c = λ all cells a e. cell_noted all cells c.args.by_net.now c.args.id c.args.cell c.requires a e
