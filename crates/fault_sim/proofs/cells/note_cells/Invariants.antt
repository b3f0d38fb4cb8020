-- The cells so far have their numbers.
use Rattle.std.proofs.Common.{List, [], map, take}
use Rattle.netlist_spec.specs.Netlist.{Name}
use Rattle.blif_read.specs.View.{name_at}
use Rattle.fault_sim.specs.Cells.{AreCells}
use Rattle.fault_sim.proofs.cells.note_cells.Given as goal

abbrev pub invariant-loop-i : goal.invariant-loop-i
invariant-loop-i l = (all : List Name) → AreCells all [] l.initial.by_net → AreCells all (map (name_at all) (take l.i l.cells)) l.by_net
