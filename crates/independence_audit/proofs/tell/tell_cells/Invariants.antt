-- Each cell so far serves its one bit.
use Rattle.std.proofs.Common.{List, map, take}
use Rattle.netlist_spec.specs.Models.{gates_of}
use Rattle.gate_net.specs.Bit.{bit_of}
use Rattle.blif_read.specs.View.{model_of}
use Rattle.audit_laws.specs.Along.{AreInOrder}
use Rattle.independence_audit.specs.Known.{IsKnown}
use Rattle.independence_audit.proofs.TellLemmas.{AreFine, cells_in}
use Rattle.independence_audit.proofs.tell.tell_cells.Given as goal

abbrev pub invariant-loop-i : goal.invariant-loop-i
invariant-loop-i l = IsKnown (model_of l.m) l.known → AreInOrder (gates_of (model_of l.m)) → AreFine (model_of l.m) (cells_in l.m.names (take l.i l.m.statements.items)) (map bit_of l.bits.items)
