use Rattle.std.proofs.Common.{map, take}
use Rattle.gate_net.specs.Gate.{net_number}
use Rattle.correction_laws.specs.FromJoined.{IsOver}
use Rattle.correction_net.proofs.StandIn.{AreOver}
use Rattle.correction_net.proofs.stand_in.rows_over.Given as goal

abbrev pub invariant-loop-row : goal.invariant-loop-row
invariant-loop-row l = AreOver (IsOver l.m (map net_number l.j.nets.items) l.j.first) (take l.row-index l.m.latches) l.rows.items
