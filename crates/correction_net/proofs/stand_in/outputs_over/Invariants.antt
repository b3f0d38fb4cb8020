use Rattle.std.proofs.Common.{map, take}
use Rattle.std.specs.List.{AllZip}
use Rattle.gate_net.specs.Gate.{net_number}
use Rattle.correction_laws.specs.FromJoined.{IsOver}
use Rattle.correction_net.proofs.stand_in.outputs_over.Given as goal

abbrev pub invariant-loop-o : goal.invariant-loop-o
invariant-loop-o l = AllZip (IsOver l.m (map net_number l.j.nets.items) l.j.first) (take l.o-index l.m.outputs) (map net_number l.nets.items)
