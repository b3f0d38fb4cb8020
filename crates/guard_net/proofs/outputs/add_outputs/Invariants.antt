use Rattle.std.proofs.Common.{map, take}
use Rattle.gate_net.specs.Gate.{net_number}
use Rattle.guard_net.specs.Built.{GainsOutputs}
use Rattle.guard_net.proofs.outputs.add_outputs.Given as goal

abbrev pub invariant-loop-i : goal.invariant-loop-i
invariant-loop-i l = GainsOutputs l.source l.m (map net_number l.leaf) (take l.i l.source.outputs) (take l.i l.m.outputs) (map net_number l.shown.items) l.initial.s.net l.s.net
