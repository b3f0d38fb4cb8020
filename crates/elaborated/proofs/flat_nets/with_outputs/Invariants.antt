use Rattle.std.proofs.Common.{map, take}
use Rattle.gate_net.specs.Gate.{net_number}
use Rattle.elaborated.specs.Flat.{AreFlatNets}
use Rattle.elaborated.proofs.flat_nets.with_outputs.Given as goal

abbrev pub invariant-loop-n : goal.invariant-loop-n
invariant-loop-n l = AreFlatNets l.initial.net (map net_number (take l.n-index l.ends)) l.net (map net_number l.outputs.items)
