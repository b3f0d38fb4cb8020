-- The nets of the ports that are bound so far.
use Rattle.std.proofs.Common.{◌≡◌, map, take}
use Rattle.gate_net.specs.Gate.{net_number}
use Rattle.lowering.specs.Ports.{input_nets}
use Rattle.lowering.proofs.ports.input_nets.Given as goal

abbrev pub invariant-loop-bind : goal.invariant-loop-bind
invariant-loop-bind l = map net_number l.nets.items ≡ input_nets l.table (take l.bind-index l.binds) l.count
