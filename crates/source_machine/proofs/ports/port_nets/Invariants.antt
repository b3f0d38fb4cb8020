-- The ports so far have their nets.
use Rattle.std.proofs.Common.{◌≡◌, map, take, get_or}
use Rattle.gate_net.specs.Gate.{net_number}
use Rattle.blif_read.specs.declared.file.Port.{Port}
use Rattle.source_machine.proofs.ports.port_nets.Given as goal

abbrev pub invariant-loop-port : goal.invariant-loop-port
invariant-loop-port l = map net_number l.nets.items ≡ map (λ (port : Port). get_or l.table port.name.0 0) (take l.port-index l.ports)
