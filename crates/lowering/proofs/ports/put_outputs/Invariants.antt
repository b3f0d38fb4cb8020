-- The nets of the outputs that are bound so far are noted.
use Rattle.std.proofs.Common.{◌≡◌, length, map, take}
use Rattle.netlist_spec.specs.Placed.{numbered_ports}
use Rattle.gate_net.specs.Gate.{net_number}
use Rattle.lowering.specs.Ports.{outputs_put}
use Rattle.lowering.proofs.ports.put_outputs.Given as goal

abbrev pub invariant-loop-bind : goal.invariant-loop-bind
invariant-loop-bind l =
    (l.table ≡ outputs_put (numbered_ports 111 (length l.outs)) (map net_number l.outs) l.initial.table (take l.bind-index l.binds))
    × (length l.table ≡ length l.initial.table)
