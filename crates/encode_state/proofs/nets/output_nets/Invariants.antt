-- The nets of the outputs so far.
use Rattle.std.proofs.Common.{◌≡◌, All, map, take}
use Rattle.blif_read.specs.Ids.{IsIdOf}
use Rattle.blif_read.specs.View.{port_of, name_at}
use Rattle.netlist_spec.specs.Placed.{port_names}
use Rattle.encode_state.proofs.nets.output_nets.Given as goal

abbrev pub invariant-loop-port : goal.invariant-loop-port
invariant-loop-port l = record {
  names : map (name_at l.m.names) l.ids.items ≡ port_names (map (port_of l.m.names) (take l.port-index l.m.outputs.items));
  within : All (IsIdOf l.m.names) l.ids.items;
}
