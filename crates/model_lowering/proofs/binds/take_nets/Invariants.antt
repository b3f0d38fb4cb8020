-- What the nets come to, from the words that are left.
use Rattle.std.proofs.Common.{◌≡◌, drop, map, Some, slice_get}
use Rattle.netlist_spec.specs.Netlist.{Model}
use Rattle.netlist_spec.specs.Placed.{a_model, output_ports}
use Rattle.blif_read.specs.View.{bind_of}
use Rattle.source_nets.specs.Ports.{source_file}
use Rattle.model_lowering.specs.Binds.{answered_outside}
use Rattle.model_lowering.proofs.binds.take_nets.Given as goal

abbrev pub invariant-loop-bind : goal.invariant-loop-bind
invariant-loop-bind l =
    (c : Model) → slice_get (source_file l.source).models l.place ≡ Some c
    → answered_outside l.outer c.names (output_ports (a_model c)) l.inside (map (bind_of l.outer) (drop l.bind-index l.binds)) l.table
    ≡ answered_outside l.outer c.names (output_ports (a_model c)) l.inside (map (bind_of l.outer) l.binds) l.initial.table
