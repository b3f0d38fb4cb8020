-- What a gate list with names stands for, with names in place of numbers.
use Rattle.std.specs.Prelude.{map, All}
use Rattle.netlist_spec.specs.Written.{Named, IsNamed}
use Rattle.gate_net.specs.Gate.{net_number}
use Rattle.gate_net.specs.Machine.{latch_row}
use Rattle.blif_read.specs.View.{name_at, clocking_of}
use Rattle.blif_read.specs.Ids.{IsIdOf, control_ids}
use Rattle.named_netlist.specs.Labels.{label_of, ids_in}
use Rattle.named_netlist.specs.declared.named.Named.TheInside.{Inside}

abbrev pub named_of : Inside → Named
named_of g =
    record {
      model = g.model;
      unknown_inits = g.unknown_inits;
      inputs = map (name_at g.names) g.inputs.items;
      clocks = map (name_at g.names) g.clocks.items;
      outputs = map net_number g.outputs.items;
      clocking = clocking_of g.names g.clocking;
      net = g.net;
      labels = map (label_of g.names) g.labels.items;
      latches = map latch_row g.latches.items;
      data_inputs = g.data_inputs;
    }

-- The numbers of names are those of its names, and all that holds of every gate list with names holds.
pub record IsWellNamed (g : Inside) : Type 0 where
  pub inputs : All (IsIdOf g.names) g.inputs.items
  pub clocks : All (IsIdOf g.names) g.clocks.items
  pub control : All (IsIdOf g.names) (control_ids g.clocking)
  pub labels : All (λ l. All (IsIdOf g.names) (ids_in l)) g.labels.items
  pub named : IsNamed (named_of g)
