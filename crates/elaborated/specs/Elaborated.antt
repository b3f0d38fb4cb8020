-- What an elaborated source stands for, with names in place of numbers.
use Rattle.std.specs.Prelude.{map, All}
use Rattle.netlist_spec.specs.Elaborated.{Elaborated, HasElaboratedForm}
use Rattle.blif_read.specs.View.{name_at, clocking_of}
use Rattle.blif_read.specs.Ids.{IsIdOf, control_ids}
use Rattle.elaborated.specs.declared.elaborated.Elaborated.TheInside.{Inside}

abbrev pub elaborated_of : Inside → Elaborated
elaborated_of e =
    record {
      machine = e.machine;
      model = e.model;
      input_ports = map (name_at e.names) e.input_ports.items;
      clock_ports = map (name_at e.names) e.clock_ports.items;
      data_names = map (name_at e.names) e.data_names.items;
      output_names = map (name_at e.names) e.output_names.items;
      latch_names = map (name_at e.names) e.latch_names.items;
      clocking = clocking_of e.names e.clocking;
      unknown_inits = e.unknown_inits;
    }

-- The numbers of names are those of its names, and all that holds of every elaborated source holds.
pub record IsWellElaborated (e : Inside) : Type 0 where
  pub input_ports : All (IsIdOf e.names) e.input_ports.items
  pub clock_ports : All (IsIdOf e.names) e.clock_ports.items
  pub data_names : All (IsIdOf e.names) e.data_names.items
  pub output_names : All (IsIdOf e.names) e.output_names.items
  pub latch_names : All (IsIdOf e.names) e.latch_names.items
  pub control : All (IsIdOf e.names) (control_ids e.clocking)
  pub form : HasElaboratedForm (elaborated_of e)
