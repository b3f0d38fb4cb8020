-- The data inputs among the ports so far.
use Rattle.std.proofs.Common.{◌≡◌, ◌≤◌, filter, length, map, not, take}
use Rattle.std.specs.List.{AllByRecursion}
use Rattle.netlist_spec.specs.Netlist.{stands_in}
use Rattle.netlist_spec.specs.Models.{clock_nets}
use Rattle.blif_read.specs.declared.file.Port.{Port}
use Rattle.blif_read.specs.Ids.{IsIdOf}
use Rattle.blif_read.specs.View.{name_at, model_of}
use Rattle.line_order.proofs.data.data_inputs.Given as goal

abbrev pub invariant-loop-port : goal.invariant-loop-port
invariant-loop-port l =
    record {
      names : map (name_at l.m.names) l.ids.items ≡ filter (λ n. not (stands_in n (clock_nets (model_of l.m)))) (map (λ (p : Port). name_at l.m.names p.name) (take l.port-index l.port-items));
      within : AllByRecursion (IsIdOf l.m.names) l.ids.items;
      few : length l.ids.items ≤ l.port-index;
    }
