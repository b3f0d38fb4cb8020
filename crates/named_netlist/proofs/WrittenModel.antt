-- The model of the file that a gate list is written as.
use Rattle.std.proofs.Common.{◌+◌, List, ◌++◌, length}
use Rattle.std.specs.List.{flat_map}
use Rattle.netlist_spec.specs.Netlist.{Name, Port, Located, Model}
use Rattle.netlist_spec.specs.Reads.{first_appearances, statement_nets}
use Rattle.netlist_spec.specs.Written.{Named, output_names, ports_from, statements_from, latch_statements, gate_statements}

abbrev pub model_with : Name → List Name → List Port → List Port → List Port → List Located → Model
model_with name all inputs outputs clocks statements =
    record { name = name; line = 2; names = all; inputs = inputs; outputs = outputs; clocks = clocks; statements = statements }

-- the model of the file
abbrev pub written_model : Named → Model
written_model g =
    model_with g.model (first_appearances (g.inputs ++ output_names g ++ g.clocks ++ flat_map statement_nets (latch_statements g ++ gate_statements g))) (ports_from 3 g.inputs)
    (ports_from (3 + length g.inputs) (output_names g)) (ports_from ((3 + length g.inputs) + length g.outputs) g.clocks)
    (statements_from (((3 + length g.inputs) + length g.outputs) + length g.clocks) (latch_statements g ++ gate_statements g))
