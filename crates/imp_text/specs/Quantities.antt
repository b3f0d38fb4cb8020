-- What the counts of this crate stand for.
use Rattle.netlist_spec.specs.Netlist.{Quantity, cover_inputs, model_inputs, model_outputs, model_clocks, model_latches, file_statements, source_cost}
use Rattle.imp_text.specs.declared.quantity.What.{What}
use Rattle.imp_text.specs.declared.quantity.What.TheVariants.{Cover, Inputs, Outputs, Clocks, Latches, Statements, Source}

abbrev pub quantity_of : What → Quantity
quantity_of Cover = cover_inputs
quantity_of Inputs = model_inputs
quantity_of Outputs = model_outputs
quantity_of Clocks = model_clocks
quantity_of Latches = model_latches
quantity_of Statements = file_statements
quantity_of Source = source_cost
