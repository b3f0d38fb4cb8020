-- What the kinds of lines stand for.
use Rattle.netlist_spec.specs.ReadFaults.{Kind, model_kind, inputs_kind, outputs_kind, clock_kind, names_kind, latch_kind, subckt_kind, end_kind, other_kind, row_kind}
use Rattle.blif_read.specs.declared.kind.Kind.{Kind as ReadKind}
use Rattle.blif_read.specs.declared.kind.Kind.TheVariants.{Model, Inputs, Outputs, Clock, Names, Latch, Subckt, End, Other, Row}

abbrev pub kind_in : ReadKind → Kind
kind_in Model = model_kind
kind_in Inputs = inputs_kind
kind_in Outputs = outputs_kind
kind_in Clock = clock_kind
kind_in Names = names_kind
kind_in Latch = latch_kind
kind_in Subckt = subckt_kind
kind_in End = end_kind
kind_in Other = other_kind
kind_in Row = row_kind
