-- The layers of a library, as the definitions speak of them.
use Rattle.netlist_spec.specs.Covers.{NamedLinear}
use Rattle.linear_layer.specs.declared.layer.NamedLinear.{NamedLinear as Named}

abbrev pub named_linear_of : Named → NamedLinear
named_linear_of l = record { name = l.name; layer = l.layer }
