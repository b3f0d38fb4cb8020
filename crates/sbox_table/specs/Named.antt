-- The tables of a library, as the definitions speak of them.
use Rattle.netlist_spec.specs.Covers.{NamedTable}
use Rattle.sbox_table.specs.declared.table.NamedTable.{NamedTable as Named}

abbrev pub named_table_of : Named → NamedTable
named_table_of t = record { name = t.name; table = t.table }
