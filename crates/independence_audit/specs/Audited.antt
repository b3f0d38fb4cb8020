-- What an audit says of a netlist.
use Rattle.std.specs.Prelude.{[], map, slice_index_or}
use Rattle.std.specs.List.{AllZip}
use Rattle.netlist_spec.specs.Netlist.{Name, Model, File}
use Rattle.netlist_spec.specs.Ordered.{cell_nets}
use Rattle.netlist_spec.specs.CellBits.{HasOneBit, cells_of, IsIndependent, IsFinding, wide, unused, shared, reads_output}
use Rattle.gate_net.specs.Bit.{bit_of}
use Rattle.blif_read.specs.View.{name_at}
use Rattle.independence_audit.specs.declared.types.CellId.{CellId}
use Rattle.independence_audit.specs.declared.types.Audit.{Audit}
use Rattle.independence_audit.specs.declared.types.Audit.TheVariants.{Independent, Wide, Unused, Shared, OutputRead}

-- A cell is named by its output net.
abbrev pub cell_name : Model → CellId → Name
cell_name m cell = slice_index_or (cell_nets m) cell.0 []

-- What an audit says is so: each cell serves one bit, and these are the bits of the cells; or this is the finding.
abbrev pub IsAudit : File → Model → Audit → Type 0
IsAudit file m (Independent bits) = IsIndependent file × AllZip (λ s bit. HasOneBit m s bit) (cells_of m) (map bit_of bits.items)
IsAudit file m (Wide cell) = IsFinding m (wide (cell_name m cell))
IsAudit file m (Unused cell) = IsFinding m (unused (cell_name m cell))
IsAudit file m (Shared cell one other) = IsFinding m (shared (cell_name m cell) (bit_of one) (bit_of other))
IsAudit file m (OutputRead net cell) = IsFinding m (reads_output (name_at m.names net) (cell_name m cell))
