-- What is told of one cell.
use Rattle.std.specs.Prelude.{◌≡◌, ⊤, Option, None, Some}
use Rattle.netlist_spec.specs.Netlist.{Model}
use Rattle.netlist_spec.specs.CellBits.{Finding, wide, unused, shared, reads_output}
use Rattle.gate_net.specs.Bit.{bit_of}
use Rattle.blif_read.specs.View.{name_at}
use Rattle.audit_laws.specs.FirstBits.{FirstBits, one_bit}
use Rattle.independence_audit.specs.declared.types.Audit.{Audit}
use Rattle.independence_audit.specs.declared.types.Audit.TheVariants.{Independent, Wide, Unused, Shared, OutputRead}
use Rattle.independence_audit.specs.declared.tell.Told.{Told}
use Rattle.independence_audit.specs.declared.tell.Told.TheVariants.{Serves, Finds}
use Rattle.independence_audit.specs.Audited.{cell_name}

-- the finding, where there is one
abbrev pub finding_in : Model → Audit → Option Finding
finding_in m (Independent bits) = None
finding_in m (Wide cell) = Some (wide (cell_name m cell))
finding_in m (Unused cell) = Some (unused (cell_name m cell))
finding_in m (Shared cell one other) = Some (shared (cell_name m cell) (bit_of one) (bit_of other))
finding_in m (OutputRead net cell) = Some (reads_output (name_at m.names net) (cell_name m cell))

abbrev pub finding_told : Model → Told → Option Finding
finding_told m (Serves bit) = None
finding_told m (Finds audit) = finding_in m audit

abbrev pub IsFound : Audit → Type 0
IsFound (Independent bits) = ⊥
IsFound _ = ⊤

-- A cell that serves a bit has that one alone. What is found is no answer without a finding.
abbrev pub IsToldOf : Told → FirstBits → Type 0
IsToldOf (Serves bit) kept = kept ≡ one_bit (bit_of bit)
IsToldOf (Finds audit) kept = IsFound audit
