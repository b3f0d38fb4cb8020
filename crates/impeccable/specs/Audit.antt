-- What `audit` writes.
use Rattle.std.specs.Prelude.{◌≡◌, ℕ, ◌≤◌, List, [], ◌∷◌, ◌++◌, length, map, slice_index_or, All, ⊤}
use Rattle.netlist_spec.specs.Netlist.{Model}
use Rattle.netlist_spec.specs.Models.{latch_outputs}
use Rattle.netlist_spec.specs.Ordered.{cell_nets}
use Rattle.netlist_spec.specs.CellBits.{Bit, cells_of, wide, unused, shared, reads_output}
use Rattle.gate_net.specs.Bit.{bit_of}
use Rattle.blif_read.specs.View.{model_of, name_at}
use Rattle.audit_laws.specs.OnePass.{IsNoSubckt}
use Rattle.independence_audit.specs.declared.types.Audit.{Audit}
use Rattle.independence_audit.specs.declared.types.Audit.TheVariants.{Independent, Wide, Unused, Shared, OutputRead}
use Rattle.independence_audit.specs.declared.types.CellId.{CellId}
use Rattle.independence_audit.specs.Audited.{cell_name}
use Rattle.program_spec.specs.Printed.{bit_text, finding_text, independent_text}
use Rattle.impeccable.specs.declared.audit.Audited.{Audited}
use Rattle.impeccable.specs.declared.ended.Success.{Success}
use Rattle.impeccable.specs.declared.ended.Success.TheVariants.{Done, Found}

-- the line of a cell and its one bit
abbrev pub line_text : Model → ℕ → Bit → List ℕ
line_text m place bit = slice_index_or (cell_nets m) place [] ++ 32 ∷ (bit_text m bit ++ 10 ∷ [])

-- and that of a cell that two bits share
abbrev pub shared_text : Model → CellId → Bit → Bit → List ℕ
shared_text m cell one other = finding_text m (shared (cell_name m cell) one other)

-- The text of what an audit says.
abbrev pub audit_text : Model → Audit → List ℕ
audit_text m (Independent bits) = independent_text m (map bit_of bits.items)
audit_text m (Wide cell) = finding_text m (wide (cell_name m cell))
audit_text m (Unused cell) = finding_text m (unused (cell_name m cell))
audit_text m (Shared cell one other) = shared_text m cell (bit_of one) (bit_of other)
audit_text m (OutputRead net cell) = finding_text m (reads_output (name_at m.names net) (cell_name m cell))

abbrev pub audited_text : Audited → List ℕ
audited_text a = audit_text (model_of a.model) a.audit

-- Where it says that each cell has its one bit, nothing is found.
abbrev pub success_of : Audit → Success
success_of (Independent bits) = Done
success_of _ = Found

abbrev pub audited_success : Audited → Success
audited_success a = success_of a.audit

-- no more bits than cells
abbrev pub HasFewBits : Model → Audit → Type 0
HasFewBits m (Independent bits) = length bits.items ≤ length (cell_nets m)
HasFewBits m _ = ⊤

-- Each statement is a cell, the nets of the latches stand by their numbers, and each bit is that of a cell.
pub record IsReady (a : Audited) : Type 0 where
  pub cells : All IsNoSubckt (cells_of (model_of a.model))
  pub latches : map (name_at a.model.names) a.latches.items ≡ latch_outputs (model_of a.model)
  pub bits : HasFewBits (model_of a.model) a.audit
