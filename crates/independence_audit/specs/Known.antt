-- What is known of the nets of a model.
use Rattle.std.specs.Prelude.{◌≡◌, ℕ, length, Option, None, Some}
use Rattle.netlist_spec.specs.Netlist.{Model, Statement as SpecStatement, names, latch, subckt}
use Rattle.netlist_spec.specs.Models.{gates_of, output_nets}
use Rattle.netlist_spec.specs.Ordered.{cell_nets}
use Rattle.imp_text.specs.declared.names.NameId.{NameId}
use Rattle.blif_read.specs.declared.file.Statement.{Statement}
use Rattle.blif_read.specs.declared.file.Statement.TheVariants.{Names, Latch, Subckt}
use Rattle.line_order.specs.Marks.{Marks}
use Rattle.audit_laws.specs.FirstBits.{FirstBits, no_bit, latch_bits}
use Rattle.audit_laws.specs.Along.{bits_along}
use Rattle.independence_audit.specs.declared.known.Known.{Known}
use Rattle.independence_audit.specs.Kept.{Keeps}

-- the net that a latch stores, and the net that it shows
abbrev pub input_of : Statement → Option NameId
input_of (Latch d q clocking init) = Some d
input_of _ = None

abbrev pub output_of : Statement → Option NameId
output_of (Latch d q clocking init) = Some q
output_of _ = None

-- The bits of a net behind all `.names`, those of a latch, and the marks of outputs and of cells.
pub record IsKnown (m : Model) (known : Known) : Type 0 where
  pub gates : Keeps m.names known.gates.items (bits_along m (gates_of m))
  pub latches : Keeps m.names known.latches.items (latch_bits m)
  pub outputs : Marks m.names known.outputs (output_nets m)
  pub cells : Marks m.names known.cells (cell_nets m)

-- each table has an entry for each net
pub record HasTables (nets : ℕ) (known : Known) : Type 0 where
  pub gates : length known.gates.items ≡ nets
  pub latches : length known.latches.items ≡ nets
  pub outputs : length known.outputs ≡ nets
  pub cells : length known.cells ≡ nets

-- what is kept of a cell when the pass is done
abbrev pub bits_kept : Model → SpecStatement → FirstBits
bits_kept m (names ins out cover) = bits_along m (gates_of m) out
bits_kept m (latch d q clocking init) = latch_bits m q
bits_kept m (subckt model binds) = no_bit
