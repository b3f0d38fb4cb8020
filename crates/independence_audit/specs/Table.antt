-- The bits that are numbered.
use Rattle.std.specs.Prelude.{ℕ}
use Rattle.netlist_spec.specs.CellBits.{Bit, latch_bit, output_bit}
use Rattle.independence_audit.specs.declared.table.Kind.{Kind}
use Rattle.independence_audit.specs.declared.table.Kind.TheVariants.{Latches, Outputs}

abbrev pub kind_of : Kind → ℕ → Bit
kind_of Latches i = latch_bit i
kind_of Outputs i = output_bit i
