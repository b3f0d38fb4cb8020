-- The bits of a machine, as the definitions speak of them.
use Rattle.netlist_spec.specs.CellBits.{Bit, latch_bit, output_bit}
use Rattle.gate_net.specs.declared.words.Bit.{Bit as MachineBit}
use Rattle.gate_net.specs.declared.words.Bit.TheVariants.{Latch, Output}

abbrev pub bit_of : MachineBit → Bit
bit_of (Latch i) = latch_bit i
bit_of (Output i) = output_bit i
