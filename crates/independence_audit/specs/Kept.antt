-- What is kept of bits, and tables of it by the numbers of nets.
use Rattle.std.specs.Prelude.{◌≡◌, List, map, IsTrue}
use Rattle.netlist_spec.specs.Netlist.{Name, are_distinct}
use Rattle.gate_net.specs.Bit.{bit_of}
use Rattle.audit_laws.specs.FirstBits.{FirstBits, no_bit, one_bit, two_bits}
use Rattle.independence_audit.specs.declared.kept.Kept.{Kept}
use Rattle.independence_audit.specs.declared.kept.Kept.TheVariants.{NoBit, OneBit, TwoBits}

abbrev pub first_bits : Kept → FirstBits
first_bits NoBit = no_bit
first_bits (OneBit bit) = one_bit (bit_of bit)
first_bits (TwoBits one other) = two_bits (bit_of one) (bit_of other)

-- A table has for each net what is kept of the net of that number.
pub record Keeps (all : List Name) (table : List Kept) (kept : Name → FirstBits) : Type 0 where
  pub distinct : IsTrue (are_distinct all)
  pub entries : map first_bits table ≡ map kept all
