use Rattle.std.proofs.lemmas.List.{length-map}
use Rattle.gate_net.specs.Bit.{bit_of}
use Rattle.imp_io.proofs.BlockLemmas.{Gives-append}
use Rattle.impeccable.proofs.audit.Audited.put_bits.Goals as goal

pub returns : goal.returns
returns g c = let count = length-map c.args.bits.now bit_of in rw count (Gives-append c.put_number.ensures c.put_lines.ensures)
