use Rattle.imp_io.proofs.BlockLemmas.{Gives-append}
use Rattle.blif_write.proofs.text.put_text.Goals as goal

pub returns : goal.returns
returns g c = Gives-append (Gives-append (Gives-append (Gives-append c.put_head.ensures c.put_ports.ensures) c.put_latches.ensures) c.put_gates.ensures) c.put.ensures
