use Rattle.imp_io.proofs.BlockLemmas.{Gives-append}
use Rattle.blif_write.proofs.lines.put_names_line.Goals as goal

pub returns : goal.returns
returns g c = Gives-append (Gives-append (Gives-append c.put.ensures c.put_reads.ensures) c.put_net.ensures) c.put-2.ensures
