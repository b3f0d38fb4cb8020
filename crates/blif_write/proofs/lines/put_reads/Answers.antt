use Rattle.imp_io.proofs.BlockLemmas.{Gives-append}
use Rattle.std.proofs.Common.{append-nil}
use Rattle.blif_write.proofs.lines.put_reads.Goals as goal

pub returns-in-Two : goal.returns-in-Two
returns-in-Two g c =
    rw (c.in-Two.is, append-nil) (Gives-append c.put_net-in-Two.ensures c.put_net-in-Two-2.ensures)
