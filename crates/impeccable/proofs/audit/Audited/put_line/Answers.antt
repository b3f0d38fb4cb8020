use Rattle.imp_io.proofs.BlockLemmas.{Gives-append, Gives-text}
use Rattle.impeccable.proofs.AuditLemmas.{line-joined}
use Rattle.impeccable.proofs.audit.Audited.put_line.Goals as goal

pub returns : goal.returns
returns g c = Gives-text (line-joined _ _) (Gives-append (Gives-append (rw c.cell_net.ensures at c.put_all.ensures) c.put_bit.ensures) c.put.ensures)
