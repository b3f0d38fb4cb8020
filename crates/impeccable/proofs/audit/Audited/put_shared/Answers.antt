use Rattle.std.proofs.Common.{codes}
use Rattle.imp_io.proofs.BlockLemmas.{Gives-append, Gives-text}
use Rattle.impeccable.proofs.AuditLemmas.{shared-joined}
use Rattle.impeccable.proofs.audit.Audited.put_shared.Goals as goal

pub returns : goal.returns
returns g c =
    Gives-text (shared-joined (codes "shared ") _ _ _) (Gives-append (Gives-append (Gives-append (Gives-append (rw c.cell_net.ensures at c.put_all.ensures) c.put_bit.ensures) c.put.ensures) c.put_bit-2.ensures) c.put-2.ensures)
