use Rattle.imp_io.proofs.BlockLemmas.{Gives-append, Gives-text}
use Rattle.blif_write.proofs.Steps.{table-text}
use Rattle.blif_write.proofs.rows.put_table.Goals as goal

pub returns : goal.returns
returns g c =
    let two = Gives-append c.put_pair.ensures c.put_pair-2.ensures in
    Gives-text (table-text c.args.op) (Gives-append (Gives-append two c.put_pair-3.ensures) c.put_pair-4.ensures)
