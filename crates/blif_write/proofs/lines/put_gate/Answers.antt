use Rattle.imp_io.proofs.BlockLemmas.{Gives-append}
use Rattle.blif_write.proofs.lines.put_gate.Goals as goal

pub returns : goal.returns
returns g c = Gives-append c.put_names_line.ensures c.put_rows.ensures
