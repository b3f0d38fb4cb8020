use Rattle.imp_io.proofs.BlockLemmas.{Gives-append}
use Rattle.impeccable.proofs.code.put_report.Goals as goal

pub returns : goal.returns
returns g c =
    rw (← c.from.ensures, ← c.from-2.ensures, ← c.from-3.ensures) (Gives-append (Gives-append (Gives-append (Gives-append c.put_size.ensures c.put_number.ensures) c.put_word.ensures) c.put_number-2.ensures) c.put_number-3.ensures)
