use Rattle.imp_io.proofs.BlockLemmas.{Gives-append}
use Rattle.impeccable.proofs.demo.put_lines.Goals as goal

pub returns : goal.returns
returns g c =
    rw (← c.from.ensures, ← c.from-2.ensures, ← c.from-3.ensures) (Gives-append (Gives-append (Gives-append c.put_number.ensures c.put_number-2.ensures) c.put_number-3.ensures) c.put_tally.ensures)
