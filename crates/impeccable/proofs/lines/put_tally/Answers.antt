use Rattle.imp_io.proofs.BlockLemmas.{Gives-append}
use Rattle.impeccable.proofs.lines.put_tally.Goals as goal

pub returns : goal.returns
returns g c = Gives-append (Gives-append (Gives-append (Gives-append c.put_number.ensures c.put_number-2.ensures) c.put_number-3.ensures) c.put_number-4.ensures) c.put_number-5.ensures
