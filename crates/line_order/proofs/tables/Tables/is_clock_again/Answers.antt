use Rattle.line_order.proofs.TableLemmas.{clock_told}
use Rattle.line_order.proofs.tables.Tables.is_clock_again.Goals as goal

pub returns : goal.returns
returns c = λ m passed t. clock_told m passed _ c.has-clock.result c.has-cell.result (c.has-clock.ensures m.names _ t.clocks) (c.has-cell.ensures m.names _ t.cells)
