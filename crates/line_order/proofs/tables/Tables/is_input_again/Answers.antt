use Rattle.line_order.proofs.TableLemmas.{input_told}
use Rattle.line_order.proofs.tables.Tables.is_input_again.Goals as goal

pub returns : goal.returns
returns c = λ m passed t. input_told m passed _ c.has-input.result c.has-cell.result (c.has-input.ensures m.names _ t.inputs) (c.has-cell.ensures m.names _ t.cells)
