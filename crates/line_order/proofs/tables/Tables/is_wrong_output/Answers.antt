use Rattle.line_order.proofs.TableLemmas.{output_told}
use Rattle.line_order.proofs.tables.Tables.is_wrong_output.Goals as goal

pub returns : goal.returns
returns c = λ m passed t.
    output_told m passed _ c.has-output.result c.has-has_source.result (c.has-output.ensures m.names _ t.outputs) (c.has-has_source.ensures m.names _ t.sources)
