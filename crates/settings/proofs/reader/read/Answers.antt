use Rattle.std.proofs.lemmas.Result.{err_from_is_err_and}
use Rattle.toml.specs.View.{table_view}
use Rattle.settings.specs.Faults.{fault_of}
use Rattle.settings.proofs.Documents.{of_no_text, of_read, of_no_document}
use Rattle.settings.proofs.reader.read.Goals as goal

pub returns-in_err-doc-in-Ok-clause-err : goal.returns-in_err-doc-in-Ok-clause-err
returns-in_err-doc-in-Ok-clause-err c =
    let p = err_from_is_err_and c.from_residual.result c.from_residual.ensures.1 in
    rw (p.1, p.2) (of_no_document c.args.bytes.now c.in-Ok.text.now (fault_of c.in_err-doc-in-Ok.field-0.0) c.in-Ok.ensures.cases.1 c.in-Ok.ensures.cases.0 c.in_err-doc-in-Ok.ensures.err)

pub returns-in_ok-doc-in-Ok-clause-ok : goal.returns-in_ok-doc-in-Ok-clause-ok
returns-in_ok-doc-in-Ok-clause-ok c = rw (of_read c.args.bytes.now c.in-Ok.text.now (table_view c.in_ok-doc-in-Ok.doc) c.in-Ok.ensures.cases.1 c.in-Ok.ensures.cases.0 c.in_ok-doc-in-Ok.ensures.ok) c.settings.ensures.ok

pub returns-in_ok-doc-in-Ok-clause-err : goal.returns-in_ok-doc-in-Ok-clause-err
returns-in_ok-doc-in-Ok-clause-err c = rw (of_read c.args.bytes.now c.in-Ok.text.now (table_view c.in_ok-doc-in-Ok.doc) c.in-Ok.ensures.cases.1 c.in-Ok.ensures.cases.0 c.in_ok-doc-in-Ok.ensures.ok) c.settings.ensures.err

pub returns-in-Err-clause-err : goal.returns-in-Err-clause-err
returns-in-Err-clause-err c = of_no_text c.args.bytes.now c.in-Err.ensures.cases.0
