use Rattle.std.proofs.lemmas.Result.{err_from_is_err_and}
use Rattle.imp_io.proofs.PutLemmas.{Puts-append, Puts-stopped}
use Rattle.refusals.proofs.LineLemmas.{Puts-text, told-line}
use Rattle.refusals.specs.Lines.{front_text, tailed_line}
use Rattle.refusals.proofs.lines.put_told.Goals as goal

pub returns-in_err-put_front : goal.returns-in_err-put_front
returns-in_err-put_front g c =
    let p = err_from_is_err_and c.from_residual.result c.from_residual.ensures.1 in
    let told = c.args.told.now in
    rw (p.1, p.2) (Puts-text _ _ _ _ _ (told-line told.number.now told.text.now told.tail told.line) (Puts-stopped _ _ (front_text told.number.now told.line) (tailed_line told.text.now told.tail) _ (rw c.as_bytes.ensures.value at c.in_err-put_front.ensures)))

pub returns : goal.returns
returns g c =
    let told = c.args.told.now in
    Puts-text _ _ _ _ _ (told-line told.number.now told.text.now told.tail told.line) (Puts-append _ _ _ (front_text told.number.now told.line) (tailed_line told.text.now told.tail) _ _ (rw c.as_bytes.ensures.value at c.in_ok-put_front.ensures) (rw c.as_bytes-2.ensures.value at c.put_tailed.ensures))
