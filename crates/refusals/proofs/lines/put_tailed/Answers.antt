use Rattle.std.proofs.lemmas.Result.{err_from_is_err_and}
use Rattle.imp_io.proofs.PutLemmas.{Puts-append, Puts-stopped}
use Rattle.refusals.proofs.lines.put_tailed.Goals as goal

pub returns-in_err-put : goal.returns-in_err-put
returns-in_err-put g c =
    let p = err_from_is_err_and c.from_residual.result c.from_residual.ensures.1 in
    rw (p.1, p.2) (Puts-stopped _ _ _ _ _ (Puts-stopped _ _ _ _ _ c.in_err-put.ensures.puts))

pub returns-in_err-put_tail : goal.returns-in_err-put_tail
returns-in_err-put_tail g c =
    let p = err_from_is_err_and c.from_residual-in_err-put_tail.result c.from_residual-in_err-put_tail.ensures.1 in
    rw (p.1, p.2) (Puts-stopped _ _ _ _ _ (Puts-append _ _ _ _ _ _ _ c.in_ok-put.ensures.puts c.in_err-put_tail.ensures))

pub returns : goal.returns
returns g c =
    Puts-append _ _ _ _ _ _ _ (Puts-append _ _ _ _ _ _ _ c.in_ok-put.ensures.puts c.in_ok-put_tail.ensures) c.put-2.ensures.puts
