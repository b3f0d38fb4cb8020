use Rattle.std.proofs.lemmas.Result.{err_from_is_err_and}
use Rattle.imp_io.proofs.PutLemmas.{Puts-append, Puts-stopped}
use Rattle.refusals.proofs.escaped.put_pair.Goals as goal

pub returns-in_err-put_escaped : goal.returns-in_err-put_escaped
returns-in_err-put_escaped g c =
    let p = err_from_is_err_and c.from_residual.result c.from_residual.ensures.1 in
    rw (p.1, p.2) (Puts-stopped _ _ _ _ _ c.in_err-put_escaped.ensures)

pub returns : goal.returns
returns g c = Puts-append _ _ _ _ _ _ _ c.in_ok-put_escaped.ensures c.put_behind_blank.ensures
