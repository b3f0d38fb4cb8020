use Rattle.std.proofs.Common.{[], ◌∷◌}
use Rattle.std.proofs.lemmas.Result.{err_from_is_err_and}
use Rattle.netlist_spec.specs.Escapes.{escaped}
use Rattle.imp_io.proofs.PutLemmas.{Puts-append, Puts-stopped}
use Rattle.refusals.proofs.escaped.put_behind_blank.Goals as goal

pub returns-in_err-put : goal.returns-in_err-put
returns-in_err-put g c =
    let p = err_from_is_err_and c.from_residual.result c.from_residual.ensures.1 in
    rw (p.1, p.2) (Puts-stopped _ _ (32 ∷ []) (escaped c.args.name.now) _ c.in_err-put.ensures.puts)

pub returns : goal.returns
returns g c = Puts-append _ _ _ (32 ∷ []) (escaped c.args.name.now) _ _ c.in_ok-put.ensures.puts c.put_escaped.ensures
