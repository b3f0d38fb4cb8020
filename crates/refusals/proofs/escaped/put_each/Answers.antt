use Rattle.std.proofs.Common.{◌+◌, ap, arith, take, drop}
use Rattle.std.proofs.lemmas.List.{take_all}
use Rattle.std.proofs.lemmas.Result.{err_from_is_err_and}
use Rattle.imp_io.proofs.PutLemmas.{Puts-append, Puts-nil, Puts-stopped}
use Rattle.refusals.specs.Lines.{each_text}
use Rattle.refusals.proofs.LineLemmas.{Puts-text, each-left, each-more}
use Rattle.refusals.proofs.escaped.put_each.Goals as goal

pub loop-i-init : goal.loop-i-init
loop-i-init g c = Puts-nil _ tt

pub loop-i-preserved : goal.loop-i-preserved
loop-i-preserved g c =
    Puts-text _ _ _ _ _ (each-more c.args.names.now c.loop-i.i c.get.result.now c.get.ensures) (Puts-append _ _ _ _ _ _ _ c.loop-i.invariant c.in_ok-put_behind_blank.ensures)

pub returns-in_err-put_behind_blank : goal.returns-in_err-put_behind_blank
returns-in_err-put_behind_blank g c =
    let p = err_from_is_err_and c.from_residual.result c.from_residual.ensures.1 in
    let names = c.args.names.now in
    let i = c.loop-i.i in
    rw (p.1, p.2) (Puts-text _ _ _ _ _ (each-left names (i + 1)) (Puts-stopped _ _ (each_text (take (i + 1) names)) (each_text (drop (i + 1) names)) _
    (Puts-text _ _ _ _ _ (each-more names i c.get.result.now c.get.ensures) (Puts-append _ _ _ _ _ _ _ c.loop-i.invariant c.in_err-put_behind_blank.ensures))))

pub returns : goal.returns
returns g c = Puts-text _ _ _ _ _ (ap each_text (take_all c.loop-i.i c.args.names.now (omega (arith, c.loop-i-test.false, c.len-i-end.ensures.count)))) c.loop-i.invariant
