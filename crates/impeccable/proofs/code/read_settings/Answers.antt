-- Each step of the walk of `code`, and what stops it there.
use Rattle.std.proofs.Common.{refl, ap, subst}
use Rattle.std.proofs.lemmas.Result.{err_from_is_err_and}
use Rattle.guard_spec.specs.Words.{Settings}
use Rattle.impeccable.specs.Code.{Measures}
use Rattle.program_spec.specs.Walk.{passes}
use Rattle.impeccable.proofs.CodeLemmas.{report-text, settled, unsettled, what-is-read}
use Rattle.impeccable.proofs.ReportLemmas.{is-report}
use Rattle.impeccable.proofs.code.read_settings.Goals as goal

pub returns-in_err-settings-clause-prepares : goal.returns-in_err-settings-clause-prepares
returns-in_err-settings-clause-prepares g c =
    let p = err_from_is_err_and c.from_residual.result c.from_residual.ensures.1 in
    rw (p.1, p.2) (unsettled c.args.settings.now (g.F.Files.seen c.args.files.now) (g.F.Files.seen c.load_settings.new.files) _ c.in_err-settings.ensures.settings)

pub returns-clause-prepares : goal.returns-clause-prepares
returns-clause-prepares g c = λ known.
    let old = g.F.Files.seen c.args.files.now in
    let s = c.in_ok-settings.settings in
    let held = what-is-read c.args.settings.now old s c.in_ok-settings.ensures.settings in
    let passed = settled c.args.settings.now old s held in
    let measured = subst (λ code. Measures code c.measure-report.result) (ap (λ (s : Settings). s.code) c.settings.view_is) c.measure-report.ensures.measured in
    (passed.verdict known passes refl, report-text _ s _ (is-report s.code c.measure-report.result measured) (held known))

pub returns-in_err-settings-clause-own : goal.returns-in_err-settings-clause-own
returns-in_err-settings-clause-own g c =
    let p = err_from_is_err_and c.from_residual.result c.from_residual.ensures.1 in
    rw (p.1, p.2) c.in_err-settings.ensures.own
