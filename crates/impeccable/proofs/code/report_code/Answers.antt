-- The report is prepared, and then written.
use Rattle.std.proofs.lemmas.Result.{err_from_is_err_and}
use Rattle.program_spec.specs.Commands.{code}
use Rattle.impeccable.specs.declared.ended.Success.TheVariants.{Done}
use Rattle.impeccable.specs.Ended.{stop_answer}
use Rattle.impeccable.proofs.OwnLemmas.{keeps}
use Rattle.impeccable.proofs.StepLemmas.{put-ends, put-stops}
use Rattle.impeccable.proofs.code.report_code.Goals as goal

pub returns-in_err-report-clause-answers : goal.returns-in_err-report-clause-answers
returns-in_err-report-clause-answers g c =
    let p = err_from_is_err_and c.from_residual.result c.from_residual.ensures.1 in
    rw (p.1, p.2) (c.in_err-report.ensures.prepares (g.O.Sink.seen c.args.out.now))

pub returns-in_err-write_report-clause-answers : goal.returns-in_err-write_report-clause-answers
returns-in_err-write_report-clause-answers g c =
    let p = err_from_is_err_and c.from_residual-in_err-write_report.result c.from_residual-in_err-write_report.ensures.1 in
    rw p.1 (put-stops (code c.args.settings.now) Done (g.F.Files.seen c.args.files.now) (g.F.Files.seen c.read_settings.new.files) (g.O.Sink.seen c.args.out.now) (g.O.Sink.seen c.write_report.new.out) _ _ _ c.in_ok-report.ensures.prepares c.in_err-write_report.ensures p.2)

pub returns-clause-answers : goal.returns-clause-answers
returns-clause-answers g c =
    put-ends (code c.args.settings.now) Done (g.F.Files.seen c.args.files.now) (g.F.Files.seen c.read_settings.new.files) (g.O.Sink.seen c.args.out.now) (g.O.Sink.seen c.write_report.new.out) _ _ c.in_ok-report.ensures.prepares c.in_ok-write_report.ensures

pub returns-in_err-report-clause-own : goal.returns-in_err-report-clause-own
returns-in_err-report-clause-own g c =
    let p = err_from_is_err_and c.from_residual.result c.from_residual.ensures.1 in
    rw (p.1, p.2) c.in_err-report.ensures.own

pub returns-in_err-write_report-clause-own : goal.returns-in_err-write_report-clause-own
returns-in_err-write_report-clause-own g c =
    let p = err_from_is_err_and c.from_residual-in_err-write_report.result c.from_residual-in_err-write_report.ensures.1 in
    rw p.1 (keeps (g.F.Files.seen c.args.files.now) (g.F.Files.seen c.read_settings.new.files) (stop_answer p.0) c.in_ok-report.ensures.own)
