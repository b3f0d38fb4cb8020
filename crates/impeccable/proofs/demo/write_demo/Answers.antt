-- The demo is tried, and then its lines are written.
use Rattle.std.proofs.lemmas.Result.{err_from_is_err_and}
use Rattle.demo_tally.specs.Tried.{summary_text}
use Rattle.program_spec.specs.Commands.{demo}
use Rattle.impeccable.specs.declared.ended.Success.TheVariants.{Done}
use Rattle.impeccable.specs.Ended.{stop_answer}
use Rattle.impeccable.proofs.DemoLemmas.{demo-prepared, stopped-ends, unstarted-ends, whole-ends}
use Rattle.impeccable.proofs.StepLemmas.{memory-stops, put-ends, put-stops}
use Rattle.impeccable.proofs.demo.write_demo.Goals as goal

pub returns-in_err-tried-clause-answers : goal.returns-in_err-tried-clause-answers
returns-in_err-tried-clause-answers g c =
    let p = err_from_is_err_and c.from_residual.result c.from_residual.ensures.1 in
    rw p.1 (λ files. memory-stops (demo c.args.size) files files p.0 p.2 (g.O.Sink.seen c.args.out.now))

pub returns-in_err-write_lines-clause-answers : goal.returns-in_err-write_lines-clause-answers
returns-in_err-write_lines-clause-answers g c =
    let p = err_from_is_err_and c.from_residual-in_err-write_lines.result c.from_residual-in_err-write_lines.ensures.1 in
    let text = summary_text c.in_ok-tried.tried in
    rw p.1 (λ files. put-stops (demo c.args.size) Done files files (g.O.Sink.seen c.args.out.now) (g.O.Sink.seen c.write_lines.new.out) text _ _ (demo-prepared c.args.size files text c.in_ok-tried.ensures) c.in_err-write_lines.ensures p.2)

pub returns-clause-answers : goal.returns-clause-answers
returns-clause-answers g c = λ files.
    let text = summary_text c.in_ok-tried.tried in
    put-ends (demo c.args.size) Done files files (g.O.Sink.seen c.args.out.now) (g.O.Sink.seen c.write_lines.new.out) text _ (demo-prepared c.args.size files text c.in_ok-tried.ensures) c.in_ok-write_lines.ensures

pub returns-in_err-tried-clause-ends : goal.returns-in_err-tried-clause-ends
returns-in_err-tried-clause-ends g c =
    let p = err_from_is_err_and c.from_residual.result c.from_residual.ensures.1 in
    rw p.1 (unstarted-ends c.args.size (g.O.Sink.seen c.args.out.now) (stop_answer p.0) p.2)

pub returns-in_err-write_lines-clause-ends : goal.returns-in_err-write_lines-clause-ends
returns-in_err-write_lines-clause-ends g c =
    let p = err_from_is_err_and c.from_residual-in_err-write_lines.result c.from_residual-in_err-write_lines.ensures.1 in
    rw p.1 (stopped-ends c.args.size (g.O.Sink.seen c.args.out.now) (g.O.Sink.seen c.write_lines.new.out) (summary_text c.in_ok-tried.tried) c.in_ok-tried.ensures _ (stop_answer p.0) c.in_err-write_lines.ensures p.2)

pub returns-clause-ends : goal.returns-clause-ends
returns-clause-ends g c = whole-ends c.args.size (g.O.Sink.seen c.args.out.now) (g.O.Sink.seen c.write_lines.new.out) (summary_text c.in_ok-tried.tried) c.in_ok-tried.ensures _ c.in_ok-write_lines.ensures
