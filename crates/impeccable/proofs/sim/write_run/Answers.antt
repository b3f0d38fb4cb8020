-- The run is prepared, and then written.
use Rattle.std.proofs.lemmas.Result.{err_from_is_err_and}
use Rattle.program_spec.specs.Commands.{sim}
use Rattle.impeccable.specs.declared.ended.Success.TheVariants.{Done}
use Rattle.impeccable.specs.Ended.{stop_answer}
use Rattle.impeccable.proofs.OwnLemmas.{keeps}
use Rattle.impeccable.proofs.StepLemmas.{put-ends, put-stops}
use Rattle.impeccable.proofs.sim.write_run.Goals as goal

pub returns-in_err-simulation-clause-answers : goal.returns-in_err-simulation-clause-answers
returns-in_err-simulation-clause-answers g c =
    let p = err_from_is_err_and c.from_residual.result c.from_residual.ensures.1 in
    rw (p.1, p.2) (c.in_err-simulation.ensures.prepares (g.O.Sink.seen c.args.out.now))

pub returns-in_err-write_cycles-clause-answers : goal.returns-in_err-write_cycles-clause-answers
returns-in_err-write_cycles-clause-answers g c =
    let p = err_from_is_err_and c.from_residual-in_err-write_cycles.result c.from_residual-in_err-write_cycles.ensures.1 in
    let ready = c.in_ok-simulation.ensures.prepares in
    let run = c.in_err-write_cycles.ensures in
    rw p.1 (put-stops (sim c.args.netlist.now c.args.stimulus.now c.args.script.now) Done (g.F.Files.seen c.args.files.now) (g.F.Files.seen c.prepare.new.files) (g.O.Sink.seen c.args.out.now) (g.O.Sink.seen c.write_cycles.new.out) run.0 _ _ (λ known. ((ready known).0, (ready known).1 run.0 run.1)) run.2 p.2)

pub returns-clause-answers : goal.returns-clause-answers
returns-clause-answers g c =
    let ready = c.in_ok-simulation.ensures.prepares in
    let run = c.in_ok-write_cycles.ensures in
    put-ends (sim c.args.netlist.now c.args.stimulus.now c.args.script.now) Done (g.F.Files.seen c.args.files.now) (g.F.Files.seen c.prepare.new.files) (g.O.Sink.seen c.args.out.now) (g.O.Sink.seen c.write_cycles.new.out) run.0 _ (λ known. ((ready known).0, (ready known).1 run.0 run.1)) run.2

pub returns-in_err-simulation-clause-own : goal.returns-in_err-simulation-clause-own
returns-in_err-simulation-clause-own g c =
    let p = err_from_is_err_and c.from_residual.result c.from_residual.ensures.1 in
    rw (p.1, p.2) c.in_err-simulation.ensures.own

pub returns-in_err-write_cycles-clause-own : goal.returns-in_err-write_cycles-clause-own
returns-in_err-write_cycles-clause-own g c =
    let p = err_from_is_err_and c.from_residual-in_err-write_cycles.result c.from_residual-in_err-write_cycles.ensures.1 in
    rw p.1 (keeps (g.F.Files.seen c.args.files.now) (g.F.Files.seen c.prepare.new.files) (stop_answer p.0) c.in_ok-simulation.ensures.own)
