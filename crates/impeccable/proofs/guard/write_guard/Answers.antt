-- The guard is made, and then written.
use Rattle.std.proofs.Common.{refl}
use Rattle.std.proofs.lemmas.Result.{err_from_is_err_and}
use Rattle.program_spec.specs.Commands.{guard}
use Rattle.impeccable.specs.declared.ended.Success.TheVariants.{Done}
use Rattle.impeccable.specs.Ended.{stop_answer}
use Rattle.impeccable.specs.Flat.{named_text}
use Rattle.impeccable.proofs.GuardLemmas.{guard-prepared}
use Rattle.impeccable.proofs.OwnLemmas.{keeps}
use Rattle.impeccable.proofs.StepLemmas.{put-ends, write-stops}
use Rattle.impeccable.proofs.guard.write_guard.Goals as goal

pub returns-in_err-guarded-clause-answers : goal.returns-in_err-guarded-clause-answers
returns-in_err-guarded-clause-answers g c =
    let p = err_from_is_err_and c.from_residual.result c.from_residual.ensures.1 in
    rw (p.1, p.2) (c.in_err-guarded.ensures.guard (guard c.args.settings.now c.args.netlist.now) (refl, refl) (g.O.Sink.seen c.args.out.now))

pub returns-in_err-write-clause-answers : goal.returns-in_err-write-clause-answers
returns-in_err-write-clause-answers g c =
    let p = err_from_is_err_and c.from_residual-in_err-write.result c.from_residual-in_err-write.ensures.1 in
    let old = g.F.Files.seen c.args.files.now in
    let made = c.in_ok-guarded.guarded in
    rw p.1 (write-stops (guard c.args.settings.now c.args.netlist.now) Done old (g.F.Files.seen c.make_guard.new.files) (g.O.Sink.seen c.args.out.now) (g.O.Sink.seen c.write.new.out) (named_text made.guard.named) _ _
    (guard-prepared c.args.settings.now c.args.netlist.now old made c.in_ok-guarded.ensures.guard) c.in_err-write.ensures.puts p.2)

pub returns-clause-answers : goal.returns-clause-answers
returns-clause-answers g c =
    let old = g.F.Files.seen c.args.files.now in
    let made = c.in_ok-guarded.guarded in
    put-ends (guard c.args.settings.now c.args.netlist.now) Done old (g.F.Files.seen c.make_guard.new.files) (g.O.Sink.seen c.args.out.now) (g.O.Sink.seen c.write.new.out) (named_text made.guard.named) _
    (guard-prepared c.args.settings.now c.args.netlist.now old made c.in_ok-guarded.ensures.guard) c.in_ok-write.ensures.puts

pub returns-in_err-guarded-clause-own : goal.returns-in_err-guarded-clause-own
returns-in_err-guarded-clause-own g c =
    let p = err_from_is_err_and c.from_residual.result c.from_residual.ensures.1 in
    rw (p.1, p.2) c.in_err-guarded.ensures.own

pub returns-in_err-write-clause-own : goal.returns-in_err-write-clause-own
returns-in_err-write-clause-own g c =
    let p = err_from_is_err_and c.from_residual-in_err-write.result c.from_residual-in_err-write.ensures.1 in
    rw p.1 (keeps (g.F.Files.seen c.args.files.now) (g.F.Files.seen c.make_guard.new.files) (stop_answer p.0) c.in_ok-guarded.ensures.own)
