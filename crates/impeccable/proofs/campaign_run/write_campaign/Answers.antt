-- The guard is prepared and tried, and then its tally and its text are written.
use Rattle.std.proofs.Common.{Err, Ok}
use Rattle.std.proofs.lemmas.Result.{err_from_is_err_and}
use Rattle.imp_io.proofs.PutLemmas.{Puts-append, Puts-stopped}
use Rattle.blif_write.specs.Refusals.{put_answer}
use Rattle.guard_tally.specs.Tallied.{lines_of}
use Rattle.program_spec.specs.Commands.{campaign}
use Rattle.impeccable.specs.declared.ended.Success.TheVariants.{Done}
use Rattle.impeccable.specs.Campaign.{campaign_text}
use Rattle.impeccable.specs.Ended.{stop_answer}
use Rattle.impeccable.specs.Flat.{named_text}
use Rattle.impeccable.proofs.OwnLemmas.{keeps}
use Rattle.impeccable.proofs.StepLemmas.{put-ends, put-stops, write-stops}
use Rattle.impeccable.proofs.campaign_run.write_campaign.Goals as goal

pub returns-in_err-tried-clause-answers : goal.returns-in_err-tried-clause-answers
returns-in_err-tried-clause-answers g c =
    let p = err_from_is_err_and c.from_residual.result c.from_residual.ensures.1 in
    rw (p.1, p.2) (c.in_err-tried.ensures.prepares (g.O.Sink.seen c.args.out.now))

pub returns-in_err-write_tally-clause-answers : goal.returns-in_err-write_tally-clause-answers
returns-in_err-write_tally-clause-answers g c =
    let p = err_from_is_err_and c.from_residual-in_err-write_tally.result c.from_residual-in_err-write_tally.ensures.1 in
    let out = g.O.Sink.seen c.args.out.now in
    let new = g.O.Sink.seen c.write_tally.new.out in
    let tried = c.in_ok-tried.tried in
    rw p.1 (put-stops (campaign c.args.settings.now c.args.netlist.now c.args.stimulus.now c.args.cycle) Done (g.F.Files.seen c.args.files.now) (g.F.Files.seen c.try_guard.new.files) out new (campaign_text tried) _ _ c.in_ok-tried.ensures.prepares
    (Puts-stopped out new (lines_of tried.tally) (named_text tried.guarded.guard.named) _ c.in_err-write_tally.ensures) p.2)

pub returns-in_err-write-clause-answers : goal.returns-in_err-write-clause-answers
returns-in_err-write-clause-answers g c =
    let p = err_from_is_err_and c.from_residual-in_err-write.result c.from_residual-in_err-write.ensures.1 in
    let out = g.O.Sink.seen c.args.out.now in
    let mid = g.O.Sink.seen c.write_tally.new.out in
    let new = g.O.Sink.seen c.write.new.out in
    let tried = c.in_ok-tried.tried in
    rw p.1 (write-stops (campaign c.args.settings.now c.args.netlist.now c.args.stimulus.now c.args.cycle) Done (g.F.Files.seen c.args.files.now) (g.F.Files.seen c.try_guard.new.files) out new (campaign_text tried) _ _ c.in_ok-tried.ensures.prepares
    (Puts-append out mid new (lines_of tried.tally) (named_text tried.guarded.guard.named) c.in_ok-write_tally.field-0 (put_answer {T = Unit {0}} (Err c.in_err-write.field-0.0)) c.in_ok-write_tally.ensures c.in_err-write.ensures.puts) p.2)

pub returns-clause-answers : goal.returns-clause-answers
returns-clause-answers g c =
    let out = g.O.Sink.seen c.args.out.now in
    let mid = g.O.Sink.seen c.write_tally.new.out in
    let new = g.O.Sink.seen c.write.new.out in
    let tried = c.in_ok-tried.tried in
    put-ends (campaign c.args.settings.now c.args.netlist.now c.args.stimulus.now c.args.cycle) Done (g.F.Files.seen c.args.files.now) (g.F.Files.seen c.try_guard.new.files) out new (campaign_text tried) _ c.in_ok-tried.ensures.prepares
    (Puts-append out mid new (lines_of tried.tally) (named_text tried.guarded.guard.named) c.in_ok-write_tally.field-0 (Ok c.in_ok-write.field-0) c.in_ok-write_tally.ensures c.in_ok-write.ensures.puts)

pub returns-in_err-tried-clause-own : goal.returns-in_err-tried-clause-own
returns-in_err-tried-clause-own g c =
    let p = err_from_is_err_and c.from_residual.result c.from_residual.ensures.1 in
    rw (p.1, p.2) c.in_err-tried.ensures.own

pub returns-in_err-write_tally-clause-own : goal.returns-in_err-write_tally-clause-own
returns-in_err-write_tally-clause-own g c =
    let p = err_from_is_err_and c.from_residual-in_err-write_tally.result c.from_residual-in_err-write_tally.ensures.1 in
    rw p.1 (keeps (g.F.Files.seen c.args.files.now) (g.F.Files.seen c.try_guard.new.files) (stop_answer p.0) c.in_ok-tried.ensures.own)

pub returns-in_err-write-clause-own : goal.returns-in_err-write-clause-own
returns-in_err-write-clause-own g c =
    let p = err_from_is_err_and c.from_residual-in_err-write.result c.from_residual-in_err-write.ensures.1 in
    rw p.1 (keeps (g.F.Files.seen c.args.files.now) (g.F.Files.seen c.try_guard.new.files) (stop_answer p.0) c.in_ok-tried.ensures.own)
