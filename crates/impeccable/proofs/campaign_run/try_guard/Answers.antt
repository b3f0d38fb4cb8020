-- Each step of the walk of `campaign`, and what stops it there.
use Rattle.std.proofs.Common.{refl, ap, ◌∙◌}
use Rattle.std.proofs.lemmas.Result.{err_from_is_err_and}
use Rattle.imp_io.proofs.LoadLemmas.{IsLater-trans}
use Rattle.guard_source.specs.declared.source.SourceGuard.{SourceGuard}
use Rattle.program_spec.specs.Commands.{campaign}
use Rattle.program_spec.specs.Walk.{end}
use Rattle.impeccable.specs.Ended.{stop_answer}
use Rattle.impeccable.proofs.CampaignLemmas.{campaign-prepared, inputs-are}
use Rattle.impeccable.proofs.LoadsLemmas.{own-earlier}
use Rattle.impeccable.proofs.OwnLemmas.{keeps}
use Rattle.impeccable.proofs.StepLemmas.{memory-stops}
use Rattle.impeccable.proofs.StimulusLemmas.{drives, not-driven}
use Rattle.impeccable.proofs.campaign_run.try_guard.Goals as goal

pub tally_guard-requires-clause-made : goal.tally_guard-requires-clause-made
tally_guard-requires-clause-made g c =
    let made = c.in_ok-guarded.ensures.guard in
    (made.source, made.made)

pub returns-in_err-guarded-clause-prepares : goal.returns-in_err-guarded-clause-prepares
returns-in_err-guarded-clause-prepares g c =
    let p = err_from_is_err_and c.from_residual.result c.from_residual.ensures.1 in
    rw (p.1, p.2) (c.in_err-guarded.ensures.guard (campaign c.args.settings.now c.args.netlist.now c.args.stimulus.now c.args.cycle) (refl, refl))

pub returns-in_err-stimulus-clause-prepares : goal.returns-in_err-stimulus-clause-prepares
returns-in_err-stimulus-clause-prepares g c =
    let p = err_from_is_err_and c.from_residual-in_err-stimulus.result c.from_residual-in_err-stimulus.ensures.1 in
    let old = g.F.Files.seen c.args.files.now in
    let command = campaign c.args.settings.now c.args.netlist.now c.args.stimulus.now c.args.cycle in
    let guarded = c.in_ok-guarded.guarded in
    let made = c.in_ok-guarded.ensures.guard in
    let inputs = ap (λ (k : SourceGuard). k.machine.inputs) c.guard.view_is ∙ inputs-are c.args.settings.now c.args.netlist.now old guarded made in
    rw (p.1, p.2) (not-driven command c.args.stimulus.now end old made.made.from.m (g.F.Files.seen c.make_guard.new.files) (g.F.Files.seen c.load_stimulus.new.files) _ _ (made.passed command (refl, refl)) c.in_ok-guarded.ensures.later inputs c.in_err-stimulus.ensures.stream)

pub returns-in_err-tally-clause-prepares : goal.returns-in_err-tally-clause-prepares
returns-in_err-tally-clause-prepares g c =
    let p = err_from_is_err_and c.from_residual-in_err-tally.result c.from_residual-in_err-tally.ensures.1 in
    rw p.1 (memory-stops (campaign c.args.settings.now c.args.netlist.now c.args.stimulus.now c.args.cycle) (g.F.Files.seen c.args.files.now) (g.F.Files.seen c.load_stimulus.new.files) p.0 p.2)

pub returns-clause-prepares : goal.returns-clause-prepares
returns-clause-prepares g c =
    let old = g.F.Files.seen c.args.files.now in
    let guarded = c.in_ok-guarded.guarded in
    let made = c.in_ok-guarded.ensures.guard in
    let xs = c.in_ok-stimulus.stimulus.cycles in
    let inputs = ap (λ (k : SourceGuard). k.machine.inputs) c.guard.view_is ∙ inputs-are c.args.settings.now c.args.netlist.now old guarded made in
    let held = drives c.args.stimulus.now old (g.F.Files.seen c.make_guard.new.files) _ made.made.from.m xs c.in_ok-guarded.ensures.later inputs c.in_ok-stimulus.ensures.stream in
    campaign-prepared c.args.settings.now c.args.netlist.now old guarded made c.args.stimulus.now c.args.cycle xs c.in_ok-tally.tally c.tallies_make_a_text.ensures held c.in_ok-tally.ensures

pub returns-in_err-guarded-clause-own : goal.returns-in_err-guarded-clause-own
returns-in_err-guarded-clause-own g c =
    let p = err_from_is_err_and c.from_residual.result c.from_residual.ensures.1 in
    rw (p.1, p.2) c.in_err-guarded.ensures.own

pub returns-in_err-stimulus-clause-own : goal.returns-in_err-stimulus-clause-own
returns-in_err-stimulus-clause-own g c =
    let p = err_from_is_err_and c.from_residual-in_err-stimulus.result c.from_residual-in_err-stimulus.ensures.1 in
    rw (p.1, p.2) (own-earlier (g.F.Files.seen c.args.files.now) (g.F.Files.seen c.make_guard.new.files) (g.F.Files.seen c.load_stimulus.new.files) _ c.in_ok-guarded.ensures.own c.in_err-stimulus.ensures.own)

pub returns-in_err-tally-clause-own : goal.returns-in_err-tally-clause-own
returns-in_err-tally-clause-own g c =
    let p = err_from_is_err_and c.from_residual-in_err-tally.result c.from_residual-in_err-tally.ensures.1 in
    rw p.1 (keeps (g.F.Files.seen c.args.files.now) (g.F.Files.seen c.load_stimulus.new.files) (stop_answer p.0) (λ n. c.in_ok-stimulus.ensures.own n ∙ c.in_ok-guarded.ensures.own n))

pub returns-clause-own : goal.returns-clause-own
returns-clause-own g c = λ n. c.in_ok-stimulus.ensures.own n ∙ c.in_ok-guarded.ensures.own n

pub returns-in_err-stimulus-clause-later : goal.returns-in_err-stimulus-clause-later
returns-in_err-stimulus-clause-later g c =
    IsLater-trans (g.F.Files.seen c.args.files.now) (g.F.Files.seen c.make_guard.new.files) (g.F.Files.seen c.load_stimulus.new.files) c.in_ok-guarded.ensures.later c.in_err-stimulus.ensures.later

pub returns-in_err-tally-clause-later : goal.returns-in_err-tally-clause-later
returns-in_err-tally-clause-later g c =
    IsLater-trans (g.F.Files.seen c.args.files.now) (g.F.Files.seen c.make_guard.new.files) (g.F.Files.seen c.load_stimulus.new.files) c.in_ok-guarded.ensures.later c.in_ok-stimulus.ensures.later

pub returns-clause-later : goal.returns-clause-later
returns-clause-later g c =
    IsLater-trans (g.F.Files.seen c.args.files.now) (g.F.Files.seen c.make_guard.new.files) (g.F.Files.seen c.load_stimulus.new.files) c.in_ok-guarded.ensures.later c.in_ok-stimulus.ensures.later
