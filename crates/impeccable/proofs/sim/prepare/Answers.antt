-- Each step of the walk of `sim`, and what stops it there.
use Rattle.std.proofs.Common.{refl, ap, ◌∙◌, length}
use Rattle.std.proofs.lemmas.Result.{err_from_is_err_and}
use Rattle.imp_io.proofs.LoadLemmas.{IsLater-trans}
use Rattle.blif_read.specs.View.{file_of}
use Rattle.program_spec.specs.Commands.{sim}
use Rattle.program_spec.specs.Walk.{passes}
use Rattle.impeccable.specs.Ended.{stop_answer}
use Rattle.impeccable.proofs.LoadsLemmas.{own-earlier}
use Rattle.impeccable.proofs.OwnLemmas.{keeps}
use Rattle.impeccable.proofs.OrderedLemmas.{is-main, reads}
use Rattle.impeccable.proofs.SimLemmas.{faulty, in-order, is-sim-text, not-scripted, of_script, out-of-order, read, scripted, unread}
use Rattle.impeccable.proofs.StimulusLemmas.{driven, drives, not-driven}
use Rattle.impeccable.proofs.sim.prepare.Goals as goal

pub returns-in_err-file-clause-prepares : goal.returns-in_err-file-clause-prepares
returns-in_err-file-clause-prepares g c =
    let p = err_from_is_err_and c.from_residual.result c.from_residual.ensures.1 in
    rw (p.1, p.2) (unread c.args.netlist.now c.args.stimulus.now c.args.script.now (g.F.Files.seen c.args.files.now) (g.F.Files.seen c.load_netlist.new.files) _ c.in_err-file.ensures.file)

pub returns-in_err-sim-clause-prepares : goal.returns-in_err-sim-clause-prepares
returns-in_err-sim-clause-prepares g c =
    let p = err_from_is_err_and c.from_residual-in_err-sim.result c.from_residual-in_err-sim.ensures.1 in
    let old = g.F.Files.seen c.args.files.now in
    let file = file_of c.in_ok-file.file in
    let kept = read c.args.netlist.now c.args.stimulus.now c.args.script.now old file c.in_ok-file.ensures.file in
    rw p.1 (out-of-order c.args.netlist.now c.args.stimulus.now c.args.script.now old (g.F.Files.seen c.load_netlist.new.files) file _ _ kept c.in_err-sim.ensures.fault p.2)

pub returns-in_err-stimulus-clause-prepares : goal.returns-in_err-stimulus-clause-prepares
returns-in_err-stimulus-clause-prepares g c =
    let p = err_from_is_err_and c.from_residual-in_err-stimulus.result c.from_residual-in_err-stimulus.ensures.1 in
    let old = g.F.Files.seen c.args.files.now in
    let file = file_of c.in_ok-file.file in
    let simulates = c.in_ok-sim.ensures.simulates in
    let kept = read c.args.netlist.now c.args.stimulus.now c.args.script.now old file c.in_ok-file.ensures.file in
    let ordered = in-order c.args.netlist.now c.args.stimulus.now c.args.script.now old file simulates.ordered kept in
    rw (p.1, p.2) (not-driven (sim c.args.netlist.now c.args.stimulus.now c.args.script.now) c.args.stimulus.now (of_script c.args.script.now simulates.ordered.model) old simulates.ordered.model (g.F.Files.seen c.load_netlist.new.files) (g.F.Files.seen c.load_stimulus.new.files) c.inputs.result _ ordered c.in_ok-file.ensures.later (c.inputs.ensures ∙ ap length simulates.model.inputs) c.in_err-stimulus.ensures.stream)

pub returns-in_err-script-clause-prepares : goal.returns-in_err-script-clause-prepares
returns-in_err-script-clause-prepares g c =
    let p = err_from_is_err_and c.from_residual-in_err-script.result c.from_residual-in_err-script.ensures.1 in
    let old = g.F.Files.seen c.args.files.now in
    let mid = g.F.Files.seen c.load_netlist.new.files in
    let later = IsLater-trans old mid (g.F.Files.seen c.load_stimulus.new.files) c.in_ok-file.ensures.later c.in_ok-stimulus.ensures.later in
    let file = file_of c.in_ok-file.file in
    let simulates = c.in_ok-sim.ensures.simulates in
    let m = simulates.ordered.model in
    let xs = c.in_ok-stimulus.stimulus.cycles in
    let kept = read c.args.netlist.now c.args.stimulus.now c.args.script.now old file c.in_ok-file.ensures.file in
    let ordered = in-order c.args.netlist.now c.args.stimulus.now c.args.script.now old file simulates.ordered kept in
    let held = drives c.args.stimulus.now old mid c.inputs.result m xs c.in_ok-file.ensures.later (c.inputs.ensures ∙ ap length simulates.model.inputs) c.in_ok-stimulus.ensures.stream in
    let drove = driven (sim c.args.netlist.now c.args.stimulus.now c.args.script.now) c.args.stimulus.now (of_script c.args.script.now m) old m xs ordered held in
    rw (p.1, p.2) (not-scripted c.args.netlist.now c.args.stimulus.now c.args.script.now old (g.F.Files.seen c.load_stimulus.new.files) (g.F.Files.seen c.load_script.new.files) c.in_ok-sim.sim.cells m _ drove later simulates.model.cells c.in_err-script.ensures.faults)

pub returns-clause-prepares : goal.returns-clause-prepares
returns-clause-prepares g c = λ known.
    let old = g.F.Files.seen c.args.files.now in
    let mid = g.F.Files.seen c.load_netlist.new.files in
    let then = g.F.Files.seen c.load_stimulus.new.files in
    let later = IsLater-trans old mid then c.in_ok-file.ensures.later c.in_ok-stimulus.ensures.later in
    let file = file_of c.in_ok-file.file in
    let simulates = c.in_ok-sim.ensures.simulates in
    let m = simulates.ordered.model in
    let xs = c.in_ok-stimulus.stimulus.cycles in
    let said = c.in_ok-script.ensures.faults in
    let kept = read c.args.netlist.now c.args.stimulus.now c.args.script.now old file c.in_ok-file.ensures.file in
    let ordered = in-order c.args.netlist.now c.args.stimulus.now c.args.script.now old file simulates.ordered kept in
    let held = drives c.args.stimulus.now old mid c.inputs.result m xs c.in_ok-file.ensures.later (c.inputs.ensures ∙ ap length simulates.model.inputs) c.in_ok-stimulus.ensures.stream in
    let drove = driven (sim c.args.netlist.now c.args.stimulus.now c.args.script.now) c.args.stimulus.now (of_script c.args.script.now m) old m xs ordered held in
    let listed = faulty c.args.script.now old then c.in_ok-sim.sim.cells m said.0 later simulates.model.cells said.2 in
    let passed = scripted c.args.netlist.now c.args.stimulus.now c.args.script.now old m said.0 drove listed in
    (passed.verdict known passes refl, λ text is. is-sim-text _ _ _ file m xs said.0 text (is-main file simulates.ordered) (is file said.0 simulates said.1) (reads c.args.netlist.now old file c.in_ok-file.ensures.file known) (held known) (listed known))

pub returns-in_err-file-clause-own : goal.returns-in_err-file-clause-own
returns-in_err-file-clause-own g c =
    let p = err_from_is_err_and c.from_residual.result c.from_residual.ensures.1 in
    rw (p.1, p.2) c.in_err-file.ensures.own

pub returns-in_err-sim-clause-own : goal.returns-in_err-sim-clause-own
returns-in_err-sim-clause-own g c =
    let p = err_from_is_err_and c.from_residual-in_err-sim.result c.from_residual-in_err-sim.ensures.1 in
    rw p.1 (keeps (g.F.Files.seen c.args.files.now) (g.F.Files.seen c.load_netlist.new.files) (stop_answer p.0) c.in_ok-file.ensures.own)

pub returns-in_err-stimulus-clause-own : goal.returns-in_err-stimulus-clause-own
returns-in_err-stimulus-clause-own g c =
    let p = err_from_is_err_and c.from_residual-in_err-stimulus.result c.from_residual-in_err-stimulus.ensures.1 in
    rw (p.1, p.2) (own-earlier (g.F.Files.seen c.args.files.now) (g.F.Files.seen c.load_netlist.new.files) (g.F.Files.seen c.load_stimulus.new.files) _ c.in_ok-file.ensures.own c.in_err-stimulus.ensures.own)

pub returns-in_err-script-clause-own : goal.returns-in_err-script-clause-own
returns-in_err-script-clause-own g c =
    let p = err_from_is_err_and c.from_residual-in_err-script.result c.from_residual-in_err-script.ensures.1 in
    rw (p.1, p.2) (own-earlier (g.F.Files.seen c.args.files.now) (g.F.Files.seen c.load_stimulus.new.files) (g.F.Files.seen c.load_script.new.files) _ (λ n. c.in_ok-stimulus.ensures.own n ∙ c.in_ok-file.ensures.own n) c.in_err-script.ensures.own)

pub returns-in_err-inputs-clause-own : goal.returns-in_err-inputs-clause-own
returns-in_err-inputs-clause-own g c =
    let p = err_from_is_err_and c.from_residual-in_err-inputs.result c.from_residual-in_err-inputs.ensures.1 in
    rw p.1 (keeps (g.F.Files.seen c.args.files.now) (g.F.Files.seen c.load_script.new.files) (stop_answer p.0) (λ n. c.in_ok-script.ensures.own n ∙ (c.in_ok-stimulus.ensures.own n ∙ c.in_ok-file.ensures.own n)))

pub returns-in_err-outputs-clause-own : goal.returns-in_err-outputs-clause-own
returns-in_err-outputs-clause-own g c =
    let p = err_from_is_err_and c.from_residual-in_err-outputs.result c.from_residual-in_err-outputs.ensures.1 in
    rw p.1 (keeps (g.F.Files.seen c.args.files.now) (g.F.Files.seen c.load_script.new.files) (stop_answer p.0) (λ n. c.in_ok-script.ensures.own n ∙ (c.in_ok-stimulus.ensures.own n ∙ c.in_ok-file.ensures.own n)))

pub returns-clause-own : goal.returns-clause-own
returns-clause-own g c = λ n. c.in_ok-script.ensures.own n ∙ (c.in_ok-stimulus.ensures.own n ∙ c.in_ok-file.ensures.own n)

pub returns-in_err-script-clause-later : goal.returns-in_err-script-clause-later
returns-in_err-script-clause-later g c =
    let old = g.F.Files.seen c.args.files.now in
    let mid = g.F.Files.seen c.load_netlist.new.files in
    let then = g.F.Files.seen c.load_stimulus.new.files in
    IsLater-trans old then (g.F.Files.seen c.load_script.new.files) (IsLater-trans old mid then c.in_ok-file.ensures.later c.in_ok-stimulus.ensures.later) c.in_err-script.ensures.later

pub returns-in_err-inputs-clause-later : goal.returns-in_err-inputs-clause-later
returns-in_err-inputs-clause-later g c =
    let old = g.F.Files.seen c.args.files.now in
    let mid = g.F.Files.seen c.load_netlist.new.files in
    let then = g.F.Files.seen c.load_stimulus.new.files in
    IsLater-trans old then (g.F.Files.seen c.load_script.new.files) (IsLater-trans old mid then c.in_ok-file.ensures.later c.in_ok-stimulus.ensures.later) c.in_ok-script.ensures.later

pub returns-in_err-outputs-clause-later : goal.returns-in_err-outputs-clause-later
returns-in_err-outputs-clause-later g c =
    let old = g.F.Files.seen c.args.files.now in
    let mid = g.F.Files.seen c.load_netlist.new.files in
    let then = g.F.Files.seen c.load_stimulus.new.files in
    IsLater-trans old then (g.F.Files.seen c.load_script.new.files) (IsLater-trans old mid then c.in_ok-file.ensures.later c.in_ok-stimulus.ensures.later) c.in_ok-script.ensures.later

pub returns-clause-later : goal.returns-clause-later
returns-clause-later g c =
    let old = g.F.Files.seen c.args.files.now in
    let mid = g.F.Files.seen c.load_netlist.new.files in
    let then = g.F.Files.seen c.load_stimulus.new.files in
    IsLater-trans old then (g.F.Files.seen c.load_script.new.files) (IsLater-trans old mid then c.in_ok-file.ensures.later c.in_ok-stimulus.ensures.later) c.in_ok-script.ensures.later
