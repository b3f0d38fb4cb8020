-- The load, and the reading for the cells of a simulator.
use Rattle.std.proofs.Common.{◌≡◌, length, ◌≤◌, List, Ok}
use Rattle.std.proofs.lemmas.Result.{err_from_is_err_and}
use Rattle.netlist_spec.specs.Runs.{Fault}
use Rattle.stimulus_spec.specs.Stimulus.{ScriptFault, script_of}
use Rattle.program_spec.specs.Commands.{other_limit}
use Rattle.program_spec.specs.Refusals.{bad_script_line}
use Rattle.program_spec.specs.Steps.{gives}
use Rattle.impeccable.specs.Ended.{stop_answer}
use Rattle.impeccable.proofs.LoadsLemmas.{held-loaded, load-stops-tested}
use Rattle.impeccable.proofs.OwnLemmas.{keeps}
use Rattle.impeccable.proofs.SimLemmas.{script-stops}
use Rattle.impeccable.proofs.sim.load_script.Goals as goal

pub returns-in_err-bytes-clause-faults : goal.returns-in_err-bytes-clause-faults
returns-in_err-bytes-clause-faults g c =
    let p = err_from_is_err_and c.from_residual.result c.from_residual.ensures.1 in
    rw (p.1, p.2) (load-stops-tested (List Fault) (g.F.Files.seen c.args.files.now) (g.F.Files.seen c.load_named.new.files) c.args.script.now other_limit (λ bytes. gives (List Fault) ScriptFault (script_of c.args.sim.now.cells bytes) bad_script_line) _ c.in_err-bytes.ensures.named)

pub returns-in_err-script-clause-faults : goal.returns-in_err-script-clause-faults
returns-in_err-script-clause-faults g c =
    let p = err_from_is_err_and c.from_residual-in_err-script.result c.from_residual-in_err-script.ensures.1 in
    let named = c.in_ok-bytes.ensures.named in
    rw p.1 (script-stops (g.F.Files.seen c.args.files.now) (g.F.Files.seen c.load_named.new.files) c.args.script.now c.args.sim.now.cells c.in_ok-bytes.bytes.items _ _ named.0 named.1 (rw c.deref.ensures.value at c.in_err-script.ensures.fault) p.2)

pub returns-clause-faults : goal.returns-clause-faults
returns-clause-faults g c =
    let is = rw c.deref.ensures.value at c.in_ok-script.ensures.ok in
    let named = c.in_ok-bytes.ensures.named in
    (is.faults, is.has, held-loaded (g.F.Files.seen c.args.files.now) c.args.script.now c.in_ok-bytes.bytes.items (λ b. (length b ≤ other_limit) × (script_of c.args.sim.now.cells b ≡ Ok is.faults)) named.1 (named.0, is.is_said))

pub returns-in_err-bytes-clause-own : goal.returns-in_err-bytes-clause-own
returns-in_err-bytes-clause-own g c =
    let p = err_from_is_err_and c.from_residual.result c.from_residual.ensures.1 in
    rw (p.1, p.2) c.in_err-bytes.ensures.own

pub returns-in_err-script-clause-own : goal.returns-in_err-script-clause-own
returns-in_err-script-clause-own g c =
    let p = err_from_is_err_and c.from_residual-in_err-script.result c.from_residual-in_err-script.ensures.1 in
    rw p.1 (keeps (g.F.Files.seen c.args.files.now) (g.F.Files.seen c.load_named.new.files) (stop_answer p.0) c.in_ok-bytes.ensures.own)
