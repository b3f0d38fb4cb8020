-- The load, and the reading for so many data inputs.
use Rattle.std.proofs.Common.{◌≡◌, length, ◌≤◌, ℕ, Ok, refl}
use Rattle.std.proofs.lemmas.Result.{err_from_is_err_and}
use Rattle.netlist_spec.specs.SourceRun.{Stream}
use Rattle.stimulus_spec.specs.Stimulus.{stimulus_of}
use Rattle.program_spec.specs.Commands.{other_limit}
use Rattle.program_spec.specs.Refusals.{bad_stimulus}
use Rattle.program_spec.specs.Steps.{gives}
use Rattle.impeccable.specs.Ended.{stop_answer}
use Rattle.impeccable.proofs.LoadsLemmas.{held-loaded, load-stops-tested}
use Rattle.impeccable.proofs.OwnLemmas.{keeps}
use Rattle.impeccable.proofs.StimulusLemmas.{stimulus-stops}
use Rattle.impeccable.proofs.stimulus_file.load_stimulus.Goals as goal

pub returns-in_err-bytes-clause-stream : goal.returns-in_err-bytes-clause-stream
returns-in_err-bytes-clause-stream g c =
    let p = err_from_is_err_and c.from_residual.result c.from_residual.ensures.1 in
    rw (p.1, p.2) (load-stops-tested Stream (g.F.Files.seen c.args.files.now) (g.F.Files.seen c.load_named.new.files) c.args.stimulus.now other_limit (λ bytes. gives Stream ℕ (stimulus_of c.args.inputs bytes) bad_stimulus) _ c.in_err-bytes.ensures.named)

pub returns-in_err-stimulus-clause-stream : goal.returns-in_err-stimulus-clause-stream
returns-in_err-stimulus-clause-stream g c =
    let p = err_from_is_err_and c.from_residual-in_err-stimulus.result c.from_residual-in_err-stimulus.ensures.1 in
    let named = c.in_ok-bytes.ensures.named in
    rw p.1 (stimulus-stops (g.F.Files.seen c.args.files.now) (g.F.Files.seen c.load_named.new.files) c.args.stimulus.now c.args.inputs c.in_ok-bytes.bytes.items _ _ named.0 named.1 (rw c.deref.ensures.value at c.in_err-stimulus.ensures.fault) p.2)

pub returns-clause-stream : goal.returns-clause-stream
returns-clause-stream g c =
    let cycles = c.in_ok-stimulus.stimulus.cycles in
    let named = c.in_ok-bytes.ensures.named in
    (cycles, refl, held-loaded (g.F.Files.seen c.args.files.now) c.args.stimulus.now c.in_ok-bytes.bytes.items (λ b. (length b ≤ other_limit) × (stimulus_of c.args.inputs b ≡ Ok cycles)) named.1 (named.0, rw c.deref.ensures.value at c.in_ok-stimulus.ensures.ok))

pub returns-in_err-bytes-clause-own : goal.returns-in_err-bytes-clause-own
returns-in_err-bytes-clause-own g c =
    let p = err_from_is_err_and c.from_residual.result c.from_residual.ensures.1 in
    rw (p.1, p.2) c.in_err-bytes.ensures.own

pub returns-in_err-stimulus-clause-own : goal.returns-in_err-stimulus-clause-own
returns-in_err-stimulus-clause-own g c =
    let p = err_from_is_err_and c.from_residual-in_err-stimulus.result c.from_residual-in_err-stimulus.ensures.1 in
    rw p.1 (keeps (g.F.Files.seen c.args.files.now) (g.F.Files.seen c.load_named.new.files) (stop_answer p.0) c.in_ok-bytes.ensures.own)
