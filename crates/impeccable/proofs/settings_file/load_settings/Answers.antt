-- The load, and the reading.
use Rattle.std.proofs.Common.{◌≡◌, Ok, length, ◌≤◌, refl}
use Rattle.std.proofs.lemmas.Result.{err_from_is_err_and}
use Rattle.guard_spec.specs.SettingsFile.{SettingsFault, settings_of_bytes}
use Rattle.guard_spec.specs.Words.{Settings}
use Rattle.program_spec.specs.Commands.{other_limit}
use Rattle.program_spec.specs.Refusals.{bad_settings}
use Rattle.program_spec.specs.Steps.{settings_in}
use Rattle.impeccable.specs.Ended.{stop_answer}
use Rattle.impeccable.proofs.LoadsLemmas.{fault-stops-tested, held-loaded, load-stops-tested}
use Rattle.impeccable.proofs.OwnLemmas.{keeps}
use Rattle.impeccable.proofs.StepLemmas.{is-settings-fault}
use Rattle.impeccable.proofs.settings_file.load_settings.Goals as goal

pub returns-in_err-bytes-clause-settings : goal.returns-in_err-bytes-clause-settings
returns-in_err-bytes-clause-settings g c =
    let p = err_from_is_err_and c.from_residual.result c.from_residual.ensures.1 in
    rw (p.1, p.2) (load-stops-tested Settings (g.F.Files.seen c.args.files.now) (g.F.Files.seen c.load_named.new.files) c.args.settings.now other_limit settings_in _ c.in_err-bytes.ensures.named)

pub returns-in_err-settings-clause-settings : goal.returns-in_err-settings-clause-settings
returns-in_err-settings-clause-settings g c =
    let p = err_from_is_err_and c.from_residual-in_err-settings.result c.from_residual-in_err-settings.ensures.1 in
    let named = c.in_ok-bytes.ensures.named in
    let bytes = c.in_ok-bytes.bytes.items in
    rw p.1 (fault-stops-tested Settings SettingsFault (g.F.Files.seen c.args.files.now) (g.F.Files.seen c.load_named.new.files) c.args.settings.now other_limit settings_in bytes bad_settings _ _ named.0 named.1 (λ f e. (f, is-settings-fault (settings_of_bytes bytes) _ (rw c.deref.ensures.value at c.in_err-settings.ensures.err) f e, refl)) (λ f. tt) p.2)

pub returns-clause-settings : goal.returns-clause-settings
returns-clause-settings g c =
    let s = c.in_ok-settings.settings in
    let named = c.in_ok-bytes.ensures.named in
    (s, refl, held-loaded (g.F.Files.seen c.args.files.now) c.args.settings.now c.in_ok-bytes.bytes.items (λ b. (length b ≤ other_limit) × (settings_of_bytes b ≡ Ok s)) named.1 (named.0, rw c.deref.ensures.value at c.in_ok-settings.ensures.ok))

pub returns-in_err-bytes-clause-own : goal.returns-in_err-bytes-clause-own
returns-in_err-bytes-clause-own g c =
    let p = err_from_is_err_and c.from_residual.result c.from_residual.ensures.1 in
    rw (p.1, p.2) c.in_err-bytes.ensures.own

pub returns-in_err-settings-clause-own : goal.returns-in_err-settings-clause-own
returns-in_err-settings-clause-own g c =
    let p = err_from_is_err_and c.from_residual-in_err-settings.result c.from_residual-in_err-settings.ensures.1 in
    rw p.1 (keeps (g.F.Files.seen c.args.files.now) (g.F.Files.seen c.load_named.new.files) (stop_answer p.0) c.in_ok-bytes.ensures.own)
