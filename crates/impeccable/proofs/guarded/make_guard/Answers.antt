-- Each step of a guard, and what stops a command that begins with it there.
use Rattle.std.proofs.Common.{ℕ, ap, subst, ◌<◌, ◌∙◌}
use Rattle.std.proofs.lemmas.Result.{err_from_is_err_and}
use Rattle.imp_io.proofs.LoadLemmas.{IsLater-trans}
use Rattle.blif_read.specs.View.{file_of}
use Rattle.program_spec.specs.ErrorLines.{refused}
use Rattle.program_spec.specs.Refusals.{too_small}
use Rattle.impeccable.proofs.CodeLemmas.{what-is-read}
use Rattle.impeccable.proofs.GuardLemmas.{not_guarded, read, read-later, ready, settled, small, unread, unsettled, weak}
use Rattle.impeccable.proofs.LoadsLemmas.{held-short}
use Rattle.impeccable.proofs.guarded.make_guard.Goals as goal

pub returns-in_err-settings-clause-guard : goal.returns-in_err-settings-clause-guard
returns-in_err-settings-clause-guard g c =
    let p = err_from_is_err_and c.from_residual.result c.from_residual.ensures.1 in
    rw (p.1, p.2) (λ command is. unsettled c.args.settings.now c.args.netlist.now command is (g.F.Files.seen c.args.files.now) (g.F.Files.seen c.load_settings.new.files) _ c.in_err-settings.ensures.settings)

pub returns-in_err-strength-clause-guard : goal.returns-in_err-strength-clause-guard
returns-in_err-strength-clause-guard g c =
    let p = err_from_is_err_and c.from_residual-in_err-strength.result c.from_residual-in_err-strength.ensures.1 in
    let old = g.F.Files.seen c.args.files.now in
    let s = c.in_ok-settings.settings in
    let d = c.in_err-strength.field-0.0.d in
    let told = c.in_err-strength.ensures in
    rw p.1 (λ command is.
    let at = settled c.args.settings.now c.args.netlist.now command is old s (what-is-read c.args.settings.now old s c.in_ok-settings.ensures.settings) in
    weak c.args.settings.now c.args.netlist.now command is old (g.F.Files.seen c.load_settings.new.files) s d _ at told.too_small (subst (λ (n : ℕ). d < n) told.need told.below) (p.2 ∙ ap (λ (n : ℕ). refused (too_small d n)) told.need))

pub returns-in_err-file-clause-guard : goal.returns-in_err-file-clause-guard
returns-in_err-file-clause-guard g c =
    let p = err_from_is_err_and c.from_residual-in_err-file.result c.from_residual-in_err-file.ensures.1 in
    let old = g.F.Files.seen c.args.files.now in
    let mid = g.F.Files.seen c.load_settings.new.files in
    let s = c.in_ok-settings.settings in
    let held = what-is-read c.args.settings.now old s c.in_ok-settings.ensures.settings in
    rw (p.1, p.2) (λ command is.
    let at = ready c.args.settings.now c.args.netlist.now command is old s c.in_ok-strength.field-0 held c.in_ok-strength.ensures.ok c.in_ok-strength.ensures.enough in
    unread c.args.settings.now c.args.netlist.now command is old mid (g.F.Files.seen c.load_netlist.new.files) s _ at c.in_ok-settings.ensures.later c.in_err-file.ensures.file)

pub returns-in_err-guard-clause-guard : goal.returns-in_err-guard-clause-guard
returns-in_err-guard-clause-guard g c =
    let p = err_from_is_err_and c.from_residual-in_err-guard.result c.from_residual-in_err-guard.ensures.1 in
    let old = g.F.Files.seen c.args.files.now in
    let mid = g.F.Files.seen c.load_settings.new.files in
    let s = c.in_ok-settings.settings in
    let file = file_of c.in_ok-file.file in
    let held = what-is-read c.args.settings.now old s c.in_ok-settings.ensures.settings in
    let source = read-later c.args.netlist.now old mid file c.in_ok-settings.ensures.later c.in_ok-file.ensures.file in
    rw p.1 (λ command is.
    let at = ready c.args.settings.now c.args.netlist.now command is old s c.in_ok-strength.field-0 held c.in_ok-strength.ensures.ok c.in_ok-strength.ensures.enough in
    not_guarded c.args.settings.now c.args.netlist.now command is old (g.F.Files.seen c.load_netlist.new.files) s file _ _ (read c.args.settings.now c.args.netlist.now command is old s file at source) c.in_err-guard.ensures.refused p.2)

pub returns-clause-guard : goal.returns-clause-guard
returns-clause-guard g c =
    let old = g.F.Files.seen c.args.files.now in
    let mid = g.F.Files.seen c.load_settings.new.files in
    let s = c.in_ok-settings.settings in
    let file = file_of c.in_ok-file.file in
    let held = what-is-read c.args.settings.now old s c.in_ok-settings.ensures.settings in
    let source = read-later c.args.netlist.now old mid file c.in_ok-settings.ensures.later c.in_ok-file.ensures.file in
    let made = c.in_ok-guard.ensures.made in
    record {
      source = file;
      are_settings = held-short old c.args.settings.now _ _ held;
      is_source = held-short old c.args.netlist.now _ _ source;
      made = made;
      text = c.in_ok-guard.ensures.guard;
      passed = λ command is.
          let at = ready c.args.settings.now c.args.netlist.now command is old s c.in_ok-strength.field-0 held c.in_ok-strength.ensures.ok c.in_ok-strength.ensures.enough in
          small c.args.settings.now c.args.netlist.now command is old s file made.from.m (read c.args.settings.now c.args.netlist.now command is old s file at source) c.in_ok-guard.ensures.small made.from.is_main;
    }

pub returns-clause-own : goal.returns-clause-own
returns-clause-own g c = λ n. c.in_ok-file.ensures.own n ∙ c.in_ok-settings.ensures.own n

pub returns-clause-later : goal.returns-clause-later
returns-clause-later g c =
    IsLater-trans (g.F.Files.seen c.args.files.now) (g.F.Files.seen c.load_settings.new.files) (g.F.Files.seen c.load_netlist.new.files) c.in_ok-settings.ensures.later c.in_ok-file.ensures.later
