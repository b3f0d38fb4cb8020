use Rattle.std.proofs.Common.{sym, subst, ℕ, ◌+◌, ◌≤◌, List}
use Rattle.std.specs.Prelude.{IfOk}
use Rattle.std.proofs.lemmas.Result.{IfOk-weaker}
use Rattle.netlist_spec.specs.GateRanges.{Region}
use Rattle.guard_spec.specs.Codes.{correct, detect, rail_count}
use Rattle.guard_spec.specs.Plain.{IsMachineSizeWith}
use Rattle.guard_spec.specs.Words.{Settings}
use Rattle.guard_laws.specs.Promised.{IsGuardOf}
use Rattle.guard_net.specs.Promised.{IsDetectingGuard}
use Rattle.correction_net.specs.Promised.{IsCorrectingGuard}
use Rattle.guard_names.specs.ToName.{guarded_of}
use Rattle.settings.specs.Types.{mode_in, settings_in}
use Rattle.settings.specs.declared.types.Mode.{Mode as ReadMode}
use Rattle.guard_source.proofs.gates.build_for.Goals as goal

pub build-requires-clause-size : goal.build-requires-clause-size
build-requires-clause-size c =
    let m = c.args.m.now in
    let l = c.args.l.now in
    let s = settings_in c.s.inside in
    let held = subst (λ (x : Settings). (n : ℕ) × IsMachineSizeWith m x.code x.mode x.bound (rail_count x.mode x.bound) l n × (n ≤ 1000000)) (sym c.s.view_is) c.requires.size in
    subst (λ (k : ReadMode). (n : ℕ) × IsMachineSizeWith m s.code (mode_in k) s.bound (rail_count (mode_in k) s.bound) l n × (n ≤ 1000000)) c.in-Detect.is held

pub returns-in-Detect : goal.returns-in-Detect
returns-in-Detect c =
    let m = c.args.m.now in
    let l = c.args.l.now in
    let s = settings_in c.s.inside in
    subst (λ (x : Settings). IfOk c.build.result (λ g. (regions : List Region) × IsGuardOf (guarded_of g m.inputs regions) m x.code x.mode x.bound (rail_count x.mode x.bound) l)) c.s.view_is
    (subst (λ (k : ReadMode). IfOk c.build.result (λ g. (regions : List Region) × IsGuardOf (guarded_of g m.inputs regions) m s.code (mode_in k) s.bound (rail_count (mode_in k) s.bound) l)) (sym c.in-Detect.is)
    (IfOk-weaker c.build.result (λ g. (regions : List Region) × IsDetectingGuard (guarded_of g m.inputs regions) m s.code s.bound l) (λ g. (regions : List Region) × IsGuardOf (guarded_of g m.inputs regions) m s.code detect s.bound (s.bound + 1) l) (λ g is. (is.0, is.1.guard s.bound)) c.build.ensures.guard))

pub returns-in-Correct : goal.returns-in-Correct
returns-in-Correct c =
    let m = c.args.m.now in
    let l = c.args.l.now in
    let s = settings_in c.s.inside in
    subst (λ (x : Settings). IfOk c.build_correcting.result (λ g. (regions : List Region) × IsGuardOf (guarded_of g m.inputs regions) m x.code x.mode x.bound (rail_count x.mode x.bound) l)) c.s.view_is
    (subst (λ (k : ReadMode). IfOk c.build_correcting.result (λ g. (regions : List Region) × IsGuardOf (guarded_of g m.inputs regions) m s.code (mode_in k) s.bound (rail_count (mode_in k) s.bound) l)) (sym c.in-Correct.is)
    (IfOk-weaker c.build_correcting.result (λ g. (regions : List Region) × IsCorrectingGuard (guarded_of g m.inputs regions) m s.code s.bound l) (λ g. (regions : List Region) × IsGuardOf (guarded_of g m.inputs regions) m s.code correct s.bound 0 l) (λ g is. (is.0, is.1.guard)) c.build_correcting.ensures.guard))
