use Rattle.std.proofs.Common.{◌≡◌, sym, subst, ℕ, ◌≤◌, List, Ok, arith}
use Rattle.std.proofs.lemmas.List.{length-map}
use Rattle.netlist_spec.specs.Elaborated.{Elaborated}
use Rattle.netlist_spec.specs.GateRanges.{Region}
use Rattle.guard_laws.specs.Promised.{IsGuardOf}
use Rattle.guard_spec.specs.Codes.{Mode, IsDistance, correct, data_places, detect, needed_distance, rail_count}
use Rattle.guard_spec.specs.Plain.{IsMachineSizeWith}
use Rattle.guard_spec.specs.SettingsFile.{settings_of_bytes}
use Rattle.guard_spec.specs.Words.{Settings}
use Rattle.gate_net.specs.Machine.{latch_row}
use Rattle.blif_read.specs.View.{file_of}
use Rattle.settings.specs.Types.{settings_in}
use Rattle.guard_names.specs.ToName.{guarded_of}
use Rattle.guard_source.specs.Made.{IsGuardMade}
use Rattle.guard_source.specs.Settled.{IsSettled}
use Rattle.guard_source.proofs.MadeLemmas.{elaborated_by, guard_seen, made, over, state, state_names, to_name}
use Rattle.guard_source.proofs.source.make.Goals as goal

-- there are few rails in either mode
few_rails : (mode : Mode) (t : ℕ) → t ≤ 16 → rail_count mode t ≤ 17
few_rails detect t few = omega arith
few_rails correct t few = omega arith

pub build_for-requires-clause-size : goal.build_for-requires-clause-size
build_for-requires-clause-size c =
    let file = file_of c.args.file in
    let s = settings_in c.s.inside in
    let l = c.args.layout in
    let e = c.in_ok-e.e in
    let settled = subst (λ (x : Settings). IsSettled file x l) (sym c.s.view_is) c.requires.settled in
    let elaborated = elaborated_by file _ c.s.inside.tables.items _ c.s.inside.linears.items settled.m e c.deref.ensures.value c.deref-2.ensures.value (c.in_ok-e.ensures.elaborated settled.m settled.laid_out.taken.main) in
    let fits = c.machines_have_one_size.ensures.source file s.library settled.m e.machine s l elaborated.machine settled.laid_out.is_layout in
    let one = c.machines_have_one_size.ensures.with e.machine s.code s.mode s.bound (rail_count s.mode s.bound) l fits in
    let less = c.machines_cost_no_more.ensures file s.library settled.m e.machine s.code s.mode s.bound (rail_count s.mode s.bound) (data_places s.code) l one.0 settled.n elaborated.machine (state file s l settled e elaborated) one.1.holds settled.is_plain in
    let small = settled.small in
    let seen = subst (λ (x : Elaborated). IsMachineSizeWith x.machine s.code s.mode s.bound (rail_count s.mode s.bound) l one.0) (sym c.e.view_is) one.1.holds in (
      one.0,
      subst (λ (x : Settings). IsMachineSizeWith c.e.inside.machine x.code x.mode x.bound (rail_count x.mode x.bound) l one.0) c.s.view_is seen,
      omega (arith, less, small),
    )

pub name_guard-requires-clause-guard : goal.name_guard-requires-clause-guard
name_guard-requires-clause-guard c =
    let s = settings_in c.s.inside in
    let e = c.in_ok-e.e in
    let l = c.args.layout in
    let g = c.in_ok-nets.nets in
    let built = subst (λ (x : Settings). (regions : List Region) × IsGuardOf (guarded_of g c.e.inside.machine.inputs regions) c.e.inside.machine x.code x.mode x.bound (rail_count x.mode x.bound) l) (sym c.s.view_is) c.in_ok-nets.ensures in
    to_name g built.0 e s.code s.mode s.bound (rail_count s.mode s.bound) l (guard_seen g built.0 _ e s.code s.mode s.bound (rail_count s.mode s.bound) l c.e.view_is built.1)

pub name_guard-requires-clause-cells : goal.name_guard-requires-clause-cells
name_guard-requires-clause-cells c =
    let file = file_of c.args.file in
    let s = settings_in c.s.inside in
    let l = c.args.layout in
    let e = c.in_ok-e.e in
    let g = c.in_ok-nets.nets in
    let settled = subst (λ (x : Settings). IsSettled file x l) (sym c.s.view_is) c.requires.settled in
    let elaborated = elaborated_by file _ c.s.inside.tables.items _ c.s.inside.linears.items settled.m e c.deref.ensures.value c.deref-2.ensures.value (c.in_ok-e.ensures.elaborated settled.m settled.laid_out.taken.main) in
    let built = subst (λ (x : Settings). (regions : List Region) × IsGuardOf (guarded_of g c.e.inside.machine.inputs regions) c.e.inside.machine x.code x.mode x.bound (rail_count x.mode x.bound) l) (sym c.s.view_is) c.in_ok-nets.ensures in
    let guard = guard_seen g built.0 _ e s.code s.mode s.bound (rail_count s.mode s.bound) l c.e.view_is built.1 in
    let few = c.steps_make_a_guard.ensures.cells file s s.bound settled.n settled.m e l (guarded_of g e.machine.inputs built.0) elaborated (over file s l settled e elaborated) (state_names file s l settled e elaborated) settled.is_plain guard in
    let count = length-map g.latches.items latch_row in
    let small = settled.small in
    omega (arith, few, count, small)

pub name_guard-requires-clause-rails : goal.name_guard-requires-clause-rails
name_guard-requires-clause-rails c =
    let s = settings_in c.s.inside in
    let g = c.in_ok-nets.nets in
    let built = subst (λ (x : Settings). (regions : List Region) × IsGuardOf (guarded_of g c.e.inside.machine.inputs regions) c.e.inside.machine x.code x.mode x.bound (rail_count x.mode x.bound) c.args.layout) (sym c.s.view_is) c.in_ok-nets.ensures in
    let rails = built.1.rail_number in
    let few = few_rails s.mode s.bound c.s.invariant.bound.1 in
    omega (arith, rails, few)

pub returns-clause-made : goal.returns-clause-made
returns-clause-made c =
    let file = file_of c.args.file in
    let s = settings_in c.s.inside in
    let l = c.args.layout in
    let e = c.in_ok-e.e in
    let g = c.in_ok-nets.nets in
    let settled = subst (λ (x : Settings). IsSettled file x l) (sym c.s.view_is) c.requires.settled in
    let strong = subst (λ (x : Settings). (d : ℕ) × IsDistance x.code d × (needed_distance x.mode x.bound ≤ d)) (sym c.s.view_is) c.requires.strong in
    let elaborated = elaborated_by file _ c.s.inside.tables.items _ c.s.inside.linears.items settled.m e c.deref.ensures.value c.deref-2.ensures.value (c.in_ok-e.ensures.elaborated settled.m settled.laid_out.taken.main) in
    let fits = c.machines_have_one_size.ensures.source file s.library settled.m e.machine s l elaborated.machine settled.laid_out.is_layout in
    let one = c.machines_have_one_size.ensures.with e.machine s.code s.mode s.bound (rail_count s.mode s.bound) l fits in
    let built = subst (λ (x : Settings). (regions : List Region) × IsGuardOf (guarded_of g c.e.inside.machine.inputs regions) c.e.inside.machine x.code x.mode x.bound (rail_count x.mode x.bound) l) (sym c.s.view_is) c.in_ok-nets.ensures in
    let guarded = guarded_of g e.machine.inputs built.0 in
    let guard = guard_seen g built.0 _ e s.code s.mode s.bound (rail_count s.mode s.bound) l c.e.view_is built.1 in
    subst (λ (x : Settings). IsGuardMade file x c.in_ok-named.named c.in_ok-named.machine l) c.s.view_is
    (made file s l settled e elaborated c.s.invariant.code strong.0 strong.1 strong.2 one.0 one.1.holds guarded guard c.in_ok-named.named c.in_ok-named.ensures.is_named (c.in_ok-named.ensures.guard built.0) c.in_ok-named.machine c.in_ok-named.ensures.machine)

pub returns-clause-guard : goal.returns-clause-guard
returns-clause-guard c settings netlist is_settings reads =
    let file = file_of c.args.file in
    let s = settings_in c.s.inside in
    let l = c.args.layout in
    let e = c.in_ok-e.e in
    let g = c.in_ok-nets.nets in
    let settled = subst (λ (x : Settings). IsSettled file x l) (sym c.s.view_is) c.requires.settled in
    let strong = subst (λ (x : Settings). (d : ℕ) × IsDistance x.code d × (needed_distance x.mode x.bound ≤ d)) (sym c.s.view_is) c.requires.strong in
    let these = subst (λ (x : Settings). settings_of_bytes settings ≡ Ok x) (sym c.s.view_is) is_settings in
    let main = settled.laid_out.taken.main in
    let elaborated = elaborated_by file _ c.s.inside.tables.items _ c.s.inside.linears.items settled.m e c.deref.ensures.value c.deref-2.ensures.value (c.in_ok-e.ensures.elaborated settled.m main) in
    let built = subst (λ (x : Settings). (regions : List Region) × IsGuardOf (guarded_of g c.e.inside.machine.inputs regions) c.e.inside.machine x.code x.mode x.bound (rail_count x.mode x.bound) l) (sym c.s.view_is) c.in_ok-nets.ensures in
    let guarded = guarded_of g e.machine.inputs built.0 in
    let guard = guard_seen g built.0 _ e s.code s.mode s.bound (rail_count s.mode s.bound) l c.e.view_is built.1 in
    c.steps_make_a_guard.ensures.text settings netlist file s strong.0 settled.n settled.m e l guarded c.in_ok-named.named these reads main elaborated c.s.invariant.code strong.1 strong.2 (over file s l settled e elaborated) settled.is_plain guard
    c.in_ok-named.ensures.is_named (c.in_ok-named.ensures.guard built.0)
