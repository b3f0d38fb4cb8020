use Rattle.std.proofs.Common.{◌≡◌, ◌+◌, ◌<◌, ◌++◌, refl, sym, ◌∙◌, ap, subst, ℕ, List, length, map, arith}
use Rattle.std.specs.List.{AllByRecursion}
use Rattle.std.proofs.lemmas.List.{length-map}
use Rattle.netlist_spec.specs.GateRanges.{Region}
use Rattle.netlist_spec.specs.Gates.{GateList, Machine}
use Rattle.gate_net.specs.Gate.{net_number}
use Rattle.gate_net.specs.GateNet.{net_count}
use Rattle.gate_net.specs.Machine.{machine_of}
use Rattle.guard_spec.specs.Codes.{IsDistance, detect}
use Rattle.guard_spec.specs.Regions.{Guarded}
use Rattle.containment.specs.Built.{IsBuilt, IsTellingGuard}
use Rattle.guard_laws.specs.Promised.{IsGuardOf}
use Rattle.guard_cells.specs.Cells.{ranges_from}
use Rattle.guard_made.specs.Made.{rail_cells_of, word_cells}
use Rattle.guard_net.specs.Built.{HasLeaves}
use Rattle.guard_net.proofs.Lists.{below_kept}
use Rattle.guard_net.proofs.MadeGuards.{is_made, outputs_long}
use Rattle.guard_net.proofs.guard.build.Goals as goal

pub add_latches-requires-clause-leaf : goal.add_latches-requires-clause-leaf
add_latches-requires-clause-leaf c =
    let leaf = map net_number c.as_slice-leaf.result.now in
    let on = c.in_ok-leaves.ensures.leaves in
    let made = c.in_ok-net.ensures in
    let begun : net_count c.in_ok-net.net ≡ c.in_ok-leaves.leaves.count = ap net_count made ∙ (let e : c.in_ok-leaves.leaves.count + 0 ≡ c.in_ok-leaves.leaves.count = omega arith in e) in
    subst (λ (k : ℕ). AllByRecursion (λ n. n < k) leaf) (sym begun) (subst (λ (ns : List ℕ). AllByRecursion (λ n. n < c.in_ok-leaves.leaves.count) ns) (sym (ap (map net_number) c.as_slice-leaf.ensures.value)) on.below)

pub add_latches-requires-clause-room : goal.add_latches-requires-clause-room
add_latches-requires-clause-room c =
    let m = c.args.m.now in
    let code = c.args.c.now in
    let l = c.args.l.now in
    let is = c.in_ok-leaves.ensures.machine in
    let found = c.costs_make_up_the_size.ensures.costs m is in
    let cost = found.0 in
    let gives = found.1 in
    let size = c.requires.size in
    let total = c.costs_make_up_the_size.ensures.size m code l c.args.t (c.args.t + 1) size.0 cost is gives c.requires.state c.requires.output size.1 in
    let small = size.2 in
    let few = c.requires.inputs in
    let on = c.in_ok-leaves.ensures.leaves in
    let made = c.in_ok-net.ensures in
    let begun : net_count c.in_ok-net.net ≡ c.in_ok-leaves.leaves.count = ap net_count made ∙ (let e : c.in_ok-leaves.leaves.count + 0 ≡ c.in_ok-leaves.leaves.count = omega arith in e) in
    let all = on.all in
    (cost, gives, omega (arith, total, small, few, begun, all))

pub add_shown-requires-clause-leaf : goal.add_shown-requires-clause-leaf
add_shown-requires-clause-leaf c =
    let leaf = map net_number c.as_slice-leaf.result.now in
    let on = c.in_ok-leaves.ensures.leaves in
    let made = c.in_ok-net.ensures in
    let begun : net_count c.in_ok-net.net ≡ c.in_ok-leaves.leaves.count = ap net_count made ∙ (let e : c.in_ok-leaves.leaves.count + 0 ≡ c.in_ok-leaves.leaves.count = omega arith in e) in
    let below = subst (λ (k : ℕ). AllByRecursion (λ n. n < k) leaf) (sym begun) (subst (λ (ns : List ℕ). AllByRecursion (λ n. n < c.in_ok-leaves.leaves.count) ns) (sym (ap (map net_number) c.as_slice-leaf.ensures.value)) on.below) in
    below_kept c.in_ok-net.net c.add_latches.new.s.net leaf c.in_ok-latches.ensures.kept below

pub add_shown-requires-clause-room : goal.add_shown-requires-clause-room
add_shown-requires-clause-room c =
    let m = c.args.m.now in
    let code = c.args.c.now in
    let l = c.args.l.now in
    let is = c.in_ok-leaves.ensures.machine in
    let found = c.costs_make_up_the_size.ensures.costs m is in
    let cost = found.0 in
    let gives = found.1 in
    let size = c.requires.size in
    let total = c.costs_make_up_the_size.ensures.size m code l c.args.t (c.args.t + 1) size.0 cost is gives c.requires.state c.requires.output size.1 in
    let small = size.2 in
    let few = c.requires.inputs in
    let on = c.in_ok-leaves.ensures.leaves in
    let made = c.in_ok-net.ensures in
    let begun : net_count c.in_ok-net.net ≡ c.in_ok-leaves.leaves.count = ap net_count made ∙ (let e : c.in_ok-leaves.leaves.count + 0 ≡ c.in_ok-leaves.leaves.count = omega arith in e) in
    let all = on.all in
    let stored = c.in_ok-latches.ensures.few cost gives in
    (cost, gives, omega (arith, total, small, few, begun, all, stored))

pub add_alarms-requires-clause-outputs : goal.add_alarms-requires-clause-outputs
add_alarms-requires-clause-outputs c =
    sym (length-map c.in_ok-outputs.outputs.items net_number)
    ∙ outputs_long c.args.m.now c.args.c.now c.args.l.now (map net_number c.as_slice-leaf.result.now) c.add_latches.new.s.net c.add_shown.new.s.net (map net_number c.in_ok-outputs.outputs.items) c.in_ok-outputs.ensures

pub add_alarms-requires-clause-room : goal.add_alarms-requires-clause-room
add_alarms-requires-clause-room c =
    let m = c.args.m.now in
    let code = c.args.c.now in
    let l = c.args.l.now in
    let is = c.in_ok-leaves.ensures.machine in
    let found = c.costs_make_up_the_size.ensures.costs m is in
    let cost = found.0 in
    let gives = found.1 in
    let size = c.requires.size in
    let total = c.costs_make_up_the_size.ensures.size m code l c.args.t (c.args.t + 1) size.0 cost is gives c.requires.state c.requires.output size.1 in
    let small = size.2 in
    let few = c.requires.inputs in
    let on = c.in_ok-leaves.ensures.leaves in
    let made = c.in_ok-net.ensures in
    let begun : net_count c.in_ok-net.net ≡ c.in_ok-leaves.leaves.count = ap net_count made ∙ (let e : c.in_ok-leaves.leaves.count + 0 ≡ c.in_ok-leaves.leaves.count = omega arith in e) in
    let all = on.all in
    let stored = c.in_ok-latches.ensures.few cost gives in
    let shown = c.in_ok-outputs.ensures.few cost gives in
    omega (arith, total, small, few, begun, all, stored, shown)

pub returns : goal.returns
returns c =
    let m = c.args.m.now in
    let code = c.args.c.now in
    let l = c.args.l.now in
    let on = c.in_ok-leaves.ensures.leaves in
    let made = c.in_ok-net.ensures in
    let begun : net_count c.in_ok-net.net ≡ c.in_ok-leaves.leaves.count = ap net_count made ∙ (let e : c.in_ok-leaves.leaves.count + 0 ≡ c.in_ok-leaves.leaves.count = omega arith in e) in
    let g : Machine = machine_of c.add_alarms.new.s.net m.inputs c.in_ok-latches.latches.items c.add_alarms.new.outputs.items in
    let leaf = map net_number c.as_slice-leaf.result.now in
    let rails = c.args.t + 1 in
    let made_so = is_made c.rows_of_cells_join.ensures.join m code l g rails leaf c.in_ok-leaves.leaves.count c.in_ok-net.net c.add_latches.new.s.net c.add_shown.new.s.net (map net_number c.in_ok-outputs.outputs.items)
    refl c.len-nets.ensures.well_formed.gates c.requires.output begun (ap (λ (net : GateList). net.leaves) made) (subst (λ (ns : List ℕ). HasLeaves m code l ns c.in_ok-leaves.leaves.count) (sym (ap (map net_number) c.as_slice-leaf.ensures.value)) on) c.in_ok-latches.ensures c.in_ok-outputs.ensures c.in_ok-add_alarms.ensures in
    let regions : List Region = ranges_from g.net.leaves (word_cells g made_so.nets ++ rail_cells_of made_so.nets) in
    let many : length made_so.nets.rails ≡ c.from-rails.result + 1 = made_so.rail_number ∙ ap (λ (k : ℕ). k + 1) (sym c.from-rails.ensures) in
    let guarded : Guarded = record { machine = g; rails = c.from-rails.result + 1; regions = regions } in
    let guard : (radius : ℕ) → IsGuardOf guarded m code detect radius rails l = λ radius. subst (λ (k : ℕ). IsGuardOf (record { machine = g; rails = k; regions = regions }) m code detect radius rails l) many
    (c.made_machines_are_guards.ensures m g code l rails made_so c.in_ok-leaves.ensures.machine c.r-columns.ensures.valid c.requires.state c.requires.output radius) in
    let built : (radius : ℕ) → IsBuilt guarded m code detect radius l = λ radius. c.built_guards_keep_their_bits.ensures.built guarded m code detect radius rails l (guard radius) in
    let tells = c.built_guards_keep_their_bits.ensures.tells guarded m code detect c.args.t rails l (guard c.args.t) in
    let telling : (d : ℕ) → IsDistance code d → IsTellingGuard guarded m code d detect c.args.t l = λ d is_distance. record {
      coded = record { is_code = c.r-columns.ensures.valid; is_distance = is_distance; state_words = c.requires.state; output_words = c.requires.output };
      built = built c.args.t;
      tells = tells;
    } in
    let enough : c.args.t < guarded.rails = let r = c.from-rails.ensures in omega (arith, r) in
    record {
      guard = (
        regions,
        record {
          guard = guard;
          built = built;
          tells = tells;
          faithful = λ d is_distance. c.guards_are_faithful.ensures.told guarded m code d detect c.args.t l (telling d is_distance);
          detects = λ d is_distance below. c.guards_detect.ensures.steady guarded m code d c.args.t l (telling d is_distance) below enough;
        },
      );
    }
