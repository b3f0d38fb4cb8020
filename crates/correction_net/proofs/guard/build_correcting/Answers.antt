use Rattle.std.proofs.Common.{◌≡◌, ◌+◌, ◌<◌, ◌≤◌, refl, sym, ◌∙◌, ap, subst, ℕ, List, [], length, map, arith}
use Rattle.std.specs.List.{AllByRecursion, range_with_len}
use Rattle.std.proofs.lemmas.List.{length-map}
use Rattle.std.proofs.lemmas.List.FromFn.{length-range_with_len}
use Rattle.netlist_spec.specs.Gates.{GateList, IsMachine, Machine}
use Rattle.gate_net.specs.declared.gate.NetId.{NetId}
use Rattle.gate_net.specs.Gate.{net_number}
use Rattle.gate_net.specs.GateNet.{net_count}
use Rattle.gate_net.specs.Machine.{machine_of}
use Rattle.guard_spec.specs.Codes.{correct, data_places}
use Rattle.guard_spec.specs.Regions.{Guarded}
use Rattle.guard_spec.specs.Words.{IsPartition}
use Rattle.containment.specs.Built.{IsBuilt, IsCodedGuard}
use Rattle.guard_net.specs.Built.{HasLatches, HasOutputs}
use Rattle.guard_net.proofs.Lists.{below_kept}
use Rattle.correction_net.proofs.Made.{all_low, guard_made, latches_long, outputs_as_long, stands_cost}
use Rattle.correction_net.proofs.guard.build_correcting.Goals as goal

pub add_latches-requires-clause-words : goal.add_latches-requires-clause-words
add_latches-requires-clause-words c =
    subst (λ (n : ℕ). IsPartition n (data_places c.args.c.now) c.args.l.now.state) (sym (latches_long c.args.m.now c.in_ok-stand.stand c.args.c.now c.args.l.now c.args.t c.in_ok-stand.ensures)) c.requires.state

pub add_latches-requires-clause-leaves : goal.add_latches-requires-clause-leaves
add_latches-requires-clause-leaves c =
    let are = ap (map net_number) c.as_slice-leaf.ensures.value ∙ c.in_ok-leaves.ensures in
    sym (length-map c.as_slice-leaf.result.now net_number) ∙ (ap length are ∙ (length-range_with_len 0 c.leaves-count.result ∙ (c.leaves-count.ensures ∙ ap (λ (n : Machine). n.net.leaves) c.stand.view_is)))

pub add_latches-requires-clause-leaf : goal.add_latches-requires-clause-leaf
add_latches-requires-clause-leaf c =
    let are = ap (map net_number) c.as_slice-leaf.ensures.value ∙ c.in_ok-leaves.ensures in
    let begun : net_count c.in_ok-net.net ≡ c.leaves-count.result = ap net_count c.in_ok-net.ensures ∙ (let e : c.leaves-count.result + 0 ≡ c.leaves-count.result = omega arith in e) in
    subst (λ (ns : List ℕ). AllByRecursion (λ n. n < net_count c.in_ok-net.net) ns) (sym are) (all_low 0 c.leaves-count.result (net_count c.in_ok-net.net) (omega (arith, begun)))

pub add_latches-requires-clause-room : goal.add_latches-requires-clause-room
add_latches-requires-clause-room c =
    let m = c.args.m.now in
    let code = c.args.c.now in
    let l = c.args.l.now in
    let stand = c.in_ok-stand.stand in
    let stands = c.in_ok-stand.ensures in
    let is : IsMachine m = subst IsMachine c.m.view_is c.m.invariant in
    let cone = c.joined_copies_cost_no_more.ensures.cone m code l c.args.t (data_places code) stand.net stands.ready.correctors stands.nets stands.first is c.requires.state stands.ready.joined_list in
    let found = c.costs_make_up_the_size.ensures.costs stand stands.is_machine in
    let size = c.requires.size in
    let total = stands_cost m stand code l c.args.t stands cone found.0 found.1 size.0 size.1 in
    let small = size.2 in
    let few = c.requires.inputs in
    let begun : net_count c.in_ok-net.net ≡ c.leaves-count.result = ap net_count c.in_ok-net.ensures ∙ (let e : c.leaves-count.result + 0 ≡ c.leaves-count.result = omega arith in e) in
    let all = stands.ready.joined_list.leaves in
    let leaves = (c.leaves-count.ensures ∙ ap (λ (n : Machine). n.net.leaves) c.stand.view_is) in
    (found.0, found.1, omega (arith, total, small, few, begun, all, leaves))

pub add_shown-requires-clause-outputs : goal.add_shown-requires-clause-outputs
add_shown-requires-clause-outputs c = outputs_as_long c.args.m.now c.in_ok-stand.stand c.args.c.now c.args.l.now c.args.t c.in_ok-stand.ensures

pub add_shown-requires-clause-words : goal.add_shown-requires-clause-words
add_shown-requires-clause-words c =
    subst (λ (n : ℕ). IsPartition n (data_places c.args.c.now) c.args.l.now.output) (sym (outputs_as_long c.args.m.now c.in_ok-stand.stand c.args.c.now c.args.l.now c.args.t c.in_ok-stand.ensures)) c.requires.output

pub add_shown-requires-clause-leaves : goal.add_shown-requires-clause-leaves
add_shown-requires-clause-leaves c =
    let are = ap (map net_number) c.as_slice-leaf.ensures.value ∙ c.in_ok-leaves.ensures in
    sym (length-map c.as_slice-leaf.result.now net_number) ∙ (ap length are ∙ (length-range_with_len 0 c.leaves-count.result ∙ (c.leaves-count.ensures ∙ ap (λ (n : Machine). n.net.leaves) c.stand.view_is)))

pub add_shown-requires-clause-leaf : goal.add_shown-requires-clause-leaf
add_shown-requires-clause-leaf c =
    let are = ap (map net_number) c.as_slice-leaf.ensures.value ∙ c.in_ok-leaves.ensures in
    let begun : net_count c.in_ok-net.net ≡ c.leaves-count.result = ap net_count c.in_ok-net.ensures ∙ (let e : c.leaves-count.result + 0 ≡ c.leaves-count.result = omega arith in e) in
    below_kept c.in_ok-net.net c.add_latches.new.s.net (map net_number c.as_slice-leaf.result.now) c.in_ok-latches.ensures.kept
    (subst (λ (ns : List ℕ). AllByRecursion (λ n. n < net_count c.in_ok-net.net) ns) (sym are) (all_low 0 c.leaves-count.result (net_count c.in_ok-net.net) (omega (arith, begun))))

pub add_shown-requires-clause-room : goal.add_shown-requires-clause-room
add_shown-requires-clause-room c =
    let m = c.args.m.now in
    let code = c.args.c.now in
    let l = c.args.l.now in
    let stand = c.in_ok-stand.stand in
    let stands = c.in_ok-stand.ensures in
    let is : IsMachine m = subst IsMachine c.m.view_is c.m.invariant in
    let cone = c.joined_copies_cost_no_more.ensures.cone m code l c.args.t (data_places code) stand.net stands.ready.correctors stands.nets stands.first is c.requires.state stands.ready.joined_list in
    let found = c.costs_make_up_the_size.ensures.costs stand stands.is_machine in
    let size = c.requires.size in
    let total = stands_cost m stand code l c.args.t stands cone found.0 found.1 size.0 size.1 in
    let small = size.2 in
    let few = c.requires.inputs in
    let begun : net_count c.in_ok-net.net ≡ c.leaves-count.result = ap net_count c.in_ok-net.ensures ∙ (let e : c.leaves-count.result + 0 ≡ c.leaves-count.result = omega arith in e) in
    let all = stands.ready.joined_list.leaves in
    let leaves = (c.leaves-count.ensures ∙ ap (λ (n : Machine). n.net.leaves) c.stand.view_is) in
    let stored = c.in_ok-latches.ensures.few found.0 found.1 in
    (found.0, found.1, omega (arith, total, small, few, begun, all, leaves, stored))

pub returns : goal.returns
returns c =
    let m = c.args.m.now in
    let code = c.args.c.now in
    let l = c.args.l.now in
    let stand = c.in_ok-stand.stand in
    let stands = c.in_ok-stand.ensures in
    let is : IsMachine m = subst IsMachine c.m.view_is c.m.invariant in
    let cone = c.joined_copies_cost_no_more.ensures.cone m code l c.args.t (data_places code) stand.net stands.ready.correctors stands.nets stands.first is c.requires.state stands.ready.joined_list in
    let g : Machine = machine_of c.add_shown.new.s.net m.inputs c.in_ok-latches.latches.items c.in_ok-outputs.outputs.items in
    let are : map net_number c.as_slice-leaf.result.now ≡ range_with_len 0 stand.net.leaves = ap (map net_number) c.as_slice-leaf.ensures.value ∙ (c.in_ok-leaves.ensures ∙ ap (range_with_len 0) (c.leaves-count.ensures ∙ ap (λ (n : Machine). n.net.leaves) c.stand.view_is)) in
    let begun : c.in_ok-net.net ≡ record { leaves = stand.net.leaves; gates = [] } = c.in_ok-net.ensures ∙ ap (λ (n : ℕ). record { leaves = n; gates = [] }) (c.leaves-count.ensures ∙ ap (λ (n : Machine). n.net.leaves) c.stand.view_is) in
    let latches : HasLatches stand code l (range_with_len 0 stand.net.leaves) c.in_ok-net.net c.add_latches.new.s.net g.latches
    = subst (λ (ns : List ℕ). HasLatches stand code l ns c.in_ok-net.net c.add_latches.new.s.net g.latches) are c.in_ok-latches.ensures in
    let shown : HasOutputs m stand code l (range_with_len 0 stand.net.leaves) c.add_latches.new.s.net g.net g.outputs
    = subst (λ (ns : List ℕ). HasOutputs m stand code l ns c.add_latches.new.s.net g.net g.outputs) are c.in_ok-outputs.ensures in
    let made = guard_made c.rows_of_cells_join.ensures.join m stand code l c.args.t (data_places code) g c.in_ok-net.net c.add_latches.new.s.net is c.r-columns.ensures.valid c.requires.state stands refl c.len-nets.ensures.well_formed.gates begun latches shown cone in
    let guarded : Guarded = record { machine = g; rails = 0; regions = made.0 } in
    let built : IsBuilt guarded m code correct c.args.t l = c.built_guards_keep_their_bits.ensures.built guarded m code correct c.args.t 0 l made.1 in
    let apart = c.requires.distance in
    let coded : IsCodedGuard guarded m code apart.0 correct c.args.t l = record {
      coded = record { is_code = c.r-columns.ensures.valid; is_distance = apart.1; state_words = c.requires.state; output_words = c.requires.output };
      built = built;
    } in
    record {
      guard = (
        made.0,
        record {
          guard = made.1;
          built = built;
          faithful = c.guards_are_faithful.ensures.silent guarded m code apart.0 correct c.args.t l coded made.1.rail_number;
          corrects = c.guards_correct.ensures.steady guarded m code apart.0 c.args.t l coded apart.2;
        },
      );
    }
