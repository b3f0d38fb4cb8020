use Rattle.std.proofs.Common.{◌≡◌, ◌+◌, ◌^◌, ◌<◌, ◌++◌, ◌∷◌, [], sym, ◌∙◌, ap, ℕ, List, length, map, take, get_or, arith}
use Rattle.std.proofs.lemmas.List.{get_or-map, length-map, map_push, take_more}
use Rattle.netlist_spec.specs.Gates.{Machine}
use Rattle.gate_net.specs.declared.gate.NetId.{NetId}
use Rattle.gate_net.specs.Gate.{net_number}
use Rattle.gate_net.specs.GateNet.{net_count}
use Rattle.guard_net.proofs.Lists.{below_kept}
use Rattle.guard_net.proofs.ShownOutputs.{output_below, output_gained, room_for_output}
use Rattle.guard_net.proofs.outputs.add_outputs.Goals as goal

pub add_output-requires-clause-net : goal.add_output-requires-clause-net
add_output-requires-clause-net c =
    let items = c.deref-o-items.result.now in
    let are : c.args.m.now.outputs ≡ map net_number items = ap (λ (m : Machine). m.outputs) (sym c.m.view_is) ∙ ap (map net_number) (sym c.deref-o-items.ensures.value) in
    output_below (net_count c.args.m.now.net) c.args.m.now.outputs items c.loop-i.i (record { 0 = 0 }) c.requires.machine.outputs are c.loop-i-test.true

pub add_output-requires-clause-leaf : goal.add_output-requires-clause-leaf
add_output-requires-clause-leaf c = below_kept c.args.s.now.net c.loop-i.s.net (map net_number c.args.leaf.now) c.loop-i.invariant.kept c.requires.leaf

pub add_output-requires-clause-room : goal.add_output-requires-clause-room
add_output-requires-clause-room c =
    let items = c.deref-o-items.result.now in
    let i = c.loop-i.i in
    let outputs = c.args.m.now.outputs in
    let none : NetId = record { 0 = 0 } in
    let inside : i < length items = c.loop-i-test.true in
    let are : outputs ≡ map net_number items = ap (λ (m : Machine). m.outputs) (sym c.m.view_is) ∙ ap (map net_number) (sym c.deref-o-items.ensures.value) in
    let long : length outputs ≡ length items = ap length are ∙ length-map items net_number in
    let here : (get_or items i none).0 ≡ get_or outputs i 0 = sym (ap (λ (ns : List ℕ). get_or ns i 0) are ∙ get_or-map net_number items i none 0 inside) in
    let cost = c.requires.room.0 in
    let gives = c.requires.room.1 in
    (cost, gives, room_for_output cost outputs i (get_or items i none).0 (net_count c.loop-i.s.net) (net_count c.args.s.now.net) (2 ^ 23) (omega (arith, long, inside)) here (c.loop-i.invariant.few cost gives) c.requires.room.2)

pub loop-i-preserved : goal.loop-i-preserved
loop-i-preserved c =
    let items = c.deref-o-items.result.now in
    let i = c.loop-i.i in
    let outputs = c.args.m.now.outputs in
    let none : NetId = record { 0 = 0 } in
    let inside : i < length items = c.loop-i-test.true in
    let are : outputs ≡ map net_number items = ap (λ (m : Machine). m.outputs) (sym c.m.view_is) ∙ ap (map net_number) (sym c.deref-o-items.ensures.value) in
    let long : length outputs ≡ length items = ap length are ∙ length-map items net_number in
    let here : get_or outputs i 0 ≡ (get_or items i none).0 = ap (λ (ns : List ℕ). get_or ns i 0) are ∙ get_or-map net_number items i none 0 inside in
    let next : take (i + 1) outputs ≡ take i outputs ++ (get_or items i none).0 ∷ [] = take_more outputs i 0 (omega (arith, long, inside)) ∙ ap (λ (o : ℕ). take i outputs ++ o ∷ []) here in
    let sources = c.args.source.now.outputs in
    let their = c.source.inside.outputs.items in
    let x = c.index-x.result.now in
    let are_sources : sources ≡ map net_number their = ap (λ (m : Machine). m.outputs) (sym c.source.view_is) in
    let as_many : length sources ≡ length their = ap length are_sources ∙ length-map their net_number in
    let both = c.requires.outputs in
    let there : get_or sources i 0 ≡ x.0 = ap (λ (ns : List ℕ). get_or ns i 0) are_sources ∙ (get_or-map net_number their i x 0 (omega (arith, long, inside, as_many, both)) ∙ ap net_number (sym c.index-x.ensures)) in
    let next_source : take (i + 1) sources ≡ take i sources ++ x.0 ∷ [] = take_more sources i 0 (omega (arith, long, inside, both)) ∙ ap (λ (o : ℕ). take i sources ++ o ∷ []) there in
    output_gained c.rows_of_cells_join.ensures.join c.args.source.now c.args.m.now (map net_number c.args.leaf.now) (take i sources) (take (i + 1) sources) (take i outputs) (take (i + 1) outputs) (map net_number c.loop-i.shown.items) (map net_number c.push.new.self.items) x.0 (get_or items i none).0 c.in_ok-n.n.0
    c.args.s.now.net c.loop-i.s.net c.add_output.new.s.net next_source next (ap (map net_number) c.in_ok-push.ensures.items ∙ map_push net_number c.loop-i.shown.items c.in_ok-n.n) c.loop-i.invariant c.in_ok-n.ensures
