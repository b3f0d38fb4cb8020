use Rattle.std.proofs.Common.{◌≡◌, sym, ◌∙◌, ap, arith, length, replicate, rules}
use Rattle.std.proofs.lemmas.List.{length-map}
use Rattle.netlist_spec.specs.Gates.{Machine}
use Rattle.gate_net.specs.declared.gate.NetId.{NetId}
use Rattle.gate_net.specs.GateNet.{net_count}
use Rattle.gate_net.specs.Machine.{latch_row}
use Rattle.guard_spec.specs.Codes.{data_places}
use Rattle.joined_net.proofs.JoinedRoom.{bare_below}
use Rattle.joined_net.proofs.correctors.correct_state.Goals as goal

pub add_words-requires-clause-below : goal.add_words-requires-clause-below
add_words-requires-clause-below c =
    let m = c.args.m.now in
    let none : NetId = record { 0 = 0 } in
    let long : length m.latches ≡ length c.m.inside.latches.items = ap (λ (n : Machine). length n.latches) (sym c.m.view_is) ∙ length-map c.m.inside.latches.items latch_row in
    let filled = c.m.inside.latches.ok.0 in
    let count : c.len.result ≡ length m.latches = omega (arith, c.len.ensures, filled, long) in
    let fresh : c.in_ok-nets.nets.items ≡ replicate c.len.result none = c.in_ok-nets.ensures.items_if_clones_equal (λ y h. search rules) in
    bare_below c.args.c.now (length m.latches) (data_places c.args.c.now) m.inputs (net_count c.args.net.now) c.args.l.now.state c.deref_mut.result.now c.requires.words (c.requires.bare ∙ c.requires.leaves)
    (c.deref_mut.ensures.value ∙ fresh ∙ ap (λ n. replicate n none) count)
