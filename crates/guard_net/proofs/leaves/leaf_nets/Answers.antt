use Rattle.std.proofs.Common.{◌≡◌, ◌+◌, ◌<◌, ◌++◌, ◌∷◌, [], sym, ◌∙◌, ap, subst, ℕ, List, Vec, Global, All, length, arith}
use Rattle.std.specs.List.{range_with_len}
use Rattle.std.proofs.lemmas.List.{length-map}
use Rattle.netlist_spec.specs.Gates.{IsMachine, Machine}
use Rattle.gate_net.specs.declared.gate.NetId.{NetId}
use Rattle.gate_net.specs.Machine.{latch_row}
use Rattle.encode_state.specs.Types.{words_in}
use Rattle.guard_spec.specs.Codes.{data_places}
use Rattle.guard_spec.specs.Words.{IsPartition, Layout, Words}
use Rattle.guard_net.proofs.Lists.{all_within, number_pushed}
use Rattle.guard_net.proofs.DataPlaces.{leaves_found}
use Rattle.guard_net.proofs.leaves.leaf_nets.Goals as goal

pub data_places-requires-clause-within : goal.data_places-requires-clause-within
data_places-requires-clause-within c =
    let m = c.args.m.now in
    let k = data_places c.args.code.now in
    let vecs = c.deref.result.now in
    let same : words_in vecs ≡ c.args.l.now.state = ap words_in c.deref.ensures.value ∙ ap (λ (l : Layout). l.state) c.l.view_is in
    let long : length m.latches ≡ length c.m.inside.latches.items = ap (λ (n : Machine). length n.latches) (sym c.m.view_is) ∙ length-map c.m.inside.latches.items latch_row in
    let filled = c.m.inside.latches.ok.0 in
    let count : c.len.result ≡ length m.latches = omega (arith, c.len.ensures, filled, long) in
    subst (λ (n : ℕ). All (λ (v : Vec ℕ Global). All (λ i. i < n) v.items) vecs) (sym count) (all_within (length m.latches) k vecs (subst (λ (ws : Words). IsPartition (length m.latches) k ws) (sym same) c.requires.words))

pub loop-i-preserved : goal.loop-i-preserved
loop-i-preserved c =
    let i = c.loop-i.i in
    number_pushed 0 i c.loop-i.nets.items c.push.new.self.items c.loop-i.invariant
    (c.in_ok-push.ensures.items ∙ ap (λ (k : ℕ). c.loop-i.nets.items ++ record { 0 = k } ∷ []) (let e : i ≡ 0 + i = omega arith in e))

pub returns-clause-leaves : goal.returns-clause-leaves
returns-clause-leaves c =
    let m = c.args.m.now in
    let long : length m.latches ≡ length c.m.inside.latches.items = ap (λ (n : Machine). length n.latches) (sym c.m.view_is) ∙ length-map c.m.inside.latches.items latch_row in
    let filled = c.m.inside.latches.ok.0 in
    let count : c.len.result ≡ length m.latches = omega (arith, c.len.ensures, filled, long) in
    let ended : c.loop-i.i ≡ c.m.inside.inputs = let a = c.loop-i-test.false in let b = c.loop-i.auto.i-end in omega (arith, a, b) in
    leaves_found m c.args.code.now c.args.l.now c.m.inside.inputs c.len.result c.from-columns.result c.in_ok-places.places.count (words_in c.deref.result.now) c.loop-i.nets.items c.in_ok-places.places.nets.items c.extend_from_slice.new.self.items
    (subst IsMachine c.m.view_is c.m.invariant) c.requires.words (ap (λ (n : Machine). n.inputs) c.m.view_is) count (c.from-columns.ensures ∙ c.r.ensures.columns) (ap words_in c.deref.ensures.value ∙ ap (λ (l : Layout). l.state) c.l.view_is)
    (c.loop-i.invariant ∙ ap (range_with_len 0) ended) c.in_ok-places.ensures.places (c.in_ok-extend_from_slice.ensures.items ∙ ap (λ (ns : List NetId). c.loop-i.nets.items ++ ns) c.deref-2.ensures.value) c.in_ok-places.ensures.count

pub returns-clause-machine : goal.returns-clause-machine
returns-clause-machine c = subst IsMachine c.m.view_is c.m.invariant
