use Rattle.std.proofs.Common.{◌≡◌, sym, ap, ◌∙◌, ◌+◌, ◌-◌, ◌<◌, inl, subst, ℕ, length, map, arith, slice_get, Some, ◌++◌}
use Rattle.std.specs.List.{range_with_len}
use Rattle.std.proofs.lemmas.List.{length-map}
use Rattle.netlist_spec.specs.Gates.{Machine}
use Rattle.gate_net.specs.Gate.{net_number}
use Rattle.gate_net.specs.Machine.{latch_row}
use Rattle.joined_net.proofs.Stands.{data_stands, latch_stands}
use Rattle.joined_net.proofs.over.Goals as goal

pub returns-then-x-m : goal.returns-then-x-m
returns-then-x-m c =
    let inputs : c.m.inside.inputs ≡ c.args.m.now.inputs = ap (λ (n : Machine). n.inputs) c.m.view_is in
    inl (data_stands c.args.m.now.inputs (map net_number c.args.j.now.nets.items) c.args.x.0 (omega (arith, inputs, c.if-x-m.true)))

pub returns-then-x-leaves : goal.returns-then-x-leaves
returns-then-x-leaves c =
    let inputs : c.m.inside.inputs ≡ c.args.m.now.inputs = ap (λ (n : Machine). n.inputs) c.m.view_is in
    let nets = c.args.j.now.nets.items in
    let x = c.args.x.0 in
    let ready = c.requires.ready.3 in
    let count : length nets ≡ length c.args.m.now.latches = sym (length-map nets net_number) ∙ ready.joined_list.corrected.count in
    let all : length c.args.m.now.latches ≡ length c.m.inside.latches.items = ap (λ (n : Machine). length n.latches) (sym c.m.view_is) ∙ length-map c.m.inside.latches.items latch_row in
    let leaves : c.m.inside.net.leaves ≡ c.m.inside.inputs + length (map latch_row c.m.inside.latches.items) = c.m.invariant.leaves in
    let long = length-map c.m.inside.latches.items latch_row in
    let within : x - c.m.inside.inputs < length nets = omega (arith, c.if-x-leaves.true, c.if-x-m.false, c.leaves-leaves.ensures) in
    inl (subst (λ (k : ℕ). slice_get (range_with_len 0 k ++ map net_number nets) x ≡ Some (net_number c.index.result.now)) inputs
    (latch_stands c.m.inside.inputs nets x c.index.result.now c.if-x-m.false within c.index.ensures))
