use Rattle.std.proofs.Common.{◌≡◌, ◌<◌, ap, map, subst, sym, ◌∙◌, ℕ, List, Bool, false, length, IsTrue}
use Rattle.std.specs.List.{AllByRecursion}
use Rattle.std.proofs.lemmas.List.{length-replicate}
use Rattle.netlist_spec.specs.Gates.{IsMachine, Machine}
use Rattle.gate_net.specs.Gate.{net_number}
use Rattle.gate_net.specs.GateNet.{net_bit, net_count}
use Rattle.joined_net.specs.Marks.{GainsMarks}
use Rattle.joined_net.proofs.NetMarks.{are_needed, none_marked, shown_below, stored_below}
use Rattle.joined_net.proofs.marks.mark_needed.Goals as goal

pub mark_all-requires : goal.mark_all-requires
mark_all-requires c =
    let m = c.args.m.now in
    let long : length c.args.marks.now ≡ net_count m.net = ap length c.requires.bare ∙ length-replicate (net_count m.net) false in
    subst (λ (ns : List ℕ). AllByRecursion (λ n. n < length c.args.marks.now) ns) (sym c.requires.stores) (stored_below m (length c.args.marks.now) (subst IsMachine c.m.view_is c.m.invariant) long)

pub mark_all-requires-2 : goal.mark_all-requires-2
mark_all-requires-2 c =
    let m = c.args.m.now in
    let long : length c.args.marks.now ≡ net_count m.net = ap length c.requires.bare ∙ length-replicate (net_count m.net) false in
    let shown : map net_number c.as_slice-shown.result.now ≡ m.outputs = ap (map net_number) c.as_slice-shown.ensures.value ∙ ap (λ (n : Machine). n.outputs) c.m.view_is in
    subst (λ (ns : List ℕ). AllByRecursion (λ n. n < length c.mark_all.new.marks) ns) (sym shown) (shown_below m (length c.mark_all.new.marks) (subst IsMachine c.m.view_is c.m.invariant) (c.mark_all.ensures.count ∙ long))

pub returns : goal.returns
returns c =
    let m = c.args.m.now in
    let long : length c.args.marks.now ≡ net_count m.net = ap length c.requires.bare ∙ length-replicate (net_count m.net) false in
    let shown : map net_number c.as_slice-shown.result.now ≡ m.outputs = ap (map net_number) c.as_slice-shown.ensures.value ∙ ap (λ (n : Machine). n.outputs) c.m.view_is in
    are_needed m c.args.marks.now c.mark_all.new.marks c.mark_all-2.new.marks c.mark_cones.new.marks long
    (λ k is. none_marked (net_count m.net) k (subst (λ (bs : List Bool). IsTrue (net_bit bs k)) c.requires.bare is))
    (subst (λ (ns : List ℕ). GainsMarks c.args.marks.now c.mark_all.new.marks ns) c.requires.stores c.mark_all.ensures)
    (subst (λ (ns : List ℕ). GainsMarks c.mark_all.new.marks c.mark_all-2.new.marks ns) shown c.mark_all-2.ensures) c.mark_cones.ensures
