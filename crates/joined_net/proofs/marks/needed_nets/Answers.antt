use Rattle.std.proofs.Common.{◌≡◌, ap, map, subst, sym, ◌∙◌, ℕ, List, Bool, false, length, drop, replicate, rules}
use Rattle.std.proofs.lemmas.List.{length-replicate}
use Rattle.netlist_spec.specs.Gates.{Machine}
use Rattle.gate_net.specs.declared.machine.LatchRow.{LatchRow as Latch}
use Rattle.gate_net.specs.Gate.{net_number}
use Rattle.gate_net.specs.GateNet.{net_count}
use Rattle.joined_net.specs.Marks.{AreNeededNets}
use Rattle.joined_net.proofs.NetMarks.{whole, numbers_stored}
use Rattle.joined_net.proofs.marks.needed_nets.Goals as goal

pub mark_needed-requires : goal.mark_needed-requires
mark_needed-requires c = record {
  stores = ap (map net_number) (c.deref-2.ensures.value ∙ c.in_ok-stores.ensures ∙ ap (map (λ (r : Latch). r.d)) c.deref.ensures.value) ∙ numbers_stored c.m.inside.latches.items ∙ ap (λ (n : Machine). map (λ r. r.d) n.latches) c.m.view_is;
  bare = c.deref_mut.ensures.value ∙ c.in_ok-marks.ensures.items_if_clones_equal (λ y h. search rules) ∙ ap (λ (k : ℕ). replicate k false) (c.len.ensures.count ∙ ap (λ (n : Machine). net_count n.net) c.m.view_is);
}

pub returns : goal.returns
returns c =
    let net : net_count c.m.inside.net ≡ net_count c.args.m.now.net = ap (λ (n : Machine). net_count n.net) c.m.view_is in
    let marked : c.in_ok-marks.marks.items ≡ replicate c.len.result false = c.in_ok-marks.ensures.items_if_clones_equal (λ y h. search rules) in
    let size : length c.mark_needed.new.marks ≡ c.in_ok-marks.marks.len = c.mark_needed.ensures.count ∙ sym net ∙ sym c.len.ensures.count ∙ sym (length-replicate c.len.result false) ∙ sym (ap length marked) ∙ sym c.in_ok-marks.marks.ok.0 in
    subst (λ (bs : List Bool). AreNeededNets c.args.m.now bs) (sym (whole c.in_ok-marks.marks.len c.mark_needed.new.marks (drop (length c.mark_needed.new.marks) c.in_ok-marks.marks.items) size)) c.mark_needed.ensures
