use Rattle.std.proofs.Common.{◌≡◌, [], ◌∷◌, ◌++◌, codes, map, slice_get, Some, true, ap, refl, ◌∙◌}
use Rattle.netlist_spec.specs.Gates.{GateList, one}
use Rattle.gate_net.specs.Gate.{net_number}
use Rattle.gate_net.specs.Machine.{latch_row}
use Rattle.blif_read.specs.Ids.{IsIdOf}
use Rattle.blif_read.specs.View.{name_at}
use Rattle.named_netlist.specs.Labels.{label_of}
use Rattle.blif_write_tests.proofs.InverterLemmas.{inverter_net, named-with, none-at, labels-are, labels-within}
use Rattle.blif_read.proofs.SpelledLemmas.{number-later}
use Rattle.blif_write_tests.proofs.tests.inverter.Goals as goal

pub invariant_of-result : goal.invariant_of-result
invariant_of-result c =
    let all = c.intern-2.new.self in
    let q : slice_get all c.in_ok-q.q.0 ≡ Some (codes "q") = number-later c.intern.new.self (codes "n" ∷ []) all c.in_ok-q.q (codes "q") c.in_ok-n.ensures.names c.in_ok-q.ensures.place in
    let n : slice_get all c.in_ok-n.n.0 ≡ Some (codes "n") = c.in_ok-n.ensures.place in
    let net : c.push.new.self ≡ inverter_net = c.in_ok-push.ensures.ok ∙ ap (λ (m : GateList). record m { gates = m.gates ++ one true 0 ∷ [] }) c.in_ok-net.ensures in
    record {
      inputs = none-at (IsIdOf all) c.new-3.result.items c.new-3.ensures.items;
      clocks = none-at (IsIdOf all) c.new-4.result.items c.new-4.ensures.items;
      control = none-at (IsIdOf all) [] refl;
      labels = labels-within all c.in_ok-q.q c.in_ok-n.n c.in_ok-labels.labels.items q n c.in_ok-labels.ensures.items;
      named = named-with c.in_ok-model.model (map (name_at all) c.new-3.result.items) (map (name_at all) c.new-4.result.items) (map net_number c.in_ok-outputs.outputs.items) c.push.new.self (map (label_of all) c.in_ok-labels.labels.items) (map latch_row c.in_ok-latches.latches.items)
          c.in_ok-model.ensures (ap (map (name_at all)) c.new-3.ensures.items) (ap (map (name_at all)) c.new-4.ensures.items) (ap (map net_number) c.in_ok-outputs.ensures.items) net (labels-are all c.in_ok-q.q c.in_ok-n.n c.in_ok-labels.labels.items q n c.in_ok-labels.ensures.items) (ap (map latch_row) c.in_ok-latches.ensures.items);
    }
