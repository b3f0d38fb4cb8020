use Rattle.std.proofs.Common.{◌≡◌, [], ◌∷◌, ◌++◌, codes, map, Some, true, false, ap, ◌∙◌}
use Rattle.netlist_spec.specs.Netlist.{edge}
use Rattle.netlist_spec.specs.Gates.{GateForm, GateList, constant, one, two}
use Rattle.gate_net.specs.Gate.{net_number}
use Rattle.gate_net.specs.Machine.{latch_row}
use Rattle.imp_text.specs.Names.{with_name}
use Rattle.blif_read.specs.Ids.{IsIdOf}
use Rattle.blif_read.specs.View.{name_at}
use Rattle.named_netlist.specs.Labels.{label_of}
use Rattle.blif_write_tests.proofs.EachKindLemmas.{bit_name, last_name, kinds_net, HaveNames, kinds-with, control-is, control-inside, inputs-named, inputs-inside, labels-named, labels-inside}
use Rattle.blif_write_tests.proofs.InverterLemmas.{none-at}
use Rattle.blif_read.proofs.SpelledLemmas.{number-later}
use Rattle.blif_write_tests.proofs.tests.each_kind.Goals as goal

abbrev more : GateForm → GateList → GateList
more x net = record net { gates = net.gates ++ x ∷ [] }

pub invariant_of-result : goal.invariant_of-result
invariant_of-result c =
    let all = c.intern-3.new.self in
    let grown = c.in_ok-last.ensures.names ∙ ap (λ l. with_name l last_name) c.in_ok-bit.ensures.names in
    let names : HaveNames all c.in_ok-clock.clock c.in_ok-bit.bit c.in_ok-last.last = record {
      is_clock = number-later c.intern.new.self (bit_name ∷ last_name ∷ []) all c.in_ok-clock.clock (codes "clk") grown c.in_ok-clock.ensures.place;
      is_bit = number-later c.intern-2.new.self (last_name ∷ []) all c.in_ok-bit.bit bit_name c.in_ok-last.ensures.names c.in_ok-bit.ensures.place;
      is_last = c.in_ok-last.ensures.place;
    } in
    let net : c.push-5.new.self ≡ kinds_net
    = c.in_ok-push-5.ensures.ok
    ∙ ap (λ m. more (two 7 0 1) m) (c.in_ok-push-4.ensures.ok
    ∙ ap (λ m. more (one true 1) m) (c.in_ok-push-3.ensures.ok
    ∙ ap (λ m. more (one false 0) m) (c.in_ok-push-2.ensures.ok
    ∙ ap (λ m. more (constant true) m) (c.in_ok-push.ensures.ok ∙ ap (λ m. more (constant false) m) c.in_ok-net.ensures)))) in
    record {
      inputs = inputs-inside all c.in_ok-clock.clock c.in_ok-bit.bit c.in_ok-last.last names c.in_ok-inputs.inputs.items c.in_ok-inputs.ensures.items;
      clocks = none-at (IsIdOf all) c.new-3.result.items c.new-3.ensures.items;
      control = control-inside all c.in_ok-clock.clock c.in_ok-bit.bit c.in_ok-last.last names;
      labels = labels-inside all c.in_ok-clock.clock c.in_ok-bit.bit c.in_ok-last.last names c.in_ok-labels.labels.items c.in_ok-labels.ensures.items;
      named = kinds-with c.in_ok-model.model (map (name_at all) c.in_ok-inputs.inputs.items) (map (name_at all) c.new-3.result.items) (map net_number c.in_ok-outputs.outputs.items) (edge true (Some (name_at all c.in_ok-clock.clock))) c.push-5.new.self
          (map (label_of all) c.in_ok-labels.labels.items) (map latch_row c.in_ok-latches.latches.items)
          c.in_ok-model.ensures (inputs-named all c.in_ok-clock.clock c.in_ok-bit.bit c.in_ok-last.last names c.in_ok-inputs.inputs.items c.in_ok-inputs.ensures.items) (ap (map (name_at all)) c.new-3.ensures.items) (ap (map net_number) c.in_ok-outputs.ensures.items)
          (ap (edge true) (control-is all c.in_ok-clock.clock c.in_ok-bit.bit c.in_ok-last.last names)) net (labels-named all c.in_ok-clock.clock c.in_ok-bit.bit c.in_ok-last.last names c.in_ok-labels.labels.items c.in_ok-labels.ensures.items) (ap (map latch_row) c.in_ok-latches.ensures.items);
    }
