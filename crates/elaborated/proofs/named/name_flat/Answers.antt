use Rattle.std.proofs.Common.{◌≡◌, sym, ◌∙◌, ap, subst, ℕ, List, map, All}
use Rattle.imp_text.specs.declared.names.NameId.{NameId}
use Rattle.netlist_spec.specs.Gates.{GateList, LatchRow, Machine}
use Rattle.netlist_spec.specs.Written.{Named, Label, IsNamed}
use Rattle.netlist_spec.specs.Elaborated.{Elaborated}
use Rattle.gate_net.specs.declared.gate.NetId.{NetId}
use Rattle.gate_net.specs.Gate.{net_number}
use Rattle.gate_net.specs.Machine.{latch_row, machine_of}
use Rattle.blif_read.specs.View.{name_at, clocking_of}
use Rattle.blif_read.specs.Ids.{IsIdOf}
use Rattle.named_netlist.specs.Labels.{label_of, ids_in}
use Rattle.named_netlist.specs.declared.label.Label.{Label as NetLabel}
use Rattle.elaborated.specs.declared.elaborated.Elaborated.TheInside.{Inside}
use Rattle.elaborated.specs.Elaborated.{elaborated_of}
use Rattle.elaborated.specs.Flat.{AreFlatNets, IsFlatNamed, flat_named, flat_labels}
use Rattle.elaborated.specs.Labels.{labels_of}
use Rattle.elaborated.proofs.FlatNamed.{flat-is_named, flat-is_flat}
use Rattle.elaborated.proofs.FlatLabels.{labels_mapped, labels_within}
use Rattle.elaborated.proofs.named.name_flat.Goals as goal

abbrev named_with : Inside → List ℕ → GateList → List Label → List LatchRow → ℕ → Named
named_with e outputs net labels latches inputs =
    record {
      model = e.model;
      unknown_inits = e.unknown_inits;
      inputs = map (name_at e.names) e.input_ports.items;
      clocks = map (name_at e.names) e.clock_ports.items;
      outputs = outputs;
      clocking = clocking_of e.names e.clocking;
      net = net;
      labels = labels;
      latches = latches;
      data_inputs = inputs;
    }

linked : (e : Inside) (outputs : List ℕ) (net : GateList) (labels : List Label) (latches : List LatchRow) (inputs : ℕ) → AreFlatNets e.machine.net e.machine.outputs net outputs → labels ≡ flat_labels (elaborated_of e) → latches ≡ e.machine.latches → inputs ≡ e.machine.inputs
    → named_with e outputs net labels latches inputs ≡ flat_named (elaborated_of e)
linked e outputs net labels latches inputs nets l r i =
    let whole = flat_named (elaborated_of e) in
    ap (λ (x : List ℕ). named_with e x net labels latches inputs) nets.cells
    ∙ ap (λ (x : GateList). named_with e whole.outputs x labels latches inputs) nets.copies
    ∙ ap (λ (x : List Label). named_with e whole.outputs whole.net x latches inputs) l
    ∙ ap (λ (x : List LatchRow). named_with e whole.outputs whole.net whole.labels x inputs) r
    ∙ ap (λ (x : ℕ). named_with e whole.outputs whole.net whole.labels whole.latches x) i

named-labels : (e : Inside) (items : List NetLabel) (leaves latches outputs : List NameId) → items ≡ labels_of leaves latches e.machine outputs → leaves ≡ e.data_names.items → latches ≡ e.latch_names.items → outputs ≡ e.output_names.items
    → items ≡ labels_of e.data_names.items e.latch_names.items e.machine e.output_names.items
named-labels e items leaves latches outputs is d l o =
    is ∙ ap (λ (x : List NameId). labels_of x latches e.machine outputs) d ∙ ap (λ (x : List NameId). labels_of e.data_names.items x e.machine outputs) l
    ∙ ap (λ (x : List NameId). labels_of e.data_names.items e.latch_names.items e.machine x) o

labels-here : (e : Inside) (items : List NetLabel) → items ≡ labels_of e.data_names.items e.latch_names.items e.machine e.output_names.items → map (label_of e.names) items ≡ flat_labels (elaborated_of e)
labels-here e items is = ap (map (label_of e.names)) is ∙ labels_mapped e.names e.data_names.items e.latch_names.items e.machine e.output_names.items

same-named : (i : Inside) (e : Elaborated) (outputs : List NetId) (net : GateList) (items : List NetLabel) (leaves latches ends : List NameId) (m : Machine) → elaborated_of i ≡ e → AreFlatNets e.machine.net e.machine.outputs net (map net_number outputs)
    → items ≡ labels_of leaves latches i.machine ends → leaves ≡ i.data_names.items → latches ≡ i.latch_names.items → ends ≡ i.output_names.items → m ≡ i.machine
    → named_with i (map net_number outputs) net (map (label_of i.names) items) m.latches m.inputs ≡ flat_named (elaborated_of i)
same-named i e outputs net items leaves latches ends m view nets is l q o machine =
    linked i (map net_number outputs) net (map (label_of i.names) items) m.latches m.inputs
    (subst (λ (x : Elaborated). AreFlatNets x.machine.net x.machine.outputs net (map net_number outputs)) (sym view) nets)
    (labels-here i items (named-labels i items leaves latches ends is l q o)) (ap (λ (x : Machine). x.latches) machine) (ap (λ (x : Machine). x.inputs) machine)

pub invariant_of-result : goal.invariant_of-result
invariant_of-result c =
    let items = named-labels c.e.inside c.in_ok-labels.labels.items c.deref.result.now c.deref-2.result.now c.deref-3.result.now c.in_ok-labels.ensures c.deref.ensures.value c.deref-2.ensures.value c.deref-3.ensures.value in
    record {
      inputs = c.e.invariant.input_ports;
      clocks = c.e.invariant.clock_ports;
      control = c.e.invariant.control;
      labels =
          subst (λ (ls : List NetLabel). All (λ (l : NetLabel). All (IsIdOf c.e.inside.names) (ids_in l)) ls) (sym items)
          (labels_within c.e.inside.names c.e.inside.data_names.items c.e.inside.latch_names.items c.e.inside.machine c.e.inside.output_names.items c.e.invariant.data_names c.e.invariant.latch_names c.e.invariant.output_names);
      named = subst IsNamed (sym (same-named c.e.inside c.args.e c.args.nets.outputs.items c.args.nets.net c.in_ok-labels.labels.items c.deref.result.now c.deref-2.result.now c.deref-3.result.now (machine_of c.machine.inside.net c.machine.inside.inputs c.machine.inside.latches.items c.machine.inside.outputs.items)
          c.e.view_is c.requires c.in_ok-labels.ensures c.deref.ensures.value c.deref-2.ensures.value c.deref-3.ensures.value c.machine.view_is)) (flat-is_named (elaborated_of c.e.inside) c.e.invariant.form);
    }

pub returns-clause-flat : goal.returns-clause-flat
returns-clause-flat c =
    subst (λ (x : Elaborated). IsFlatNamed x (named_with c.e.inside (map net_number c.args.nets.outputs.items) c.args.nets.net (map (label_of c.e.inside.names) c.in_ok-labels.labels.items) (map latch_row c.machine.inside.latches.items) c.machine.inside.inputs)) c.e.view_is
    (subst (λ (g : Named). IsFlatNamed (elaborated_of c.e.inside) g) (sym (same-named c.e.inside c.args.e c.args.nets.outputs.items c.args.nets.net c.in_ok-labels.labels.items c.deref.result.now c.deref-2.result.now c.deref-3.result.now (machine_of c.machine.inside.net c.machine.inside.inputs c.machine.inside.latches.items c.machine.inside.outputs.items)
    c.e.view_is c.requires c.in_ok-labels.ensures c.deref.ensures.value c.deref-2.ensures.value c.deref-3.ensures.value c.machine.view_is)) (flat-is_flat (elaborated_of c.e.inside) c.e.invariant.form))

pub returns-clause-is_named : goal.returns-clause-is_named
returns-clause-is_named c =
    subst IsNamed
    (sym (same-named c.e.inside c.args.e c.args.nets.outputs.items c.args.nets.net c.in_ok-labels.labels.items c.deref.result.now c.deref-2.result.now c.deref-3.result.now (machine_of c.machine.inside.net c.machine.inside.inputs c.machine.inside.latches.items c.machine.inside.outputs.items)
    c.e.view_is c.requires c.in_ok-labels.ensures c.deref.ensures.value c.deref-2.ensures.value c.deref-3.ensures.value c.machine.view_is))
    (flat-is_named (elaborated_of c.e.inside) c.e.invariant.form)
