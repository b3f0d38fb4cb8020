-- What the labelling of a guard makes: its gate list with names.
use Rattle.std.proofs.Common.{◌≡◌, sym, ◌∙◌, ap, subst, ℕ, ◌+◌, ◌≤◌, List, length, map, All, arith}
use Rattle.std.proofs.lemmas.List.{length-map}
use Rattle.netlist_spec.specs.Gates.{Machine}
use Rattle.netlist_spec.specs.GateRanges.{Region}
use Rattle.netlist_spec.specs.Elaborated.{Elaborated, HasElaboratedForm}
use Rattle.netlist_spec.specs.Written.{Label, Named, IsNamed}
use Rattle.imp_text.specs.declared.names.NameId.{NameId}
use Rattle.blif_read.specs.View.{name_at, clocking_of}
use Rattle.gate_net.specs.Gate.{net_number}
use Rattle.gate_net.specs.Machine.{latch_row}
use Rattle.guard_spec.specs.Codes.{Code, IsCode, data_places}
use Rattle.guard_spec.specs.Words.{Layout, IsPartition}
use Rattle.guard_spec.specs.Regions.{Guarded}
use Rattle.guard_laws.specs.Named.{IsGuardNamed}
use Rattle.blif_read.specs.Ids.{IsIdOf}
use Rattle.named_netlist.specs.Labels.{label_of, ids_in}
use Rattle.named_netlist.specs.declared.label.Label.{Label as NetLabel}
use Rattle.elaborated.specs.declared.elaborated.Elaborated.TheInside.{Inside}
use Rattle.elaborated.specs.Elaborated.{elaborated_of}
use Rattle.guard_names.specs.declared.named.GuardNets.{GuardNets}
use Rattle.guard_names.specs.OfGuard.{CanLabel, guard_labels_of}
use Rattle.guard_names.specs.ToName.{guarded_of, IsToName}
use Rattle.guard_names.proofs.NamedGuard.{is_named, is_guard}
use Rattle.guard_names.proofs.Labelled.{labels_by_names, labels_mapped, labels_within, can_label}

abbrev pub named_with : Inside → GuardNets → List Label → ℕ → Named
named_with e g labels inputs =
    record {
      model = e.model;
      unknown_inits = e.unknown_inits;
      inputs = map (name_at e.names) e.input_ports.items;
      clocks = map (name_at e.names) e.clock_ports.items;
      outputs = map net_number g.outputs.items;
      clocking = clocking_of e.names e.clocking;
      net = g.net;
      labels = labels;
      latches = map latch_row g.latches.items;
      data_inputs = inputs;
    }

-- Names and regions of a guard: which regions it has doesn't matter.
any_regions : (n : Named) (g : Guarded) (e : Elaborated) (code : Code) (l : Layout) (regions : List Region) → IsGuardNamed n g e code l → IsGuardNamed n (record g { regions = regions }) e code l
any_regions n g e code l regions is = record {
  machine = is.machine;
  model = is.model;
  unknown_inits = is.unknown_inits;
  inputs = is.inputs;
  clocks = is.clocks;
  clocking = is.clocking;
  outputs = is.outputs;
  shows = is.shows;
  stores = is.stores;
  inner = is.inner;
}

abbrev pub IsFinished : GuardNets → Elaborated → Code → Layout → Named → Type 0
IsFinished g e code l n = IsNamed n × ((regions : List Region) → IsGuardNamed n (guarded_of g e.machine.inputs regions) e code l)

module _ (i : Inside) (g : GuardNets) (code : Code) (is_code : IsCode code) (l : Layout) (form : HasElaboratedForm (elaborated_of i)) where
  abbrev by_names : Named
  by_names = named_with i g (labels_by_names g (map (name_at i.names) i.data_names.items) (map (name_at i.names) i.output_names.items) l code.columns) i.machine.inputs

  named_here : IsPartition (length (elaborated_of i).latch_names) (data_places code) l.state → IsPartition (length (elaborated_of i).output_names) (data_places code) l.output → IsToName g (elaborated_of i) code l
      → length g.latches.items + length g.net.gates ≤ 1000000 → g.rails ≤ 17 → IsFinished g (elaborated_of i) code l by_names
  named_here state output to cells rails =
      let count = length-map g.latches.items latch_row in
      let few : length (map latch_row g.latches.items) + length g.net.gates ≤ 1000000 = omega arith in (
        is_named (elaborated_of i) form code is_code l state output (guarded_of g i.machine.inputs to.regions) to.mode to.radius to.guard few rails,
        λ regions. any_regions by_names (guarded_of g i.machine.inputs to.regions) (elaborated_of i) code l regions (is_guard (elaborated_of i) form code is_code l state output (guarded_of g i.machine.inputs to.regions) to.mode to.radius to.guard few rails),
      )

  pub finished : (e : Elaborated) → elaborated_of i ≡ e → IsPartition (length e.latch_names) (data_places code) l.state → IsPartition (length e.output_names) (data_places code) l.output → IsToName g e code l
      → length g.latches.items + length g.net.gates ≤ 1000000 → g.rails ≤ 17
      → (items : List NetLabel) (inputs outputs : List NameId) (columns : ℕ) (m : Machine) → items ≡ guard_labels_of g inputs outputs l columns → inputs ≡ i.data_names.items → outputs ≡ i.output_names.items → columns ≡ code.columns → m ≡ i.machine
      → IsFinished g e code l (named_with i g (map (label_of i.names) items) m.inputs)
  finished e view state output to cells rails items inputs outputs columns m is d o k machine =
      let labels : map (label_of i.names) items ≡ labels_by_names g (map (name_at i.names) i.data_names.items) (map (name_at i.names) i.output_names.items) l code.columns
      = ap (map (label_of i.names)) is ∙ labels_mapped i.names g inputs outputs l columns
      ∙ ap (λ (ids : List NameId). labels_by_names g (map (name_at i.names) ids) (map (name_at i.names) outputs) l columns) d
      ∙ ap (λ (ids : List NameId). labels_by_names g (map (name_at i.names) i.data_names.items) (map (name_at i.names) ids) l columns) o
      ∙ ap (λ (j : ℕ). labels_by_names g (map (name_at i.names) i.data_names.items) (map (name_at i.names) i.output_names.items) l j) k in
      let same : named_with i g (map (label_of i.names) items) m.inputs ≡ by_names
      = ap (λ (ls : List Label). named_with i g ls m.inputs) labels
      ∙ ap (λ (x : Machine). named_with i g (labels_by_names g (map (name_at i.names) i.data_names.items) (map (name_at i.names) i.output_names.items) l code.columns) x.inputs) machine in
      subst (λ (n : Named). IsFinished g e code l n) (sym same)
      (subst (λ (x : Elaborated). IsPartition (length x.latch_names) (data_places code) l.state → IsPartition (length x.output_names) (data_places code) l.output → IsToName g x code l → IsFinished g x code l by_names) view
      (λ a b c. named_here a b c cells rails) state output to)

  pub labelled : (e : Elaborated) → elaborated_of i ≡ e → IsPartition (length e.latch_names) (data_places code) l.state → IsPartition (length e.output_names) (data_places code) l.output → IsToName g e code l
      → (inputs outputs : List NameId) (columns : ℕ) → inputs ≡ i.data_names.items → outputs ≡ i.output_names.items → columns ≡ code.columns → CanLabel g (length inputs) (length outputs) l columns
  labelled e view state output to inputs outputs columns d o k =
      subst (λ (x : Elaborated). IsPartition (length x.latch_names) (data_places code) l.state → IsPartition (length x.output_names) (data_places code) l.output → IsToName g x code l → CanLabel g (length inputs) (length outputs) l columns) view
      (λ a b t. can_label (elaborated_of i) form code is_code l a b g t.regions t.mode t.radius t.guard (length inputs) (length outputs) columns
      (ap (λ (ids : List NameId). length ids) d ∙ sym (length-map i.data_names.items (name_at i.names))) (ap (λ (ids : List NameId). length ids) o ∙ sym (length-map i.output_names.items (name_at i.names))) k)
      state output to

  pub ids_within : (e : Elaborated) → elaborated_of i ≡ e → IsPartition (length e.latch_names) (data_places code) l.state → IsPartition (length e.output_names) (data_places code) l.output → IsToName g e code l
      → (items : List NetLabel) (inputs outputs : List NameId) (columns : ℕ) → items ≡ guard_labels_of g inputs outputs l columns → inputs ≡ i.data_names.items → outputs ≡ i.output_names.items → columns ≡ code.columns
      → All (IsIdOf i.names) i.data_names.items → All (IsIdOf i.names) i.output_names.items → All (λ (x : NetLabel). All (IsIdOf i.names) (ids_in x)) items
  ids_within e view state output to items inputs outputs columns is d o k hd ho =
      subst (λ (ls : List NetLabel). All (λ (x : NetLabel). All (IsIdOf i.names) (ids_in x)) ls) (sym is)
      (labels_within i.names g inputs outputs l columns (subst (λ (ids : List NameId). All (IsIdOf i.names) ids) (sym d) hd) (subst (λ (ids : List NameId). All (IsIdOf i.names) ids) (sym o) ho)
      (labelled e view state output to inputs outputs columns d o k).rising)
