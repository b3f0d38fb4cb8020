-- What the laws of the writer speak of: faults by name, and how the gates are labelled.
use Rattle.std.specs.Prelude.{◌≡◌, ◌<◌, Bool, true, false, List, map, filter, drop, length, not, IsTrue}
use Rattle.std.specs.List.{AllByRecursion, range_with_len}
use Rattle.netlist_spec.specs.Netlist.{Name, stands_in}
use Rattle.netlist_spec.specs.Runs.{Fault}
use Rattle.netlist_spec.specs.Gates.{NetFault}
use Rattle.netlist_spec.specs.GuardNames.{inner_name}
use Rattle.netlist_spec.specs.Written.{Label, inner, label_name, Named, net_name}
use Rattle.gate_net.specs.GateNet.{net_count}

-- a fault of a net, by the name of the net
abbrev pub fault_by_name : Named → NetFault → Fault
fault_by_name g a = record { cycle = a.cycle; cell = net_name g a.cell; bit = a.bit }

abbrev pub faults_by_name : Named → List NetFault → List Fault
faults_by_name g faults = map (fault_by_name g) faults

-- each fault is one of a net
abbrev pub AreOfNets : Named → List NetFault → Type 0
AreOfNets g faults = AllByRecursion (λ a. a.cell < net_count g.net) faults

-- the faults whose cells are nets
abbrev pub faults_of_nets : Named → List Fault → List Fault
faults_of_nets g faults = filter (λ a. stands_in a.cell (map label_name g.labels)) faults

-- The name of an inner label is none of these, and the name of every other label is one of them.
abbrev pub IsNamedOrInner : List Name → Label → Type 0
IsNamedOrInner named (inner i) = IsTrue (not (stands_in (inner_name i) named))
IsNamedOrInner named label = IsTrue (stands_in (label_name label) named)

abbrev pub is_inner : Label → Bool
is_inner (inner i) = true
is_inner _ = false

abbrev pub gate_label_list : Named → List Label
gate_label_list g = drop g.net.leaves g.labels

-- the inner labels among those of the gates
abbrev pub inner_labels : Named → List Label
inner_labels g = filter is_inner (gate_label_list g)

-- Each gate is one of the named nets or an inner net, and the inner nets are numbered from 0 in the order of the gates.
pub record HasNumberedInner (g : Named) (named : List Name) : Type 0 where
  pub each : AllByRecursion (IsNamedOrInner named) (gate_label_list g)
  pub order : inner_labels g ≡ map (λ i. inner i) (range_with_len 0 (length (inner_labels g)))
