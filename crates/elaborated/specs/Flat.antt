-- The flat netlist of an elaborated source.
use Rattle.std.specs.Prelude.{◌≡◌, ℕ, ◌+◌, ◌≤◌, ◌↔◌, false, List, [], ◌∷◌, ◌++◌, length, map, filter, not, nat_lt, Some, if◌then◌else◌}
use Rattle.std.specs.List.{AllByRecursion, range_with_len}
use Rattle.netlist_spec.specs.Netlist.{Name, stands_in, Model, File}
use Rattle.netlist_spec.specs.Covers.{Library}
use Rattle.netlist_spec.specs.Placed.{port_names}
use Rattle.netlist_spec.specs.Models.{main_model, latches_of, first_clocking, init_bits, unknown_inits, latch_outputs, output_nets}
use Rattle.netlist_spec.specs.Size.{whole_cost}
use Rattle.netlist_spec.specs.SourceRun.{Bits, SourceCycle}
use Rattle.netlist_spec.specs.Gates.{GateForm, one, GateList, Machine, GateStep}
use Rattle.netlist_spec.specs.GuardNames.{inner_name}
use Rattle.netlist_spec.specs.Elaborated.{Elaborated}
use Rattle.netlist_spec.specs.Written.{Label, given, inner, Named, output_names, latch_labels, gate_labels}
use Rattle.gate_net.specs.GateNet.{net_count}
use Rattle.gate_net.specs.Written.{named_machine}

-- those of some items beside which the net of a gate stands, and no leaf
abbrev pub at_gates : {A : Type 0} → ℕ → List A → List ℕ → List A
at_gates leaves [] nets = []
at_gates leaves (x ∷ xs) [] = []
at_gates leaves (x ∷ xs) (n ∷ nets) = if nat_lt n leaves then at_gates leaves xs nets else x ∷ at_gates leaves xs nets

-- a copy of each output that is a gate
abbrev pub copies_of : ℕ → List ℕ → List GateForm
copies_of leaves outputs = map (λ n. one false n) (at_gates leaves outputs outputs)

-- An output that is a leaf is that net. The others have cells of their own, from net `next` on.
abbrev pub output_cells : ℕ → ℕ → List ℕ → List ℕ
output_cells leaves next [] = []
output_cells leaves next (n ∷ ns) = if nat_lt n leaves then n ∷ output_cells leaves next ns else next ∷ output_cells leaves (next + 1) ns

-- The gates of a net, then a copy for each output that is none of its leaves, and the nets of the outputs.
pub record AreFlatNets (base : GateList) (ends : List ℕ) (net : GateList) (outputs : List ℕ) : Type 0 where
  pub copies : net ≡ record base { gates = base.gates ++ copies_of base.leaves ends }
  pub cells : outputs ≡ output_cells base.leaves (net_count base) ends

module _ (e : Elaborated) where
  -- the names of the outputs that have a cell of their own
  abbrev pub cell_names : List Name
  cell_names = at_gates e.machine.net.leaves e.output_names e.machine.outputs

  -- data inputs, latches, the machine's gates by number, and the cells of outputs
  abbrev pub flat_labels : List Label
  flat_labels =
      map (λ n. given n) e.data_names ++ map (λ n. given n) e.latch_names
      ++ map (λ i. inner i) (range_with_len 0 (length e.machine.net.gates)) ++ map (λ n. given n) cell_names

  abbrev pub flat_named : Named
  flat_named =
      record {
        model = e.model;
        unknown_inits = e.unknown_inits;
        inputs = e.input_ports;
        clocks = e.clock_ports;
        outputs = output_cells e.machine.net.leaves (net_count e.machine.net) e.machine.outputs;
        clocking = e.clocking;
        net = record e.machine.net { gates = e.machine.net.gates ++ copies_of e.machine.net.leaves e.machine.outputs };
        labels = flat_labels;
        latches = e.machine.latches;
        data_inputs = e.machine.inputs;
      }

-- The two machines take the same inputs and states to the same outputs and next states.
abbrev pub HaveSameSteps : Machine → Machine → Type 0
HaveSameSteps m k = (x s y next : Bits) → GateStep m [] x s y next ↔ GateStep k [] x s y next

-- All latches of a model have one pair of TYPE and CONTROL, or none has one.
abbrev pub AreClockedAlike : Model → Type 0
AreClockedAlike m = AllByRecursion (λ l. l.clocking ≡ first_clocking (latches_of m)) (latches_of m)

-- What a flat netlist keeps of a source with main model m that is elaborated: the names of its lines, how its latches are
-- clocked and start, each cycle, and the cost.
pub record StandsForSource (file : File) (library : Library) (m : Model) (e : Elaborated) : Type 0 where
  pub is_main : main_model file ≡ Some m
  pub model : e.model ≡ m.name
  pub input_ports : e.input_ports ≡ port_names m.inputs
  pub clock_ports : e.clock_ports ≡ port_names m.clocks
  pub output_names : e.output_names ≡ output_nets m
  pub latch_names : e.latch_names ≡ latch_outputs m
  pub clocking : AllByRecursion (λ l. l.clocking ≡ e.clocking) (latches_of m)
  pub inits : map (λ r. r.init) e.machine.latches ≡ init_bits m
  pub unknown_inits : e.unknown_inits ≡ unknown_inits m
  pub steps : (x s y next : Bits) → SourceCycle file library m x s y next ↔ GateStep e.machine [] x s y next
  pub size : length e.machine.net.gates ≤ whole_cost file library

-- What a flat netlist has of the elaborated source: the ports with their names, the latches with their names and order,
-- and each cycle. The cells that are no outputs are `guard:n0`, `guard:n1`, .. in order, one for each gate of the machine.
pub record IsFlatNamed (e : Elaborated) (g : Named) : Type 0 where
  pub model : g.model ≡ e.model
  pub unknown_inits : g.unknown_inits ≡ e.unknown_inits
  pub inputs : g.inputs ≡ e.input_ports
  pub clocks : g.clocks ≡ e.clock_ports
  pub clocking : g.clocking ≡ e.clocking
  pub data_inputs : g.data_inputs ≡ e.machine.inputs
  pub output_names : output_names g ≡ e.output_names
  pub latch_names : latch_labels g ≡ e.latch_names
  pub latches : g.latches ≡ e.machine.latches
  pub steps : HaveSameSteps (named_machine g) e.machine
  pub inner : filter (λ n. not (stands_in n e.output_names)) (gate_labels g) ≡ map inner_name (range_with_len 0 (length e.machine.net.gates))
  pub size : length g.net.gates ≤ length e.machine.net.gates + length e.output_names
