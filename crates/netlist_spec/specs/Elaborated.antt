-- The machine of gates that a sound source stands for, and the names of its ports and latches.
use Rattle.std.specs.Prelude.{◌≡◌, ℕ, ◌+◌, ◌<◌, ◌≤◌, ◌↔◌, List, [], ◌++◌, length, map, filter, not, Some, IsTrue, slice_get}
use Rattle.std.specs.List.{AllByRecursion, AllZip}
use Rattle.netlist_spec.specs.Lines.{ends_with_backslash}
use Rattle.netlist_spec.specs.Netlist.{Name, IsWordName, is_reserved, HasControlAmong, stands_in, are_distinct, Clocking, plain, Model, File}
use Rattle.netlist_spec.specs.Reads.{control_nets, first_appearances}
use Rattle.netlist_spec.specs.Covers.{Library}
use Rattle.netlist_spec.specs.Placed.{port_names}
use Rattle.netlist_spec.specs.Models.{latches_of, first_clocking, unknown_inits, data_inputs, latch_inputs, latch_outputs, output_nets, init_bits}
use Rattle.netlist_spec.specs.SourceRun.{Bits, SourceCycle}
use Rattle.netlist_spec.specs.Gates.{Machine, IsMachine, GateStep}
use Rattle.netlist_spec.specs.Size.{whole_cost}
use Rattle.netlist_spec.specs.Cones.{ConeCostOf, GateConeCost, RestsOnLatch, IsGateReached}

-- The gates behind net n are no more than the cone of net x costs, and n rests on no latch that x doesn't rest on.
pub record CostsNoMore (file : File) (library : Library) (m : Model) (machine : Machine) (x : Name) (n : ℕ) : Type 0 where
  pub cost : (gates cone : ℕ) → GateConeCost machine n gates → ConeCostOf file library m x cone → gates ≤ cone
  pub latches : (i : ℕ) → i < length machine.latches → IsGateReached machine n (machine.inputs + i) → RestsOnLatch file library m x i

-- The machine means what the main model means: as many inputs, latches and outputs, the inits, and the same
-- outputs and next state for each input and state.
pub record IsMachineOf (file : File) (library : Library) (m : Model) (machine : Machine) : Type 0 where
  pub well_formed : IsMachine machine
  pub inputs : machine.inputs ≡ length (data_inputs m)
  pub inits : map (λ r. r.init) machine.latches ≡ init_bits m
  pub outputs : length machine.outputs ≡ length (output_nets m)
  pub steps : (x s y next : Bits) → SourceCycle file library m x s y next ↔ GateStep machine [] x s y next
  -- at most the whole cost in gates
  pub size : length machine.net.gates ≤ whole_cost file library
  -- and for each D net and each output at most the costs of its cone
  pub stores : AllZip (λ x r. CostsNoMore file library m machine x r.d) (latch_inputs m) machine.latches
  pub cones : AllZip (λ x n. CostsNoMore file library m machine x n) (output_nets m) machine.outputs

-- A machine with the names of its source: the ports of the main model, its data inputs, outputs and latches in order,
-- and how its latches are clocked.
pub record Elaborated : Type 0 where
  pub machine : Machine
  pub model : Name
  pub input_ports : List Name
  pub clock_ports : List Name
  pub data_names : List Name
  pub output_names : List Name
  pub latch_names : List Name
  pub clocking : Clocking
  pub unknown_inits : ℕ

module _ (e : Elaborated) where
  -- the names of the leaves of the machine
  abbrev pub leaf_names : List Name
  leaf_names = e.data_names ++ e.latch_names

  abbrev pub elaborated_clocks : List Name
  elaborated_clocks = e.clock_ports ++ control_nets e.clocking

  -- An output's net is a leaf exactly where the output has that leaf's name.
  abbrev pub IsLeafWhereNamed : Name → ℕ → Type 0
  IsLeafWhereNamed name n = (i : ℕ) → i < e.machine.net.leaves → (n ≡ i) ↔ (slice_get leaf_names i ≡ Some name)

  -- What holds of every elaborated source: none of its names is driven twice, reserved or a clock net that is read.
  pub record HasElaboratedForm : Type 0 where
    pub well_formed : IsMachine e.machine
    pub inputs : length e.data_names ≡ e.machine.inputs
    pub outputs : length e.output_names ≡ length e.machine.outputs
    pub latches : length e.latch_names ≡ length e.machine.latches
    pub data_inputs : e.data_names ≡ filter (λ n. not (stands_in n elaborated_clocks)) e.input_ports
    pub leaves : AllZip IsLeafWhereNamed e.output_names e.machine.outputs
    pub control : HasControlAmong (e.input_ports ++ e.clock_ports) e.clocking
    pub clocking : e.latch_names ≡ [] → e.clocking ≡ plain
    pub words : AllByRecursion IsWordName (e.input_ports ++ e.clock_ports ++ e.output_names ++ e.latch_names)
    pub free : AllByRecursion (λ n. IsTrue (not (is_reserved n))) (e.input_ports ++ e.clock_ports ++ e.output_names ++ e.latch_names)
    pub model : IsWordName e.model × IsTrue (not (ends_with_backslash e.model))
    pub drivers : IsTrue (are_distinct (first_appearances (e.input_ports ++ e.clock_ports) ++ e.latch_names))
    pub input_ports : IsTrue (are_distinct e.input_ports)
    pub clock_ports : IsTrue (are_distinct e.clock_ports)
    pub output_ports : IsTrue (are_distinct e.output_names)
    pub clocks_unread : AllByRecursion (λ n. IsTrue (not (stands_in n elaborated_clocks))) e.output_names
    pub few_inputs : (length e.data_names ≤ 4096) × (length e.input_ports ≤ 131072) × (length e.clock_ports ≤ 131072)
    pub few_outputs : length e.output_names ≤ 4096
    pub few_latches : length e.latch_names ≤ 4096
    pub few_gates : length e.machine.net.gates ≤ 1000000

-- The source with main model m, elaborated: its machine, and its names in the order of its lines.
pub record IsElaborated (file : File) (library : Library) (m : Model) (e : Elaborated) : Type 0 where
  pub machine : IsMachineOf file library m e.machine
  pub model : e.model ≡ m.name
  pub input_ports : e.input_ports ≡ port_names m.inputs
  pub clock_ports : e.clock_ports ≡ port_names m.clocks
  pub data_names : e.data_names ≡ data_inputs m
  pub output_names : e.output_names ≡ output_nets m
  pub latch_names : e.latch_names ≡ latch_outputs m
  -- that of all latches, and none where there is no latch
  pub clocking : e.clocking ≡ first_clocking (latches_of m)
  pub unknown_inits : e.unknown_inits ≡ unknown_inits m
  pub form : HasElaboratedForm e
