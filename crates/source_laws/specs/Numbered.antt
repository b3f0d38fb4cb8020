-- What an elaborator has at its end: a machine, a number for each name, and the names in the order of the lines.
use Rattle.std.specs.Prelude.{◌≡◌, ℕ, ◌+◌, List, length, map, Some, slice_get}
use Rattle.std.specs.List.{range_with_len}
use Rattle.netlist_spec.specs.Netlist.{Name, Statement, Model, File}
use Rattle.netlist_spec.specs.Covers.{Library}
use Rattle.netlist_spec.specs.FileRules.{IsFile}
use Rattle.netlist_spec.specs.Placed.{port_names}
use Rattle.netlist_spec.specs.Models.{latches_of, first_clocking, unknown_inits, data_inputs, latch_inputs, latch_outputs, output_nets, init_bits}
use Rattle.netlist_spec.specs.Sound.{IsMain, IsSound}
use Rattle.netlist_spec.specs.Gates.{Machine, IsMachine, AnswersWithin}
use Rattle.netlist_spec.specs.Elaborated.{Elaborated, IsElaborated, IsMachineOf}
use Rattle.source_laws.specs.Costs.{statements_of, IsDriver, AreGatesOf}
use Rattle.source_laws.specs.Nets.{Nets, NetsFit}

-- The net is a gate of this statement.
pub record IsGateOf (m : Model) (leaves : ℕ) (owners : List ℕ) (s : Statement) (n : ℕ) : Type 0 where
  pub place : ℕ
  pub number : n ≡ leaves + place
  pub owner : ℕ
  pub owns : slice_get owners place ≡ Some owner
  pub statement : slice_get (statements_of m) owner ≡ Some s

-- The nets of the main model are numbered: data inputs and latch outputs are the leaves, and each net that a statement
-- drives is a gate of it.
pub record IsNumbered (file : File) (library : Library) (m : Model) (machine : Machine) (owners : List ℕ) (nets : Nets) : Type 0 where
  pub well_formed : IsMachine machine
  pub inits : map (λ r. r.init) machine.latches ≡ init_bits m
  pub inputs : map nets (data_inputs m) ≡ range_with_len 0 machine.inputs
  pub state : map nets (latch_outputs m) ≡ range_with_len machine.inputs (length machine.latches)
  pub driven : (x : Name) (s : Statement) → IsDriver file library m s x → IsGateOf m machine.net.leaves owners s (nets x)
  pub gates : AreGatesOf file library m machine.net.leaves owners machine.net
  pub fit : NetsFit file library (AnswersWithin machine.net machine.net.leaves (machine.net.leaves + length machine.net.gates)) m nets
  pub outputs : map nets (output_nets m) ≡ machine.outputs
  pub stores : map nets (latch_inputs m) ≡ map (λ r. r.d) machine.latches

-- the names of the main model, in the order of its lines
pub record HasNamesOf (m : Model) (e : Elaborated) : Type 0 where
  pub model : e.model ≡ m.name
  pub input_ports : e.input_ports ≡ port_names m.inputs
  pub clock_ports : e.clock_ports ≡ port_names m.clocks
  pub data_names : e.data_names ≡ data_inputs m
  pub output_names : e.output_names ≡ output_nets m
  pub latch_names : e.latch_names ≡ latch_outputs m
  pub clocking : e.clocking ≡ first_clocking (latches_of m)
  pub unknown_inits : e.unknown_inits ≡ unknown_inits m

module _ (file : File) (library : Library) (m : Model) where
  -- A machine whose nets are numbered so means what the source means.
  abbrev pub NumberedMachinesAreOfTheirSource : Machine → List ℕ → Nets → Type 0
  NumberedMachinesAreOfTheirSource machine owners nets =
      IsSound file library → IsMain file m → IsNumbered file library m machine owners nets → IsMachineOf file library m machine

  -- With the names of the main model it is the source, elaborated.
  abbrev pub NumberedSourcesAreElaborated : Elaborated → List ℕ → Nets → Type 0
  NumberedSourcesAreElaborated e owners nets =
      IsFile file → IsSound file library → IsMain file m → IsNumbered file library m e.machine owners nets → HasNamesOf m e → IsElaborated file library m e
