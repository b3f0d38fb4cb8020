-- What an elaborator owes to a sound source, statement by statement, and that this is all.
use Rattle.std.specs.Prelude.{◌≡◌, ℕ, Bool, false, List, [], length, map}
use Rattle.std.specs.List.{AllByRecursion, AllZip}
use Rattle.netlist_spec.specs.Netlist.{Model, File}
use Rattle.netlist_spec.specs.Covers.{Library}
use Rattle.netlist_spec.specs.Models.{init_bits, clock_nets, data_inputs, latch_inputs, latch_outputs, output_nets}
use Rattle.netlist_spec.specs.Fits.{Valuation, Fits}
use Rattle.netlist_spec.specs.SourceRun.{Bits}
use Rattle.netlist_spec.specs.Sound.{IsMain, IsSound}
use Rattle.netlist_spec.specs.Gates.{Machine, IsMachine, GateValues}
use Rattle.netlist_spec.specs.Elaborated.{IsMachineOf}
use Rattle.source_laws.specs.Costs.{StandsFor, AreGatesOf}

-- A valuation of the nets of the model has the bits of a machine's cycle.
pub record HasBitsOf (file : File) (library : Library) (m : Model) (machine : Machine) (x s : Bits) (v : ℕ → Bool) : Type 0 where
  pub values : Valuation
  pub fits : Fits file library m values
  pub inputs : map values (data_inputs m) ≡ x
  pub state : map values (latch_outputs m) ≡ s
  pub clocks : AllByRecursion (λ n. values n ≡ false) (clock_nets m)
  pub outputs : map values (output_nets m) ≡ map v machine.outputs
  pub stores : map values (latch_inputs m) ≡ map v (map (λ r. r.d) machine.latches)

-- The machine was made of the model statement by statement. `owners` has for each gate the place of its statement.
pub record IsLowered (file : File) (library : Library) (m : Model) (machine : Machine) (owners : List ℕ) : Type 0 where
  pub well_formed : IsMachine machine
  pub inputs : machine.inputs ≡ length (data_inputs m)
  pub inits : map (λ r. r.init) machine.latches ≡ init_bits m
  pub gates : AreGatesOf file library m machine.net.leaves owners machine.net
  pub stores : AllZip (λ x r. StandsFor file library m machine.net.leaves owners x r.d) (latch_inputs m) machine.latches
  pub outputs : AllZip (λ x n. StandsFor file library m machine.net.leaves owners x n) (output_nets m) machine.outputs
  pub meaning : (x s : Bits) (v : ℕ → Bool) → GateValues machine s x [] v → HasBitsOf file library m machine x s v

-- Such a machine means what the source means, and is no larger.
abbrev pub LoweredMachinesAreOfTheirSource : File → Library → Model → Machine → List ℕ → Type 0
LoweredMachinesAreOfTheirSource file library m machine owners = IsSound file library → IsMain file m → IsLowered file library m machine owners → IsMachineOf file library m machine
