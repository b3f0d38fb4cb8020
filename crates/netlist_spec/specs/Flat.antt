-- The flat netlist of a source.
use Rattle.std.specs.Prelude.{◌≡◌, ℕ, ◌+◌, ◌≤◌, ◌↔◌, List, length, map, Option, Some}
use Rattle.std.specs.List.{AllByRecursion}
use Rattle.netlist_spec.specs.Netlist.{Model, File}
use Rattle.netlist_spec.specs.Covers.{Library}
use Rattle.netlist_spec.specs.Placed.{port_names}
use Rattle.netlist_spec.specs.Models.{main_model, latches_of, gates_of, latch_outputs, output_nets, init_bit}
use Rattle.netlist_spec.specs.SourceRun.{Bits, Stream, SourceRun}
use Rattle.netlist_spec.specs.Ordered.{IsOrdered}
use Rattle.netlist_spec.specs.Runs.{FreeRun}
use Rattle.netlist_spec.specs.Size.{whole_cost}
use Rattle.netlist_spec.specs.Written.{written_init_of}
use Rattle.netlist_spec.specs.WrittenForm.{HasWrittenForm}

-- an init of a written netlist: 1 for INIT 1, and 0 otherwise
abbrev pub written_init : Option ℕ → Option ℕ
written_init init = written_init_of (init_bit init)

-- What a flat model has in common with the source's main model: name, ports, clocking, and the latches with
-- their names and order. Inits are 1 for INIT 1 and 0 otherwise.
pub record HasSourcePorts (g source : Model) : Type 0 where
  pub name : g.name ≡ source.name
  pub inputs : port_names g.inputs ≡ port_names source.inputs
  pub outputs : port_names g.outputs ≡ port_names source.outputs
  pub clocks : port_names g.clocks ≡ port_names source.clocks
  pub latches : latch_outputs g ≡ latch_outputs source
  pub clocking : map (λ l. l.clocking) (latches_of g) ≡ map (λ l. l.clocking) (latches_of source)
  pub inits : map (λ l. l.init) (latches_of g) ≡ map (λ l. written_init l.init) (latches_of source)

-- G is a flat netlist of the source.
pub record IsFlat (g source : File) (library : Library) : Type 0 where
  pub ordered : IsOrdered g
  pub flat_model : Model
  pub is_flat_model : main_model g ≡ Some flat_model
  pub source_model : Model
  pub is_source_model : main_model source ≡ Some source_model
  pub ports : HasSourcePorts flat_model source_model
  -- each `.names` has at most two inputs
  pub narrow : AllByRecursion (λ gate. length gate.ins ≤ 2) (gates_of flat_model)
  -- each is written for a gate, and only an output's cell has a name that isn't `guard:n0`, `guard:n1`, ..
  pub written : HasWrittenForm flat_model (output_nets flat_model)
  -- on every stream its run without faults has the source's outputs and stored bits
  pub same_runs : (xs : Stream) (states outs : List Bits) → SourceRun source library xs states outs ↔ FreeRun g xs states outs
  -- at most the whole cost plus the number of outputs in `.names`
  pub size : length (gates_of flat_model) ≤ whole_cost source library + length flat_model.outputs
