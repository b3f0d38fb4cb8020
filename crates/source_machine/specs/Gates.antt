-- What the gates of a main model are.
use Rattle.std.specs.Prelude.{◌≡◌, ℕ, ◌+◌, List, length, Some, slice_get}
use Rattle.netlist_spec.specs.Netlist.{Name, Statement, Model, File}
use Rattle.netlist_spec.specs.Covers.{Library}
use Rattle.netlist_spec.specs.Gates.{GateList, AnswersWithin}
use Rattle.netlist_spec.specs.Models.{data_inputs, latch_outputs}
use Rattle.source_laws.specs.Costs.{IsDriver, AreGatesOf}
use Rattle.source_laws.specs.Nets.{NetsFit}
use Rattle.source_laws.specs.Numbered.{IsGateOf}
use Rattle.lowering.specs.Nets.{net_in}
use Rattle.source_machine.specs.Leaves.{leaf_names}

-- A table has for each name, by its number, the number of its net: the leaves as they are numbered, and for what a statement
-- drives a gate of it. Where the gates answer, these nets fit the model.
pub record HasGates (file : File) (library : Library) (m : Model) (net : GateList) (table : List ℕ) : Type 0 where
  pub owners : List ℕ
  pub leaves : net.leaves ≡ length (data_inputs m) + length (latch_outputs m)
  pub size : length table ≡ length m.names
  pub each : (x : Name) (n : ℕ) → slice_get (leaf_names m) n ≡ Some x → net_in m.names table x ≡ n
  pub driven : (x : Name) (s : Statement) → IsDriver file library m s x → IsGateOf m net.leaves owners s (net_in m.names table x)
  pub gates : AreGatesOf file library m net.leaves owners net
  pub fit : NetsFit file library (AnswersWithin net net.leaves (net.leaves + length net.gates)) m (net_in m.names table)
