-- The leaves of a machine, by the names that they stand for.
use Rattle.std.specs.Prelude.{◌≡◌, ℕ, ◌+◌, ◌≤◌, List, ◌++◌, length, Some, slice_get, IsTrue}
use Rattle.netlist_spec.specs.Netlist.{Name, are_distinct, Model}
use Rattle.netlist_spec.specs.Models.{data_inputs, latch_outputs}
use Rattle.lowering.specs.Nets.{net_in}

-- data inputs, and then latch outputs
abbrev pub leaf_names : Model → List Name
leaf_names m = data_inputs m ++ latch_outputs m

-- What a model keeps, so that its leaves can be numbered: distinct names, of which few are leaves.
pub record CanNumber (m : Model) : Type 0 where
  pub names : IsTrue (are_distinct m.names)
  pub leaves : IsTrue (are_distinct (leaf_names m))
  pub inputs : length (data_inputs m) ≤ 4096
  pub latches : length (latch_outputs m) ≤ 4096

-- A table has for each leaf, by the number of its name, the number of its net.
pub record HasLeaves (m : Model) (inputs leaves : ℕ) (table : List ℕ) : Type 0 where
  pub inputs_are : inputs ≡ length (data_inputs m)
  pub leaves_are : leaves ≡ length (data_inputs m) + length (latch_outputs m)
  pub size : length table ≡ length m.names
  pub each : (x : Name) (n : ℕ) → slice_get (leaf_names m) n ≡ Some x → net_in m.names table x ≡ n
