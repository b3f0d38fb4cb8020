-- What the statements of a source cost, each cost cut off at one more than a source may cost.
use Rattle.std.specs.Prelude.{◌≡◌, ℕ, List, [], length, map, min, sum_by, Option, None, Some, slice_get, Contains, ⊤}
use Rattle.netlist_spec.specs.Netlist.{Located, Model, File}
use Rattle.netlist_spec.specs.Covers.{Library}
use Rattle.netlist_spec.specs.Size.{cost_of, cost_to_depth}
use Rattle.netlist_spec.specs.Sound.{Places}
use Rattle.source_laws.specs.Costs.{statements_of}
use Rattle.source_nets.specs.declared.types.Meaning.{Meaning}
use Rattle.source_nets.specs.declared.types.Meaning.TheVariants as meaning

abbrev pub cut : ℕ → ℕ
cut cost = min cost 1000001

-- the statements of a model, and none where there is no model
abbrev pub statements_in : Option Model → List Located
statements_in None = []
statements_in (Some m) = m.statements

-- the cost of each of some statements, cut off
abbrev pub cut_costs : File → Library → List Located → List ℕ
cut_costs file library statements = map (λ s. cut (cost_of file library s.what)) statements

-- what the statements of a model cost
abbrev pub inner_cost : File → Library → Model → ℕ
inner_cost file library m = sum_by (cost_of file library) (statements_of m)

-- what the statements of a model cost where it is placed
abbrev pub placed_inside : File → Library → Model → ℕ
placed_inside file library m = cost_to_depth file library (length file.models) (statements_of m)

-- Where a model is placed, the number at its place is what its statements cost, cut off.
abbrev pub IsCosted : File → Library → List ℕ → Meaning → Type 0
IsCosted file library inner (meaning.Model k) = (c : Model) → slice_get file.models k ≡ Some c → slice_get inner k ≡ Some (cut (placed_inside file library c))
IsCosted file library inner _ = ⊤

-- a number for each model; at some places it is what the statements of the model cost, cut off
pub record AreInnerCosts (file : File) (library : Library) (places inner : List ℕ) : Type 0 where
  pub each : length inner ≡ length file.models
  pub costs : (j : ℕ) (c : Model) → Contains places j → slice_get file.models j ≡ Some c → slice_get inner j ≡ Some (cut (inner_cost file library c))

-- a number for each model; at those that the model at a place places it is what their statements cost, cut off
pub record AreCostsBelow (file : File) (library : Library) (i : ℕ) (inner : List ℕ) : Type 0 where
  pub each : length inner ≡ length file.models
  pub costs : (j : ℕ) (m c : Model) → slice_get file.models i ≡ Some m → slice_get file.models j ≡ Some c → Places file m c → slice_get inner j ≡ Some (cut (inner_cost file library c))
