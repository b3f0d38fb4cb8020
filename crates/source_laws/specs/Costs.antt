-- What the cones of a model cost, and gates that are appended statement by statement.
use Rattle.std.specs.Prelude.{◌≡◌, ◌⊎◌, ◌↔◌, ℕ, ◌+◌, ◌≤◌, List, [], ◌++◌, length, map, take, replicate, Some, slice_get, IsTrue, Contains, sum_by}
use Rattle.std.specs.List.{AllByRecursion}
use Rattle.netlist_spec.specs.Netlist.{Name, stands_in, Bind, Statement, subckt, Model, File}
use Rattle.netlist_spec.specs.Covers.{Library}
use Rattle.netlist_spec.specs.Placed.{a_model, placed}
use Rattle.netlist_spec.specs.Models.{data_inputs, latch_outputs}
use Rattle.netlist_spec.specs.Size.{cost_of, whole_cost}
use Rattle.netlist_spec.specs.Sound.{combines, drives, reads, HasOneDriverEach, ReadsFor, IsMain, IsUsed}
use Rattle.netlist_spec.specs.SoundFaults.{ContainsItself}
use Rattle.netlist_spec.specs.Gates.{GateList, Machine, IsMachine, ReadsNet}
use Rattle.netlist_spec.specs.Cones.{IsInCone, ConeCostOf, RestsOnLatch}
use Rattle.netlist_spec.specs.Elaborated.{CostsNoMore}
use Rattle.source_laws.specs.Settling.{given_nets}

abbrev pub statements_of : Model → List Statement
statements_of m = map (λ l. l.what) m.statements

-- The net stands for a net of the model: it is the leaf of a data input or of a latch output, a gate of the driver, or it
-- stands for a net that the driver reads. `owners` has for each gate the place of its statement.
pub data StandsFor (file : File) (library : Library) (m : Model) (leaves : ℕ) (owners : List ℕ) : Name → ℕ → Type 0 where
  a_leaf : {x : Name} {n : ℕ} → slice_get (data_inputs m ++ latch_outputs m) n ≡ Some x → StandsFor file library m leaves owners x n
  a_gate : {x : Name} {n : ℕ} (place owner : ℕ) (s : Statement)
      → n ≡ leaves + place → slice_get owners place ≡ Some owner
      → slice_get (statements_of m) owner ≡ Some s → IsTrue (combines s) → IsTrue (stands_in x (drives file library s))
      → StandsFor file library m leaves owners x n
  passed_on : {x k : Name} {n : ℕ} → ReadsFor file library m x k → StandsFor file library m leaves owners k n → StandsFor file library m leaves owners x n

-- Each gate from net `first` on reads some of these nets, or nets from `first` on.
abbrev pub ReadsAlone : GateList → ℕ → List ℕ → Type 0
ReadsAlone net first ins = (n k : ℕ) → first ≤ n → ReadsNet net n k → Contains ins k ⊎ (first ≤ k)

-- Gates that are appended statement by statement. Those of a statement are no more than it costs, and read nets that stand
-- for what it reads, and each other.
pub data AreGatesOf (file : File) (library : Library) (m : Model) (leaves : ℕ) : List ℕ → GateList → Type 0 where
  no_gates : AreGatesOf file library m leaves [] (record { leaves = leaves; gates = [] })
  more_gates : {owners : List ℕ} {old new : GateList} (owner count : ℕ) (s : Statement) (ins : List ℕ)
      → AreGatesOf file library m leaves owners old
      → slice_get (statements_of m) owner ≡ Some s → IsTrue (combines s) → (Contains owners owner → ⊥)
      → new.leaves ≡ old.leaves → take (length old.gates) new.gates ≡ old.gates → length new.gates ≡ length old.gates + count
      → count ≤ cost_of file library s
      → ReadsAlone new (old.leaves + length old.gates) ins
      → AllByRecursion (λ k. (r : Name) × IsTrue (stands_in r (reads file library s)) × StandsFor file library m leaves owners r k) ins
      → AreGatesOf file library m leaves (owners ++ replicate count owner) new

module _ (file : File) (library : Library) (m : Model) where
  -- A net has one cone, and so one cost.
  abbrev pub ConesHaveOneCost : Name → (a b : ℕ) → Type 0
  ConesHaveOneCost x a b = ConeCostOf file library m x a → ConeCostOf file library m x b → a ≡ b

  -- the cone of some net that a statement reads
  abbrev pub IsInConeBehind : Statement → Statement → Type 0
  IsInConeBehind s t = (k : Name) × IsTrue (stands_in k (reads file library s)) × IsInCone file library m k t

  abbrev pub RestsBehind : Statement → ℕ → Type 0
  RestsBehind s i = (k : Name) × IsTrue (stands_in k (reads file library s)) × RestsOnLatch file library m k i

  -- a statement of the model that combines, and drives the net
  pub record IsDriver (s : Statement) (x : Name) : Type 0 where
    pub stands : Contains (statements_of m) s
    pub combines : IsTrue (combines s)
    pub drives : IsTrue (stands_in x (drives file library s))

  -- The cone of a net is its driver, and the cones of what the driver reads. It rests on the latches on which they rest.
  abbrev pub ConeIsDriverAndReads : Statement → Name → Type 0
  ConeIsDriverAndReads s x =
      HasOneDriverEach file library m → IsDriver s x
      → ((t : Statement) → Contains (statements_of m) t → IsInCone file library m x t ↔ ((s ≡ t) ⊎ IsInConeBehind s t))
      × ((i : ℕ) → RestsOnLatch file library m x i ↔ RestsBehind s i)

  -- The cone of an input, a clock or a latch output is empty.
  abbrev pub ConesOfGivenAreEmpty : Name → Type 0
  ConesOfGivenAreEmpty x = HasOneDriverEach file library m → IsTrue (stands_in x (given_nets m)) → (t : Statement) → Contains (statements_of m) t → IsInCone file library m x t → ⊥

  -- Where gates are appended statement by statement, those behind a net are no more than the cone of its name costs.
  abbrev pub GatesCostNoMore : Machine → List ℕ → Name → ℕ → Type 0
  GatesCostNoMore machine owners x n =
      IsMachine machine → machine.inputs ≡ length (data_inputs m) → length machine.latches ≡ length (latch_outputs m)
      → AreGatesOf file library m machine.net.leaves owners machine.net → StandsFor file library m machine.net.leaves owners x n
      → CostsNoMore file library m machine x n

  abbrev pub GatesAreWithinCost : GateList → List ℕ → Type 0
  GatesAreWithinCost net owners = IsMain file m → AreGatesOf file library m net.leaves owners net → length net.gates ≤ whole_cost file library

  -- What stands for a net goes on to stand for it.
  abbrev pub StandingIsKept : (leaves : ℕ) (owners more : List ℕ) → Name → ℕ → Type 0
  StandingIsKept leaves owners more x n = StandsFor file library m leaves owners x n → StandsFor file library m leaves (owners ++ more) x n

  -- A placed model costs 1, its port words and its statements, where no used model contains itself.
  abbrev pub PlacedModelsCost : Name → List Bind → Model → Type 0
  PlacedModelsCost name binds k =
      ((j : Model) → IsUsed file j → ContainsItself file library j → ⊥) → IsUsed file m → Contains (statements_of m) (subckt name binds) → placed file library name ≡ a_model k
      → cost_of file library (subckt name binds) ≡ 1 + length binds + sum_by (cost_of file library) (statements_of k)

-- Gates that are appended in two steps read what the first step is given, where the second is given that or gates of the first.
abbrev pub ReadsCompose : (old middle new : GateList) → (ins more : List ℕ) → Type 0
ReadsCompose old middle new ins more =
    middle.leaves ≡ old.leaves → new.leaves ≡ middle.leaves → length old.gates ≤ length middle.gates → take (length middle.gates) new.gates ≡ middle.gates
    → ReadsAlone middle (old.leaves + length old.gates) ins → ReadsAlone new (middle.leaves + length middle.gates) more
    → AllByRecursion (λ k. Contains ins k ⊎ (old.leaves + length old.gates ≤ k)) more
    → ReadsAlone new (old.leaves + length old.gates) ins
