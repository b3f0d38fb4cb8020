-- Which models a file uses, which contain themselves, and how deep they stand.
use Rattle.std.specs.Prelude.{◌↔◌, ℕ, suc, ◌<◌, ◌≤◌, List, Contains}
use Rattle.netlist_spec.specs.Netlist.{Model, File}
use Rattle.netlist_spec.specs.Covers.{Library}
use Rattle.netlist_spec.specs.Sound.{Places, Chain, IsMain, IsUsed}
use Rattle.netlist_spec.specs.SoundFaults.{ContainsItself, IsTooDeep}

module _ (file : File) where
  -- some chain leads from one model to another
  abbrev pub LeadsTo : Model → Model → Type 0
  LeadsTo a b = (n : ℕ) × Chain file n a b

  -- A chain of at least one step begins with a model that the first one places.
  abbrev pub ChainsBeginWithAStep : Model → Model → ℕ → Type 0
  ChainsBeginWithAStep a b n = Chain file (suc n) a b ↔ ((c : Model) × Places file a c × Chain file n c b)

  -- The list has models to which a chain leads, and each model that one of them places.
  pub record AreReached (a : Model) (reached : List Model) : Type 0 where
    pub start : Contains reached a
    pub each : (k : Model) → Contains reached k → LeadsTo a k
    pub closed : (m k : Model) → Contains reached m → Places file m k → Contains reached k

  abbrev pub ReachedAreAll : Model → List Model → Model → Type 0
  ReachedAreAll a reached k = AreReached a reached → LeadsTo a k ↔ Contains reached k

  -- the models that the main one reaches are the used ones
  abbrev pub UsedAreReached : Model → List Model → Model → Type 0
  UsedAreReached top reached k = IsMain file top → AreReached top reached → IsUsed file k ↔ Contains reached k

  -- A model contains itself where one that it places leads to it.
  abbrev pub ContainsItselfByAStep : Library → Model → Type 0
  ContainsItselfByAStep library m = ContainsItself file library m ↔ ((c : Model) × Places file m c × LeadsTo c m)

  -- A model that is placed stands on a higher level.
  abbrev pub AreLevels : (Model → ℕ) → Type 0
  AreLevels level = (m k : Model) → IsUsed file m → Places file m k → level m < level k

  abbrev pub LevelsHaveNoRecursion : Library → (Model → ℕ) → Model → Type 0
  LevelsHaveNoRecursion library level m = AreLevels level → IsUsed file m → ContainsItself file library m → ⊥

  -- Where each level is the length of a chain from the main model, a model is too deep exactly on a level past 16.
  abbrev pub LevelsAreDepths : Library → (Model → ℕ) → (top k : Model) → Type 0
  LevelsAreDepths library level top k =
      AreLevels level → IsMain file top → IsUsed file k → Chain file (level k) top k → IsTooDeep file library k ↔ (16 < level k)

  -- and no chain from the main model is longer than the level of its last model
  abbrev pub ChainsAreWithinLevels : (Model → ℕ) → (top k : Model) → ℕ → Type 0
  ChainsAreWithinLevels level top k n = AreLevels level → IsMain file top → Chain file n top k → n ≤ level k
