-- Walks through a graph, and what the nodes cost that they meet.
use Rattle.std.specs.Prelude.{◌≡◌, ℕ, ◌+◌, ◌-◌, ◌^◌, ◌<◌, ◌≤◌, Bool, List, length, map, min, Option, None, Some, ◌==◌, All}
use Rattle.netlist_spec.specs.Cones.{marked_sum}
use Rattle.net_graph.specs.Chains.{AreMarked, IsMarked, LeadsTo}
use Rattle.net_graph.specs.Search.{Visits}
use Rattle.plain_size.specs.declared.walk.Walk.{Walk}

-- what the marked nodes cost
abbrev pub cost_sum : List ℕ → List Bool → ℕ
cost_sum costs marks = marked_sum (λ c. c) costs marks

-- a mark at each node to which a chain leads from the start
abbrev pub AreReached : List (List ℕ) → ℕ → List Bool → Type 0
AreReached graph start marks = AreMarked (length graph) marks (LeadsTo graph start)

-- What the nodes cost to which chains lead, each once. It is none where some of them cost more than the limit together with
-- a total.
abbrev pub IsReachCost : List (List ℕ) → List ℕ → ℕ → ℕ → Option ℕ → Type 0
IsReachCost graph costs start total None = (some : List Bool) × ((k : ℕ) → IsMarked some k → LeadsTo graph start k) × (1000000 < total + cost_sum costs some)
IsReachCost graph costs start total (Some n) = (marks : List Bool) × AreReached graph start marks × (n ≡ cost_sum costs marks) × (total + n ≤ 1000000)

-- the nodes that a walk has met
abbrev pub met : Walk → List Bool
met walk = map (λ s. s == walk.stamp) walk.stamps.items

-- as much of a sum as 32 bits can tell
abbrev pub told : ℕ → ℕ
told n = min n (2 ^ 32 - 1)

abbrev pub stamps_of : Walk → List ℕ
stamps_of walk = walk.stamps.items

-- A walk meets some nodes.
pub record Walks (costs ends : List ℕ) (old new : Walk) : Type 0 where
  pub stamp : new.stamp ≡ old.stamp
  pub within : All (λ s. s ≤ old.stamp) (stamps_of old) → All (λ s. s ≤ old.stamp) (stamps_of new)
  pub visits : Visits ends (met old) old.waiting.items (met new) new.waiting.items
  pub sum : old.sum ≡ told (cost_sum costs (met old)) → new.sum ≡ told (cost_sum costs (met new))
