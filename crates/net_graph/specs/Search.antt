-- One step of a search: the ends of a node are marked, and those that had no mark are kept for later.
use Rattle.std.specs.Prelude.{◌≡◌, ◌⊎◌, ℕ, ◌+◌, Bool, List, length, not, count_by, Contains}
use Rattle.net_graph.specs.Chains.{IsMarked}

pub record Visits (ends : List ℕ) (marks : List Bool) (waiting : List ℕ) (marks' : List Bool) (waiting' : List ℕ) : Type 0 where
  pub size : length marks' ≡ length marks
  pub kept : (k : ℕ) → IsMarked marks k → IsMarked marks' k
  pub stays : (k : ℕ) → Contains waiting k → Contains waiting' k
  pub all : (k : ℕ) → Contains ends k → IsMarked marks' k
  pub added : (k : ℕ) → IsMarked marks' k → IsMarked marks k ⊎ (Contains ends k × Contains waiting' k)
  pub opened : (k : ℕ) → Contains waiting' k → Contains waiting k ⊎ Contains ends k
  pub pending : count_by not marks' + length waiting' ≡ count_by not marks + length waiting
