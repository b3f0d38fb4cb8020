-- Lists of the nodes in the order in which a depth-first search leaves them.
use Rattle.std.specs.Prelude.{◌≡◌, ◌⊎◌, ◌==◌, ℕ, ◌+◌, ◌<◌, ◌≤◌, List, length, take, count_by, slice_index_or, Contains}
use Rattle.net_graph.specs.Chains.{LeadsTo, ends_of}
use Rattle.net_cycles.specs.Visits.{to_enter}
use Rattle.net_cycles.specs.declared.finish.Visit.{Visit}

-- Of each edge from a node up to some place of the list, the end too stands up to there, or leads to the node at the place.
abbrev pub LeadsOn : List (List ℕ) → List ℕ → Type 0
LeadsOn graph order =
    (i : ℕ) → i < length order → (a b : ℕ) → Contains (take (i + 1) order) a → Contains (ends_of graph a) b
    → Contains (take (i + 1) order) b ⊎ LeadsTo graph b (slice_index_or order i 0)

-- The list has each node once.
pub record IsFinished (graph : List (List ℕ)) (order : List ℕ) : Type 0 where
  pub within : (k : ℕ) → Contains order k → k < length graph
  pub once : (k : ℕ) → count_by (λ j. j == k) order ≤ 1
  pub each : (k : ℕ) → k < length graph → Contains order k
  pub leads : LeadsOn graph order

pub record AreAllToEnter (nodes : ℕ) (stack : List Visit) : Type 0 where
  pub only : (t : Visit) → Contains stack t → (t ≡ to_enter t.node) × (t.node < nodes)
  pub each : (k : ℕ) → k < nodes → Contains stack (to_enter k)
