-- Graphs whose edges lead the other way.
use Rattle.std.specs.Prelude.{◌≡◌, ◌↔◌, ◌⊎◌, ℕ, List, length, Contains}
use Rattle.net_graph.specs.Chains.{ends_of}

pub record IsReversed (graph back : List (List ℕ)) : Type 0 where
  pub size : length back ≡ length graph
  pub edges : (a b : ℕ) → Contains (ends_of back b) a ↔ Contains (ends_of graph a) b

-- The edges of one more node are turned round.
pub record Adds (node : ℕ) (ends : List ℕ) (before after : List (List ℕ)) : Type 0 where
  pub size : length after ≡ length before
  pub edges : (a b : ℕ) → Contains (ends_of after b) a ↔ (Contains (ends_of before b) a ⊎ ((a ≡ node) × Contains ends b))
