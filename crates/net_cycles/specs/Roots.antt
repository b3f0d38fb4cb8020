-- Roots: for each node the last one of a list to which it leads. The graph is given with each edge turned round.
use Rattle.std.specs.Prelude.{◌≡◌, ◌↔◌, ◌⊎◌, ℕ, ◌<◌, ◌≤◌, Bool, List, length, slice_index_or, Contains}
use Rattle.net_graph.specs.Chains.{IsMarked, LeadsTo, ends_of}

-- the node at this place of the list is the root of the node
pub record IsRootAt (back : List (List ℕ)) (order : List ℕ) (node root at : ℕ) : Type 0 where
  pub inside : at < length order
  pub is : root ≡ slice_index_or order at 0
  pub leads : LeadsTo back root node
  pub last : (m : ℕ) → m < length order → LeadsTo back (slice_index_or order m 0) node → m ≤ at

pub record AreRoots (back : List (List ℕ)) (order roots : List ℕ) : Type 0 where
  pub size : length roots ≡ length back
  pub each : (k : ℕ) → k < length back → (at : ℕ) × IsRootAt back order k (slice_index_or roots k 0) at

-- All nodes that a chain leads to from the root are marked now, and those that were not have it as their root.
pub record Gathers (back : List (List ℕ)) (root : ℕ) (marks : List Bool) (roots : List ℕ) (marks' : List Bool) (roots' : List ℕ) : Type 0 where
  pub size_marks : length marks' ≡ length back
  pub size_roots : length roots' ≡ length back
  pub marked : (k : ℕ) → IsMarked marks' k ↔ (IsMarked marks k ⊎ LeadsTo back root k)
  pub kept : (k : ℕ) → IsMarked marks k → slice_index_or roots' k 0 ≡ slice_index_or roots k 0
  pub found : (k : ℕ) → IsMarked marks' k → (IsMarked marks k → ⊥) → slice_index_or roots' k 0 ≡ root

-- An edge leads from the node to one with the same root.
abbrev pub HasRootedEdge : List (List ℕ) → List ℕ → ℕ → Type 0
HasRootedEdge graph roots a = (b : ℕ) × Contains (ends_of graph a) b × (slice_index_or roots b 0 ≡ slice_index_or roots a 0)

pub record IsFirstRooted (graph : List (List ℕ)) (roots : List ℕ) (a : ℕ) : Type 0 where
  pub within : a < length graph
  pub rooted : HasRootedEdge graph roots a
  pub none_before : (k : ℕ) → k < a → HasRootedEdge graph roots k → ⊥
