-- Cycles of a graph, and orders of marked nodes in which each stands behind its ends.
use Rattle.std.specs.Prelude.{◌≡◌, ◌==◌, ◌↔◌, ◌⊎◌, ℕ, ◌<◌, ◌≤◌, Bool, false, List, [], if◌then◌else◌, length, take, count_by, Some, slice_get, slice_index_or, Contains}
use Rattle.net_cycles.specs.Cycles.{IsOnCycle}
use Rattle.net_graph.specs.Chains.{IsMarked, ends_of}
use Rattle.source_models.specs.declared.sort.Sorted.{Sorted}
use Rattle.source_models.specs.declared.sort.Sorted.TheVariants.{Order, OnCycle}

-- An edge from a marked node leads to a marked one.
abbrev pub IsClosed : List (List ℕ) → List Bool → Type 0
IsClosed graph marks = (i j : ℕ) → IsMarked marks i → Contains (ends_of graph i) j → IsMarked marks j

-- The order has the marked nodes, each once, and what an edge leads to from a node stands before it.
pub record IsEndsFirst (graph : List (List ℕ)) (marks : List Bool) (order : List ℕ) : Type 0 where
  pub items : (i : ℕ) → Contains order i ↔ IsMarked marks i
  pub once : (i : ℕ) → count_by (λ k. k == i) order ≤ 1
  pub earlier : (k i j : ℕ) → slice_get order k ≡ Some i → Contains (ends_of graph i) j → Contains (take k order) j

-- Some marked nodes are in such an order, and from each of the others an edge leads to one of the others.
pub record Settles (graph : List (List ℕ)) (marks : List Bool) (order : List ℕ) (left : List Bool) : Type 0 where
  pub items : (i : ℕ) → Contains order i → IsMarked marks i
  pub once : (i : ℕ) → count_by (λ k. k == i) order ≤ 1
  pub earlier : (k i j : ℕ) → slice_get order k ≡ Some i → Contains (ends_of graph i) j → Contains (take k order) j
  pub left_marked : (i : ℕ) → IsMarked left i → IsMarked marks i
  pub goes_on : (i : ℕ) → IsMarked left i → (k : ℕ) × Contains (ends_of graph i) k × IsMarked left k
  pub others : (i : ℕ) → IsMarked marks i → Contains order i ⊎ IsMarked left i

-- the first marked node that is on a cycle
pub record IsFirstOnCycle (graph : List (List ℕ)) (marks : List Bool) (i : ℕ) : Type 0 where
  pub marked : IsMarked marks i
  pub on_cycle : IsOnCycle graph i
  pub none_before : (k : ℕ) → k < i → IsMarked marks k → IsOnCycle graph k → ⊥

-- The first rows of the graph, where those of nodes without a mark are empty.
pub record IsPart (graph : List (List ℕ)) (marks : List Bool) (nodes : ℕ) (part : List (List ℕ)) : Type 0 where
  pub size : length part ≡ nodes
  pub rows : (i : ℕ) → i < nodes → ends_of part i ≡ (if slice_index_or marks i false then ends_of graph i else [])

abbrev pub IsSorted : List (List ℕ) → List Bool → Sorted → Type 0
IsSorted graph marks (Order order) = IsEndsFirst graph marks order.items
IsSorted graph marks (OnCycle i) = IsFirstOnCycle graph marks i
