-- Chains of edges, and marks at nodes.
use Rattle.std.specs.Prelude.{◌≡◌, ◌↔◌, ◌⊎◌, ℕ, zero, suc, ◌<◌, Bool, false, List, [], length, slice_index_or, All, Contains, IsTrue}

-- the ends of a node, and none of what is no node
abbrev pub ends_of : List (List ℕ) → ℕ → List ℕ
ends_of graph n = slice_index_or graph n []

-- Each end is a node.
abbrev pub IsGraph : List (List ℕ) → Type 0
IsGraph graph = All (λ ends. All (λ k. k < length graph) ends) graph

-- a chain of so many edges from one node to another
abbrev pub Chain : List (List ℕ) → ℕ → ℕ → ℕ → Type 0
Chain graph zero a b = a ≡ b
Chain graph (suc n) a b = (c : ℕ) × Chain graph n a c × Contains (ends_of graph c) b

-- some chain, of any length
abbrev pub LeadsTo : List (List ℕ) → ℕ → ℕ → Type 0
LeadsTo graph a b = (n : ℕ) × Chain graph n a b

-- a chain of more than so many edges
abbrev pub LeadsPast : List (List ℕ) → ℕ → ℕ → ℕ → Type 0
LeadsPast graph steps a b = (n : ℕ) × (steps < n) × Chain graph n a b

abbrev pub IsMarked : List Bool → ℕ → Type 0
IsMarked marks k = IsTrue (slice_index_or marks k false)

-- Each node has a mark or none, and those of this kind have one.
pub record AreMarked (size : ℕ) (marks : List Bool) (P : ℕ → Type 0) : Type 0 where
  pub each_node : length marks ≡ size
  pub exact : (k : ℕ) → IsMarked marks k ↔ P k

-- A chain leads to it from a node that is marked.
abbrev pub IsReached : List (List ℕ) → List Bool → ℕ → Type 0
IsReached graph marks k = (s : ℕ) × IsMarked marks s × LeadsTo graph s k

-- An edge leads to it from a node that is marked.
abbrev pub IsNext : List (List ℕ) → List Bool → ℕ → Type 0
IsNext graph marks k = (s : ℕ) × IsMarked marks s × Contains (ends_of graph s) k

abbrev pub IsMarkedOr : List Bool → List ℕ → ℕ → Type 0
IsMarkedOr marks more k = IsMarked marks k ⊎ Contains more k
