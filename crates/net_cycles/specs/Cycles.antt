-- Nodes on cycles.
use Rattle.std.specs.Prelude.{ℕ, suc, ◌<◌, List}
use Rattle.net_graph.specs.Chains.{Chain}

-- a chain of at least one edge back to the node
abbrev pub IsOnCycle : List (List ℕ) → ℕ → Type 0
IsOnCycle graph i = (n : ℕ) × Chain graph (suc n) i i

-- the first node that is on a cycle
pub record IsFirstOnCycle (graph : List (List ℕ)) (i : ℕ) : Type 0 where
  pub on_cycle : IsOnCycle graph i
  pub none_before : (k : ℕ) → k < i → IsOnCycle graph k → ⊥
