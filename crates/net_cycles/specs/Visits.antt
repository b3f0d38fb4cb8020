-- What stands on the stack of a depth-first search.
use Rattle.std.specs.Prelude.{ℕ, true, false, List, ◌∷◌, map}
use Rattle.net_graph.specs.Chains.{ends_of}
use Rattle.net_cycles.specs.declared.finish.Visit.{Visit}

abbrev pub to_enter : ℕ → Visit
to_enter k = record { node = k; is_open = false }

abbrev pub opened : ℕ → Visit
opened k = record { node = k; is_open = true }

-- an open node, and above it its ends
abbrev pub opening : List (List ℕ) → ℕ → List Visit
opening graph k = opened k ∷ map to_enter (ends_of graph k)
