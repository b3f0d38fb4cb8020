-- The edges of a cone graph.
use Rattle.std.specs.Prelude.{ℕ, List, Option, filter_map}
use Rattle.imp_text.specs.declared.names.NameId.{NameId}
use Rattle.plain_size.specs.Nodes.{node_at}

-- the nodes of some nets
abbrev pub ends_in : List (Option ℕ) → List NameId → List ℕ
ends_in nodes nets = filter_map (λ (id : NameId). node_at nodes id.0) nets
