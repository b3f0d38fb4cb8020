-- The rows so far.
use Rattle.std.proofs.Common.{◌≡◌, map, take, Vec, ℕ}
use Rattle.std.specs.declared.alloc.Global.{Global}
use Rattle.source_models.proofs.models.model_graph.Given as goal

abbrev pub invariant-loop-row : goal.invariant-loop-row
invariant-loop-row l = l.graph ≡ map (λ (row : Vec ℕ Global). row.items) (take l.row-index l.row-items)
