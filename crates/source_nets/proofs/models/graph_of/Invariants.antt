-- The rows so far.
use Rattle.std.proofs.Common.{◌≡◌, filter_map, map, take, Vec, ℕ}
use Rattle.std.specs.declared.alloc.Global.{Global}
use Rattle.source_nets.specs.declared.types.ModelSurvey.{ModelSurvey}
use Rattle.source_nets.specs.Graph.{model_place}
use Rattle.source_nets.proofs.models.graph_of.Given as goal

abbrev pub invariant-loop-m : goal.invariant-loop-m
invariant-loop-m l = map (λ (row : Vec ℕ Global). row.items) l.graph.items ≡ map (λ (s : ModelSurvey). filter_map model_place s.meanings.items) (take l.m-index l.models)
