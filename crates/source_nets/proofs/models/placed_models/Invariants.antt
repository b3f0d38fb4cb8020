-- The places so far.
use Rattle.std.proofs.Common.{◌≡◌, filter_map, take}
use Rattle.source_nets.specs.Graph.{model_place}
use Rattle.source_nets.proofs.models.placed_models.Given as goal

abbrev pub invariant-loop-meaning : goal.invariant-loop-meaning
invariant-loop-meaning l = l.row.items ≡ filter_map model_place (take l.meaning-index l.meanings)
