-- The names so far.
use Rattle.std.proofs.Common.{◌≡◌, map, take}
use Rattle.blif_read.specs.declared.file.Model.{Model}
use Rattle.source_nets.proofs.catalog.model_index.Given as goal

abbrev pub invariant-loop-m : goal.invariant-loop-m
invariant-loop-m l = l.index ≡ map (λ (x : Model). x.name) (take l.m-index l.models)
