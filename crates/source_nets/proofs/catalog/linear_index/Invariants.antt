-- The names so far.
use Rattle.std.proofs.Common.{◌≡◌, map, take}
use Rattle.linear_layer.specs.declared.layer.NamedLinear.{NamedLinear}
use Rattle.source_nets.proofs.catalog.linear_index.Given as goal

abbrev pub invariant-loop-l : goal.invariant-loop-l
invariant-loop-l l = l.index ≡ map (λ (x : NamedLinear). x.name) (take l.l-index l.linears)
