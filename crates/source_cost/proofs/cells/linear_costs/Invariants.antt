-- The costs so far.
use Rattle.std.proofs.Common.{◌≡◌, map, take}
use Rattle.netlist_spec.specs.Size.{linear_cost}
use Rattle.linear_layer.specs.declared.layer.NamedLinear.{NamedLinear}
use Rattle.source_cost.proofs.cells.linear_costs.Given as goal

abbrev pub invariant-loop-l : goal.invariant-loop-l
invariant-loop-l l = l.costs.items ≡ map (λ (x : NamedLinear). linear_cost x.layer) (take l.l-index l.linears)
