-- The costs of the models so far.
use Rattle.std.proofs.Common.{take}
use Rattle.source_nets.specs.Ports.{source_file, source_library}
use Rattle.source_cost.specs.Costs.{AreInnerCosts}
use Rattle.source_cost.proofs.models.inner_costs.Given as goal

abbrev pub invariant-loop-place : goal.invariant-loop-place
invariant-loop-place l = AreInnerCosts (source_file l.source) (source_library l.source) (take l.place-index l.order) l.inner.items
