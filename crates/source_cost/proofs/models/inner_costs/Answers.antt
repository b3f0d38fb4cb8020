use Rattle.std.proofs.Common.{◌∙◌, ap, List, ℕ}
use Rattle.std.specs.Prelude.{sum}
use Rattle.source_nets.specs.Ports.{source_file, source_library}
use Rattle.source_cost.specs.Costs.{cut}
use Rattle.source_cost.proofs.CostLemmas.{below_order, cut_total, one_more}
use Rattle.source_cost.proofs.models.inner_costs.Goals as goal

pub model_costs-requires-clause-inner : goal.model_costs-requires-clause-inner
model_costs-requires-clause-inner c =
    let F = source_file c.args.source.now in
    let L = source_library c.args.source.now in
    let k = c.loop-place.place-index in
    below_order F L c.args.order.now c.loop-place.inner.items c.deref.result.now k c.requires.order c.loop-place-test.true c.loop-place.invariant c.deref.ensures.value

pub loop-place-preserved : goal.loop-place-preserved
loop-place-preserved c =
    let F = source_file c.args.source.now in
    let L = source_library c.args.source.now in
    let k = c.loop-place.place-index in
    one_more F L c.args.order.now c.loop-place.inner.items k c.total_cost.result c.loop-place-test.true (c.requires.order.within k 0 c.loop-place-test.true)
    (λ m at. c.total_cost.ensures ∙ ap (λ (ns : List ℕ). cut (sum ns)) (c.deref-in-loop-place.ensures.value ∙ c.in_ok-costs.ensures m at) ∙ cut_total F L m)
    c.loop-place.invariant
