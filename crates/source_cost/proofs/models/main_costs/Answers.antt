use Rattle.std.proofs.Common.{◌≡◌, ◌<◌, ℕ, zero, suc, Bool, false, ◌==◌, length, vec_len, arith}
use Rattle.std.proofs.lemmas.List.{length-map}
use Rattle.std.proofs.lemmas.Result.{IfOk-weaker}
use Rattle.blif_read.specs.View.{model_of}
use Rattle.source_nets.specs.Ports.{source_file, source_library}
use Rattle.source_cost.proofs.CostLemmas.{below_first, first_is_used, main_each, main_total}
use Rattle.source_cost.proofs.models.main_costs.Goals as goal

some_where_not_empty : (n : ℕ) (is_empty : Bool) → is_empty ≡ (n == 0) → is_empty ≡ false → 0 < n
some_where_not_empty zero is_empty e f = cc (e, f)
some_where_not_empty (suc n) is_empty e f = omega arith

pub model_costs-requires-clause-inner : goal.model_costs-requires-clause-inner
model_costs-requires-clause-inner c =
    below_first (source_file c.args.source.now) (source_library c.args.source.now) c.args.order.now c.in_ok-inner.inner.items c.deref-3.result.now c.requires.order c.in_ok-inner.ensures c.deref-3.ensures.value

pub model_costs-requires-clause-used : goal.model_costs-requires-clause-used
model_costs-requires-clause-used c = first_is_used (source_file c.args.source.now)

pub returns : goal.returns
returns c =
    let F = source_file c.args.source.now in
    let L = source_library c.args.source.now in
    let models = c.args.source.now.file.now.models in
    let mapped = length-map models.items model_of in
    let some = some_where_not_empty (vec_len models) c.is_empty.result c.is_empty.ensures c.if-is_empty.false in
    let within : 0 < length F.models = omega (arith, models.ok.0) in
    record {
      each = IfOk-weaker c.model_costs.result _ _ (λ costs each. main_each F L F.models costs.items within each) c.model_costs.ensures;
      total = IfOk-weaker c.model_costs.result _ _ (λ costs each. main_total F L F.models costs.items within each) c.model_costs.ensures;
    }
