use Rattle.std.proofs.Common.{sym, subst}
use Rattle.std.proofs.lemmas.Result.{IfOk-weaker}
use Rattle.source_nets.specs.Ports.{source_file}
use Rattle.source_nets.specs.Survey.{IsModelGraph}
use Rattle.source_models.proofs.ModelLemmas.{reached_marks}
use Rattle.source_models.proofs.models.used_models.Goals as goal

pub returns : goal.returns
returns c =
    let file = source_file c.args.source.now in
    let is : IsModelGraph file c.in_ok-graph.graph = subst (IsModelGraph file) (sym c.in_ok-graph.ensures) c.requires.survey.graph in
    IfOk-weaker c.reach.result _ _ (λ marks are. reached_marks file c.requires.is_file c.in_ok-graph.graph is marks.items are) c.reach.ensures
