use Rattle.std.proofs.Common.{◌≡◌, ◌<◌, ◌∙◌, sym, ap, length, Some, rules, arith}
use Rattle.std.proofs.lemmas.List.{length-map}
use Rattle.std.proofs.lemmas.Result.{IfOk-weaker}
use Rattle.netlist_spec.specs.Netlist.{Model as SpecModel}
use Rattle.blif_read.specs.View.{model_of}
use Rattle.source_nets.specs.Ports.{source_file, source_library}
use Rattle.source_nets.specs.Survey.{IsModelSurvey}
use Rattle.source_nets.proofs.SurveyLemmas.{zip_length}
use Rattle.source_laws.proofs.Lists.{among_map}
use Rattle.source_cost.specs.Costs.{IsCosted, cut_costs}
use Rattle.source_cost.proofs.CostLemmas.{costed_each, mapped_place, within_at, zip_mapped_at}
use Rattle.source_cost.proofs.models.model_costs.Goals as goal

pub index-requires : goal.index-requires
index-requires c =
    let same = zip_length _ _ _ c.requires.survey.models in
    let i : c.args.i < length c.args.survey.now.models.items = omega (arith, c.requires.within) in
    search rules

pub statement_costs-requires-clause-survey : goal.statement_costs-requires-clause-survey
statement_costs-requires-clause-survey c =
    let F = source_file c.args.source.now in
    let L = source_library c.args.source.now in
    let ms = c.args.source.now.file.now.models.items in
    let mapped = length-map ms model_of in
    zip_mapped_at (IsModelSurvey F L) model_of ms c.args.survey.now.models.items c.args.i c.index-m.result.now c.index.result.now c.requires.survey.models (omega arith) c.index-m.ensures c.index.ensures

pub statement_costs-requires-clause-costed : goal.statement_costs-requires-clause-costed
statement_costs-requires-clause-costed c =
    let F = source_file c.args.source.now in
    let L = source_library c.args.source.now in
    let ms = c.args.source.now.file.now.models.items in
    let mapped = length-map ms model_of in
    let m = c.index-m.result.now in
    let inner = c.args.inner.now in
    let is : IsModelSurvey F L (model_of m) c.index.result.now
    = zip_mapped_at (IsModelSurvey F L) model_of ms c.args.survey.now.models.items c.args.i m c.index.result.now c.requires.survey.models (omega arith) c.index-m.ensures c.index.ensures in
    let at = mapped_place model_of ms c.args.i m (omega arith) c.index-m.ensures in
    let all = costed_each F L (c.placed_models_cost_their_statements.ensures F L) c.requires.no_recursion (model_of m) (c.requires.used (model_of m) at) inner
    (λ j k at_k places. c.requires.inner.costs j (model_of m) k at at_k places) (model_of m).statements c.index.result.now.meanings.items
    (among_map (λ l. l.what) (model_of m).statements) is.means in
    λ k d within. within_at (IsCosted F L inner) c.index.result.now.meanings.items k d all within

pub returns : goal.returns
returns c =
    let F = source_file c.args.source.now in
    let L = source_library c.args.source.now in
    let ms = c.args.source.now.file.now.models.items in
    let mapped = length-map ms model_of in
    let m = c.index-m.result.now in
    let here = mapped_place model_of ms c.args.i m (omega arith) c.index-m.ensures in
    IfOk-weaker c.statement_costs.result _ _ (λ costs e k at.
    let both : Some (model_of m) ≡ Some k = sym here ∙ at in
    let same : model_of m ≡ k = cc both in
    e ∙ ap (λ (x : SpecModel). cut_costs F L x.statements) same) c.statement_costs.ensures
