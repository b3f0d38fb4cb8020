use Rattle.std.proofs.Common.{◌∙◌, ap, filter_map, map}
use Rattle.netlist_spec.specs.Netlist.{Model, are_distinct}
use Rattle.blif_read.specs.View.{file_of, model_of}
use Rattle.source_nets.specs.declared.types.ModelSurvey.{ModelSurvey}
use Rattle.source_nets.specs.Graph.{model_place}
use Rattle.source_nets.specs.Survey.{IsModelSurvey, library_of}
use Rattle.source_nets.proofs.GraphLemmas.{graph_is}
use Rattle.source_nets.proofs.SurveyLemmas.{mapped_twice, zip_mapped}
use Rattle.source_nets.proofs.models.survey.Goals as goal

pub new-requires-clause-models : goal.new-requires-clause-models
new-requires-clause-models c = ap are_distinct (mapped_twice (λ (m : Model). m.name) model_of c.args.file.now.models.items) ∙ c.requires.is_file.distinct

pub returns : goal.returns
returns c =
    let F = file_of c.args.file.now in
    let L = library_of c.args.tables.now c.args.linears.now in
    let all = zip_mapped (IsModelSurvey F L) model_of c.args.file.now.models.items c.in_ok-models.models.items c.in_ok-models.ensures in
    record {
      models = all;
      graph = graph_is F L c.in_ok-models.models.items _ all (c.in_ok-graph.ensures ∙ ap (map (λ (s : ModelSurvey). filter_map model_place s.meanings.items)) c.deref-3.ensures.value);
    }
