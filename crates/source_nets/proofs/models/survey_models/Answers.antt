use Rattle.std.proofs.Common.{◌+◌, sym, subst, take, All}
use Rattle.std.specs.List.{AllZip}
use Rattle.blif_read.specs.declared.file.Model.{Model}
use Rattle.blif_read.specs.Ids.{HasIds}
use Rattle.blif_read.specs.View.{model_of}
use Rattle.source_nets.specs.declared.types.ModelSurvey.{ModelSurvey}
use Rattle.source_nets.specs.Ports.{source_file, source_library}
use Rattle.source_nets.specs.Survey.{IsModelSurvey}
use Rattle.source_nets.proofs.SurveyLemmas.{zip_more}
use Rattle.source_nets.proofs.models.survey_models.Goals as goal

pub survey_model-requires-clause-ids : goal.survey_model-requires-clause-ids
survey_model-requires-clause-ids c =
    subst HasIds (sym c.m-item.is) (subst (All HasIds) (sym c.deref-m-items.ensures.value) c.requires.source.ids c.loop-m.m-index c.m-item.result c.loop-m-test.true)

pub loop-m-preserved : goal.loop-m-preserved
loop-m-preserved c =
    let R : Model → ModelSurvey → Type 0 = λ m survey. IsModelSurvey (source_file c.args.source.now) (source_library c.args.source.now) (model_of m) survey in
    subst (AllZip R (take (c.loop-m.m-index + 1) c.deref-m-items.result.now)) (sym c.in_ok-push.ensures.items)
    (zip_more R c.deref-m-items.result.now c.loop-m.models.items c.loop-m.m-index c.m-item.result c.in_ok-survey_model.field-0 c.loop-m-test.true c.m-item.is c.loop-m.invariant c.in_ok-survey_model.ensures)
