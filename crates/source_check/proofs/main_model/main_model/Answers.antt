use Rattle.blif_read.specs.View.{model_of}
use Rattle.source_nets.specs.Ports.{source_file, source_library}
use Rattle.source_nets.specs.Survey.{IsModelSurvey}
use Rattle.source_check.proofs.TestLemmas.{first_zip}
use Rattle.source_check.proofs.main_model.main_model.Goals as goal

pub returns-clause-survey : goal.returns-clause-survey
returns-clause-survey c =
    let s = c.args.source.now in
    first_zip (IsModelSurvey (source_file s) (source_library s)) model_of s.file.now.models.items c.args.survey.now.models.items c.index.result.now c.index-2.result.now c.requires.is_file.some_model c.index.ensures c.index-2.ensures c.requires.surveyed.models
