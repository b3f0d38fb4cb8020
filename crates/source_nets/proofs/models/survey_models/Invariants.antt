-- What is known of the models so far.
use Rattle.std.proofs.Common.{take}
use Rattle.std.specs.List.{AllZip}
use Rattle.blif_read.specs.declared.file.Model.{Model}
use Rattle.blif_read.specs.View.{model_of}
use Rattle.source_nets.specs.Ports.{source_file, source_library}
use Rattle.source_nets.specs.Survey.{IsModelSurvey}
use Rattle.source_nets.proofs.models.survey_models.Given as goal

abbrev pub invariant-loop-m : goal.invariant-loop-m
invariant-loop-m l =
    AllZip (λ (m : Model) survey. IsModelSurvey (source_file l.source) (source_library l.source) (model_of m) survey) (take l.m-index l.m-items) l.models.items
