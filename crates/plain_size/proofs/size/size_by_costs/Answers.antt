use Rattle.std.proofs.Common.{◌≡◌, ◌<◌, length, Some, arith}
use Rattle.std.proofs.lemmas.List.{length-map}
use Rattle.std.proofs.lemmas.Result.{IfOk-weaker}
use Rattle.netlist_spec.specs.Models.{main_model}
use Rattle.blif_read.specs.View.{file_of, model_of}
use Rattle.plain_size.proofs.MainLemmas.{costs_long, first_main, first_survey, main_driven, main_large, main_plain, rows_of}
use Rattle.plain_size.proofs.size.size_by_costs.Goals as goal

pub model_size-requires-clause-rows : goal.model_size-requires-clause-rows
model_size-requires-clause-rows c =
    let file = file_of c.args.file.now in
    let some : 0 < length c.args.file.now.models.items = (let h = c.requires.is_file.some_model in let l = length-map c.args.file.now.models.items model_of in omega arith) in
    rows_of file c.args.s.now.library c.index.result.now c.index-2.result.now (first_survey file c.args.s.now.library c.args.file.now.models.items c.args.survey.now.models.items c.index.result.now c.index-2.result.now some c.requires.survey.models c.index.ensures c.index-2.ensures)

pub model_size-requires-clause-costs : goal.model_size-requires-clause-costs
model_size-requires-clause-costs c =
    let file = file_of c.args.file.now in
    let some : 0 < length c.args.file.now.models.items = (let h = c.requires.is_file.some_model in let l = length-map c.args.file.now.models.items model_of in omega arith) in
    let main : main_model file ≡ Some (model_of c.index.result.now) = first_main c.args.file.now.models.items c.index.result.now some c.index.ensures in
    costs_long file c.args.s.now.library c.index.result.now c.args.costs.now (c.requires.costs (model_of c.index.result.now) main)

pub model_size-requires-clause-layout : goal.model_size-requires-clause-layout
model_size-requires-clause-layout c =
    let some : 0 < length c.args.file.now.models.items = (let h = c.requires.is_file.some_model in let l = length-map c.args.file.now.models.items model_of in omega arith) in
    c.requires.layout (model_of c.index.result.now) (first_main c.args.file.now.models.items c.index.result.now some c.index.ensures)

pub returns-clause-plain : goal.returns-clause-plain
returns-clause-plain c =
    let file = file_of c.args.file.now in
    let library = c.args.s.now.library in
    let m = model_of c.index.result.now in
    let some : 0 < length c.args.file.now.models.items = (let h = c.requires.is_file.some_model in let l = length-map c.args.file.now.models.items model_of in omega arith) in
    let main : main_model file ≡ Some m = first_main c.args.file.now.models.items c.index.result.now some c.index.ensures in
    let survey = first_survey file library c.args.file.now.models.items c.args.survey.now.models.items c.index.result.now c.index-2.result.now some c.requires.survey.models c.index.ensures c.index-2.ensures in
    IfOk-weaker c.model_size.result _ _ (λ r is. main_plain file c.args.s.now c.args.l.now m main r is) (c.model_size.ensures file survey (main_driven file library m main c.requires.sound) (c.requires.costs m main))

pub returns-clause-large : goal.returns-clause-large
returns-clause-large c =
    let file = file_of c.args.file.now in
    let library = c.args.s.now.library in
    let m = model_of c.index.result.now in
    let some : 0 < length c.args.file.now.models.items = (let h = c.requires.is_file.some_model in let l = length-map c.args.file.now.models.items model_of in omega arith) in
    let main : main_model file ≡ Some m = first_main c.args.file.now.models.items c.index.result.now some c.index.ensures in
    let survey = first_survey file library c.args.file.now.models.items c.args.survey.now.models.items c.index.result.now c.index-2.result.now some c.requires.survey.models c.index.ensures c.index-2.ensures in
    IfOk-weaker c.model_size.result _ _ (λ r is. main_large file c.args.s.now c.args.l.now m main r is) (c.model_size.ensures file survey (main_driven file library m main c.requires.sound) (c.requires.costs m main))
