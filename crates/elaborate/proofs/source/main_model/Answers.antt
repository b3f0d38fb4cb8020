use Rattle.std.proofs.Common.{sym, subst, ◌<◌, length, arith}
use Rattle.std.proofs.lemmas.List.{length-map}
use Rattle.blif_read.specs.declared.file.Model.{Model}
use Rattle.blif_read.specs.Ids.{HasIds}
use Rattle.blif_read.specs.View.{model_of}
use Rattle.elaborate.proofs.source.main_model.Goals as goal

pub returns-clause-ids : goal.returns-clause-ids
returns-clause-ids c =
    let models = c.args.file.models.items in
    let some = c.requires.is_file.some_model in
    let count = length-map models model_of in
    let first : 0 < length models = omega arith in
    subst (λ (m : Model). HasIds m) (sym c.swap_remove.ensures.value) (c.requires.ids 0 c.swap_remove.result first)
