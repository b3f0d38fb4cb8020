use Rattle.std.proofs.Common.{◌∙◌, ◌++◌, sym, ap, get_or}
use Rattle.std.specs.Prelude.{option_to_list}
use Rattle.source_nets.specs.declared.types.Meaning.TheVariants.{Cell}
use Rattle.source_nets.specs.Graph.{model_place}
use Rattle.source_nets.proofs.GraphLemmas.{places_more}
use Rattle.source_nets.proofs.models.placed_models.Goals as goal

pub loop-meaning-preserved : goal.loop-meaning-preserved
loop-meaning-preserved c =
    let i = c.loop-meaning.meaning-index in
    c.in_ok-push_place.ensures
    ∙ ap (λ r. r ++ option_to_list (model_place (get_or c.args.meanings.now i Cell))) c.loop-meaning.invariant
    ∙ sym (places_more c.args.meanings.now i Cell c.loop-meaning-test.true)
