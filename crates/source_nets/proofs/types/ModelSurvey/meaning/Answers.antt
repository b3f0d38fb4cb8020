use Rattle.std.proofs.Common.{◌≡◌, ◌∙◌, sym, ap, Some, slice_get}
use Rattle.std.proofs.lemmas.Option.{slice_get-get_or}
use Rattle.netlist_spec.specs.Netlist.{Located}
use Rattle.source_nets.specs.declared.types.Meaning.{Meaning}
use Rattle.source_nets.specs.Survey.{Means, IsMeaningIn}
use Rattle.source_nets.proofs.SurveyLemmas.{zip_left, all_at}
use Rattle.source_nets.proofs.types.ModelSurvey.meaning.Goals as goal

pub returns : goal.returns
returns c = λ file library m s is at.
    let ms = c.args.self.now.meanings.items in
    let found = c.index.result.now in
    let there : slice_get ms c.args.i ≡ Some found = slice_get-get_or ms c.args.i found c.requires ∙ ap (λ (x : Meaning). Some x) (sym c.index.ensures) in
    (zip_left (λ (l : Located) (f : Meaning). Means file library l.what f) m.statements ms c.args.i s found is.means at there, all_at (IsMeaningIn file library) ms c.args.i found is.within there)
