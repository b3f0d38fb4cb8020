use Rattle.std.proofs.Common.{sym, ◌∙◌, ap, tests, rules}
use Rattle.std.specs.Prelude.{is_some}
use Rattle.std.proofs.lemmas.Iterator.{YieldsList-from_slice}
use Rattle.std.proofs.lemmas.Iterator.Search.{all_from_yields_List}
use Rattle.guard_spec.specs.SettingsFile.{as_text}
use Rattle.toml.specs.View.{view}
use Rattle.settings.proofs.Gives.{gives_map, gives_some}
use Rattle.settings.proofs.matrix.are_texts.Goals as goal

pub returns : goal.returns
returns c =
    let values = c.args.values.now in
    all_from_yields_List (λ v. is_some (as_text (view v))) _ _ c.all.result c.all.ensures.ran (YieldsList-from_slice values cc) (λ x b q k. search (rules, tests))
    ∙ sym (ap is_some (gives_map view as_text values) ∙ gives_some (λ v. as_text (view v)) values)
