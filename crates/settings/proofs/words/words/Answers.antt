use Rattle.std.proofs.Common.{◌≡◌, Some, map, sym, ◌∙◌, ap, option_map, arith}
use Rattle.std.proofs.lemmas.List.{map-append}
use Rattle.guard_spec.specs.SettingsFile.{word_of}
use Rattle.toml.specs.View.{view}
use Rattle.settings.specs.Types.{names_in}
use Rattle.settings.proofs.Gives.{values_none, values_more, values_all}
use Rattle.settings.proofs.words.words.Goals as goal

pub returns-in-None : goal.returns-in-None
returns-in-None c =
    let none = sym c.in_ok-word.ensures ∙ ap (option_map names_in) c.in-None.is in
    sym (values_none (word_of c.args.k) c.args.values.now c.loop-value.value-index c.value-item.result (omega arith) c.value-item.is none)

pub loop-value-preserved : goal.loop-value-preserved
loop-value-preserved c =
    let here : word_of c.args.k (view c.value-item.result) ≡ Some (names_in c.in-Some.word) = sym c.in_ok-word.ensures ∙ ap (option_map names_in) c.in-Some.is in
    rw (c.in_ok-push-in-Some.ensures.items, map-append) (values_more (word_of c.args.k) c.args.values.now c.loop-value.value-index c.value-item.result (map names_in c.loop-value.words.items) (names_in c.in-Some.word) (omega arith) c.value-item.is c.loop-value.invariant here)

pub returns : goal.returns
returns c = sym (values_all (word_of c.args.k) c.args.values.now c.loop-value.value-index (map names_in c.loop-value.words.items) (omega arith) c.loop-value.invariant)
