use Rattle.std.proofs.Common.{◌≡◌, take, map, Some}
use Rattle.netlist_spec.specs.Digits.{each_gives}
use Rattle.guard_spec.specs.SettingsFile.{word_of}
use Rattle.toml.specs.View.{view}
use Rattle.settings.specs.Types.{names_in}
use Rattle.settings.proofs.words.words.Given as goal

abbrev pub invariant-loop-value : goal.invariant-loop-value
invariant-loop-value l = each_gives (λ v. word_of l.k (view v)) (take l.value-index l.values) ≡ Some (map names_in l.words.items)
