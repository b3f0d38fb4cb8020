use Rattle.std.proofs.Common.{◌≡◌, take, Some}
use Rattle.netlist_spec.specs.Digits.{each_gives}
use Rattle.guard_spec.specs.SettingsFile.{name_of}
use Rattle.toml.specs.View.{view}
use Rattle.settings.proofs.words.names.Given as goal

abbrev pub invariant-loop-value : goal.invariant-loop-value
invariant-loop-value l = each_gives (λ v. name_of (view v)) (take l.value-index l.values) ≡ Some l.names.items
