use Rattle.std.proofs.Common.{◌≡◌, ◌-◌, ◌^◌, take, Some}
use Rattle.netlist_spec.specs.Digits.{each_gives}
use Rattle.guard_spec.specs.SettingsFile.{whole_between}
use Rattle.toml.specs.View.{view}
use Rattle.settings.proofs.tables.rows.Given as goal

abbrev pub invariant-loop-value : goal.invariant-loop-value
invariant-loop-value l = each_gives (λ v. whole_between 0 (2 ^ l.outs - 1) (view v)) (take l.value-index l.values) ≡ Some l.rows.items
