use Rattle.std.proofs.Common.{◌≡◌, take, Some}
use Rattle.netlist_spec.specs.Digits.{each_gives}
use Rattle.toml.specs.View.{view}
use Rattle.settings.specs.Library.{number_at}
use Rattle.settings.proofs.linears.rows.Given as goal

abbrev pub invariant-loop-value : goal.invariant-loop-value
invariant-loop-value l = each_gives (λ v. number_at l.width (view v)) (take l.value-index l.values) ≡ Some l.rows.items
