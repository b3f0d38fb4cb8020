use Rattle.std.proofs.Common.{◌≡◌, map}
use Rattle.std.specs.List.{AllByRecursion}
use Rattle.guard_spec.specs.SettingsFile.{all_of, linear_entry}
use Rattle.linear_layer.specs.Named.{named_linear_of}
use Rattle.settings.specs.Library.{IsNamedLinear}
use Rattle.settings.proofs.EachEntry.{listed, after}
use Rattle.settings.proofs.linears.linears.Given as goal

abbrev pub invariant-loop-name : goal.invariant-loop-name
invariant-loop-name l =
    (all_of (linear_entry (map (λ t. t.name) l.tables)) (listed l.entries.entries) ≡ after (map named_linear_of l.linears.items) (all_of (linear_entry (map (λ t. t.name) l.tables)) (listed l.name-iterator)))
    × AllByRecursion IsNamedLinear (map named_linear_of l.linears.items)
