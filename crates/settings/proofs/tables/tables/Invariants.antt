use Rattle.std.proofs.Common.{◌≡◌, map}
use Rattle.std.specs.List.{AllByRecursion}
use Rattle.guard_spec.specs.SettingsFile.{all_of, sbox_entry}
use Rattle.sbox_table.specs.Named.{named_table_of}
use Rattle.settings.specs.Library.{IsNamedTable}
use Rattle.settings.proofs.EachEntry.{listed, after}
use Rattle.settings.proofs.tables.tables.Given as goal

abbrev pub invariant-loop-name : goal.invariant-loop-name
invariant-loop-name l =
    (all_of sbox_entry (listed l.entries.entries) ≡ after (map named_table_of l.tables.items) (all_of sbox_entry (listed l.name-iterator)))
    × AllByRecursion IsNamedTable (map named_table_of l.tables.items)
