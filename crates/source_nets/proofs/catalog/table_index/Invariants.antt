-- The names so far.
use Rattle.std.proofs.Common.{◌≡◌, map, take}
use Rattle.sbox_table.specs.declared.table.NamedTable.{NamedTable}
use Rattle.source_nets.proofs.catalog.table_index.Given as goal

abbrev pub invariant-loop-t : goal.invariant-loop-t
invariant-loop-t l = l.index ≡ map (λ (x : NamedTable). x.name) (take l.t-index l.tables)
