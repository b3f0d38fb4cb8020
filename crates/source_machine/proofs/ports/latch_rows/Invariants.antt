-- The latches so far have their rows.
use Rattle.std.proofs.Common.{◌≡◌, map, filter_map, take}
use Rattle.gate_net.specs.Machine.{latch_row}
use Rattle.source_machine.specs.Rows.{row_for}
use Rattle.source_machine.proofs.ports.latch_rows.Given as goal

abbrev pub invariant-loop-located : goal.invariant-loop-located
invariant-loop-located l = map latch_row l.rows.items ≡ filter_map (row_for l.table) (take l.located-index l.located-items)
