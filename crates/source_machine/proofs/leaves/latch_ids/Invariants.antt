-- The outputs of the latches so far.
use Rattle.std.proofs.Common.{◌≡◌, filter_map, take}
use Rattle.source_machine.specs.Rows.{shown_id}
use Rattle.source_machine.proofs.leaves.latch_ids.Given as goal

abbrev pub invariant-loop-located : goal.invariant-loop-located
invariant-loop-located l = l.ids.items ≡ filter_map shown_id (take l.located-index l.statements)
