-- The outputs of the latches so far.
use Rattle.std.proofs.Common.{◌≡◌, filter_map, take}
use Rattle.elaborate.specs.Numbers.{shown_id}
use Rattle.elaborate.proofs.names.latch_ids.Given as goal

abbrev pub invariant-loop-located : goal.invariant-loop-located
invariant-loop-located l = l.ids.items ≡ filter_map shown_id (take l.located-index l.statements)
