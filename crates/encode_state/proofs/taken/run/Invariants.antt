-- The numbers so far.
use Rattle.std.proofs.Common.{◌≡◌, ◌-◌}
use Rattle.std.specs.List.{range_with_len}
use Rattle.encode_state.proofs.taken.run.Given as goal

abbrev pub invariant-loop-n : goal.invariant-loop-n
invariant-loop-n l = l.run.items ≡ range_with_len l.fn.first (l.n - l.fn.first)
