use Rattle.std.proofs.Common.{◌≡◌, ◌-◌, ◌≤◌}
use Rattle.std.specs.List.{range_with_len}
use Rattle.cone_split.proofs.copy.all_gates.Given as goal

abbrev pub invariant-loop-n : goal.invariant-loop-n
invariant-loop-n l = (l.src.leaves ≤ l.n) × (l.cells.items ≡ range_with_len l.src.leaves (l.n - l.src.leaves))
