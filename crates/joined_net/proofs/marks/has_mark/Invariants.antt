use Rattle.std.proofs.Common.{◌≡◌, ◌+◌, ◌<◌, ℕ, false, get_or}
use Rattle.joined_net.proofs.marks.has_mark.Given as goal

abbrev pub invariant-loop-i : goal.invariant-loop-i
invariant-loop-i l = (k : ℕ) → k < l.i-index → get_or l.marks (l.inputs + get_or l.word k 0) false ≡ false
