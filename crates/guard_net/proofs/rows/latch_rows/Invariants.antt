-- The latches of the words from this one on are still to be pushed.
use Rattle.std.proofs.Common.{map}
use Rattle.guard_net.proofs.LatchRows.{AreWordsPushed}
use Rattle.guard_net.proofs.rows.latch_rows.Given as goal

abbrev pub invariant-loop-w : goal.invariant-loop-w
invariant-loop-w l = AreWordsPushed l.code l.l.state (map (λ r. r.init) l.m.latches) l.cells l.w l.rows.items
