use Rattle.guard_net.proofs.LatchRows.{ArePushed}
use Rattle.guard_net.proofs.rows.push_rows.Given as goal

abbrev pub invariant-loop-i : goal.invariant-loop-i
invariant-loop-i l = ArePushed l.cells l.bits l.initial.rows.items l.i l.rows.items
