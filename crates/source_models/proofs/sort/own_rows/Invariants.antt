-- The rows so far.
use Rattle.source_models.proofs.CycleLemmas.{AreOwn}
use Rattle.source_models.proofs.sort.own_rows.Given as goal

abbrev pub invariant-loop-node : goal.invariant-loop-node
invariant-loop-node l = AreOwn l.node l.rows
