-- The items so far have been begun.
use Rattle.std.proofs.Common.{ℕ, List}
use Rattle.net_order.specs.States.{Begins}
use Rattle.net_order.proofs.order.begin.Given as goal

abbrev pub invariant-loop-item : goal.invariant-loop-item
invariant-loop-item l = (drives : List (List ℕ)) → Begins l.reads drives l.combines l.given l.item l.state
