-- What the items so far drive is marked.
use Rattle.std.proofs.Common.{◌↔◌, ◌⊎◌, ℕ, take}
use Rattle.net_graph.specs.Chains.{IsMarked}
use Rattle.net_order.specs.States.{IsDrivenBy}
use Rattle.net_order.proofs.order.mark_driven.Given as goal

abbrev pub invariant-loop-waiter : goal.invariant-loop-waiter
invariant-loop-waiter l = (n : ℕ) → IsMarked l.left n ↔ (IsMarked l.initial.left n ⊎ IsDrivenBy l.drives (take l.waiter-index l.list) n)
