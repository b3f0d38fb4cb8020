-- What the items that wait for the nets so far drive is marked.
use Rattle.std.proofs.Common.{◌≡◌, ◌↔◌, ℕ, length}
use Rattle.net_graph.specs.Chains.{IsMarked}
use Rattle.net_order.specs.States.{WaitsBelow}
use Rattle.net_order.proofs.order.left_over.Given as goal

abbrev pub invariant-loop-net : goal.invariant-loop-net
invariant-loop-net l = record { size : length l.left.items ≡ l.nets; exact : (n : ℕ) → IsMarked l.left.items n ↔ WaitsBelow l.drives l.waiting l.net n }
