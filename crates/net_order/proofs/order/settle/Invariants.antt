-- What the first items of the order drive is settled.
use Rattle.std.proofs.Common.{ℕ, ◌<◌, ◌≤◌, ◌-◌, length, get_or, Contains}
use Rattle.net_graph.specs.Chains.{IsMarked, ends_of}
use Rattle.net_order.specs.States.{Begins, total_of}
use Rattle.net_order.proofs.order.settle.Given as goal

abbrev pub invariant-loop-done : goal.invariant-loop-done
invariant-loop-done l =
    record {
      begins : Begins l.reads l.drives l.combines l.given (length l.combines) l.state;
      within : l.done ≤ length l.state.order.items;
      driven : (k : ℕ) → k < l.done → (n : ℕ) → Contains (ends_of l.drives (get_or l.state.order.items k 0)) n → IsMarked l.state.settled.items n;
    }

abbrev pub decreases-loop-done : goal.decreases-loop-done
decreases-loop-done l = total_of l.state - l.done
