-- The items so far have gone on.
use Rattle.std.proofs.Common.{◌≡◌, drop}
use Rattle.net_order.specs.States.{IsState, Moves, Task}
use Rattle.net_order.proofs.state.State.wake.Given as goal

abbrev pub invariant-loop-waiter : goal.invariant-loop-waiter
invariant-loop-waiter l =
    record {
      moves : Moves l.reads l.initial.self l.self;
      settled : l.self.settled.items ≡ l.initial.self.settled.items;
      state : (t : Task) → IsState l.reads t l.hand l.initial.self → IsState l.reads t (drop l.waiter-index l.hand) l.self;
    }
