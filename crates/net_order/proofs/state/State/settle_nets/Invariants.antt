-- The nets so far are settled.
use Rattle.std.proofs.Common.{ℕ, [], take, Contains}
use Rattle.std.specs.List.{flat_map}
use Rattle.net_graph.specs.Chains.{IsMarked, ends_of}
use Rattle.net_order.specs.States.{IsState, Moves, Task}
use Rattle.net_order.proofs.state.State.settle_nets.Given as goal

abbrev pub invariant-loop-net : goal.invariant-loop-net
invariant-loop-net l =
    record {
      moves : Moves l.reads l.initial.self l.self;
      settled : (n : ℕ) → Contains (take l.net-index l.nets) n → IsMarked l.self.settled.items n;
      state : (t : Task) → ((n : ℕ) → Contains l.nets n → Contains (flat_map (ends_of t.drives) l.initial.self.order.items) n) → IsState l.reads t [] l.initial.self → IsState l.reads t [] l.self;
    }
