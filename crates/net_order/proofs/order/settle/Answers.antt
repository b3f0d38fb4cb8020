use Rattle.std.proofs.Common.{◌≡◌, ◌∙◌, sym, ap, subst, ℕ, ◌<◌, ◌≤◌, Bool, List, [], length, get_or, arith, length-append, Contains}
use Rattle.std.specs.List.{flat_map}
use Rattle.net_graph.specs.Chains.{ends_of}
use Rattle.net_graph.proofs.MarkLemmas.{marked_within}
use Rattle.net_order.specs.States.{Begins, Moves, Task, IsState, total_of}
use Rattle.net_order.specs.declared.state.State.{State}
use Rattle.net_order.proofs.OrderLemmas.{ordered_marked, row_driven, settled_more, driven_so_far, order_is, others_are, others_wait, left_are}
use Rattle.net_order.proofs.order.settle.Goals as goal

item_within : (reads drives : List (List ℕ)) (combines given : List Bool) (s : State) (done item : ℕ) → Begins reads drives combines given (length combines) s → done < length s.order.items → item ≡ get_or s.order.items done item → item < length combines
item_within reads drives combines given s done item b h is =
    marked_within combines item (ordered_marked reads drives combines given s b item (done, h, sym is))

pub row-requires : goal.row-requires
row-requires c =
    omega (
      arith,
      item_within c.args.reads.now c.args.drives.now c.args.combines.now c.args.given.now c.loop-done.state c.loop-done.done c.index-item.result.now c.loop-done.invariant.begins
          (omega (arith, c.loop-done-test.true, c.len.ensures, c.loop-done.state.order.ok.0)) c.index-item.ensures,
      c.requires.drivers,
      c.requires.combines,
    )

from_item : (drives : List (List ℕ)) (order row : List ℕ) (done item : ℕ) → done < length order → item ≡ get_or order done item → row ≡ ends_of drives item → (n : ℕ) → Contains row n → Contains (flat_map (ends_of drives) order) n
from_item drives order row done item h is row_is n c = row_driven drives order done item h is n (subst (λ l. Contains l n) row_is c)

after : (reads drives : List (List ℕ)) (combines given : List Bool) (s s' : State) (row : List ℕ) (done item : ℕ) → Begins reads drives combines given (length combines) s → Moves reads s s' → done < length s.order.items → item ≡ get_or s.order.items done item → row ≡ ends_of drives item
    → ((t : Task) → ((n : ℕ) → Contains row n → Contains (flat_map (ends_of t.drives) s.order.items) n) → IsState reads t [] s → IsState reads t [] s') → Begins reads drives combines given (length combines) s' × (total_of s' ≡ total_of s)
after reads drives combines given s s' row done item b m h is row_is step = settled_more reads drives combines given s s' row b m (from_item drives s.order.items row done item h is row_is) step

grown : (reads : List (List ℕ)) (s s' : State) → Moves reads s s' → length s.order.items ≤ length s'.order.items
grown reads s s' m = omega (arith, ap length m.order ∙ length-append s.order.items m.more)

pub loop-done-init : goal.loop-done-init
loop-done-init c = record { begins = c.in_ok-state.ensures c.args.drives.now; within = omega arith; driven = λ k below. absurd (omega (arith, below)) }

pub loop-done-smaller : goal.loop-done-smaller
loop-done-smaller c =
    let h : c.loop-done.done < length c.loop-done.state.order.items = omega (arith, c.loop-done-test.true, c.len.ensures, c.loop-done.state.order.ok.0) in
    let e = (after c.args.reads.now c.args.drives.now c.args.combines.now c.args.given.now c.loop-done.state c.settle_nets.new.self c.row.result.now c.loop-done.done c.index-item.result.now c.loop-done.invariant.begins c.in_ok-settle_nets.ensures.moves
    h c.index-item.ensures c.row.ensures c.in_ok-settle_nets.ensures.state).1 in
    omega (arith, h, e)

pub loop-done-preserved : goal.loop-done-preserved
loop-done-preserved c =
    let h : c.loop-done.done < length c.loop-done.state.order.items = omega (arith, c.loop-done-test.true, c.len.ensures, c.loop-done.state.order.ok.0) in
    record {
      begins = (after c.args.reads.now c.args.drives.now c.args.combines.now c.args.given.now c.loop-done.state c.settle_nets.new.self c.row.result.now c.loop-done.done c.index-item.result.now c.loop-done.invariant.begins c.in_ok-settle_nets.ensures.moves
          h c.index-item.ensures c.row.ensures c.in_ok-settle_nets.ensures.state).0;
      within = omega (arith, h, grown c.args.reads.now c.loop-done.state c.settle_nets.new.self c.in_ok-settle_nets.ensures.moves);
      driven = driven_so_far c.args.reads.now c.args.drives.now c.loop-done.state c.settle_nets.new.self c.loop-done.done c.index-item.result.now h c.index-item.ensures c.in_ok-settle_nets.ensures.moves
          (λ n k. c.in_ok-settle_nets.ensures.settled n (subst (λ (l : List ℕ). Contains l n) (sym c.row.ensures) k)) c.loop-done.invariant.driven;
    }

pub left_over-requires-clause-items : goal.left_over-requires-clause-items
left_over-requires-clause-items c = λ n w k. omega (arith, (c.loop-done.invariant.begins.waits.each n w k).held.item, c.requires.drivers)

pub returns-clause-order : goal.returns-clause-order
returns-clause-order c = order_is c.args.reads.now c.args.drives.now c.args.combines.now c.args.given.now c.loop-done.state c.loop-done.invariant.begins

pub returns-clause-left : goal.returns-clause-left
returns-clause-left c =
    left_are c.args.reads.now c.args.drives.now c.args.combines.now c.args.given.now c.in_ok-left.left.items c.loop-done.state c.loop-done.invariant.begins
    (λ k below. c.loop-done.invariant.driven k (omega (arith, below, c.loop-done-test.false, c.len.ensures, c.loop-done.state.order.ok.0)))
    c.in_ok-left.ensures.1

pub returns-clause-waits : goal.returns-clause-waits
returns-clause-waits c =
    others_wait c.args.reads.now c.args.drives.now c.args.combines.now c.args.given.now c.in_ok-left.left.items c.loop-done.state c.loop-done.invariant.begins
    (λ k below. c.loop-done.invariant.driven k (omega (arith, below, c.loop-done-test.false, c.len.ensures, c.loop-done.state.order.ok.0)))
    c.in_ok-left.ensures.1

pub returns-clause-others : goal.returns-clause-others
returns-clause-others c =
    others_are c.args.reads.now c.args.drives.now c.args.combines.now c.args.given.now c.in_ok-left.left.items c.loop-done.state c.loop-done.invariant.begins
    c.in_ok-left.ensures.1
