use Rattle.std.proofs.Common.{◌↔◌, ◌⊎◌, subst, ℕ, List}
use Rattle.std.proofs.lemmas.List.{take_all, get_or_default}
use Rattle.net_graph.specs.Chains.{IsMarked}
use Rattle.net_order.specs.States.{IsDrivenBy}
use Rattle.net_order.specs.declared.waiting.Waiter.{Waiter}
use Rattle.net_order.proofs.OrderLemmas.{driven_mark}
use Rattle.net_order.proofs.order.mark_driven.Goals as goal

pub loop-waiter-preserved : goal.loop-waiter-preserved
loop-waiter-preserved c =
    driven_mark c.args.left.now c.loop-waiter.left c.mark_ends.new.marks c.args.drives.now c.args.list.now c.loop-waiter.waiter-index _ c.row.result.now c.loop-waiter-test.true
    (get_or_default c.args.list.now c.loop-waiter.waiter-index (record { item = 0; place = 0 }) _ c.loop-waiter-test.true) c.row.ensures c.loop-waiter.invariant c.mark_ends.ensures

pub returns : goal.returns
returns c =
    subst (λ (l : List Waiter). (n : ℕ) → IsMarked c.loop-waiter.left n ↔ (IsMarked c.args.left.now n ⊎ IsDrivenBy c.args.drives.now l n)) (take_all c.loop-waiter.waiter-index c.args.list.now c.loop-waiter-test.false) c.loop-waiter.invariant
