use Rattle.std.proofs.Common.{◌≡◌, refl, sym, subst, ℕ, [], length, arith}
use Rattle.net_order.specs.States.{Begins}
use Rattle.net_order.proofs.OrderLemmas.{begin_more, begin_skip}
use Rattle.net_order.proofs.order.begin.Goals as goal
use Rattle.net_order.proofs.order.begin.Goals.{then-does_combine+in_ok-advance, else-does_combine}

pub advance-requires-clause-waits : goal.advance-requires-clause-waits
advance-requires-clause-waits c = (c.loop-item.invariant []).waits

pub loop-item-preserved : goal.loop-item-preserved
loop-item-preserved c =
    elim c.if-does_combine.branch [
      | then-does_combine+in_ok-advance w ↦ λ drives.
          subst (Begins c.args.reads.now drives c.args.combines.now c.args.given.now _) (sym w.state-is)
          (begin_more c.args.reads.now drives c.args.combines.now c.args.given.now c.loop-item.item c.loop-item.state w.advance.new.self (record { item = c.loop-item.item; place = 0 }) refl c.loop-item-test.true w.if-does_combine.true (c.loop-item.invariant drives)
          w.in_ok-advance.ensures.moves w.in_ok-advance.ensures.state)
      | else-does_combine w ↦ λ drives.
          begin_skip c.args.reads.now drives c.args.combines.now c.args.given.now c.loop-item.item c.loop-item.state c.if-does_combine.state w.state-is c.loop-item-test.true w.if-does_combine.false (c.loop-item.invariant drives)
    ]

pub returns : goal.returns
returns c =
    let e : c.loop-item.item ≡ length c.args.combines.now = omega arith in
    λ drives. subst (λ (n : ℕ). Begins c.args.reads.now drives c.args.combines.now c.args.given.now n c.loop-item.state) e (c.loop-item.invariant drives)
