use Rattle.std.proofs.Common.{◌∙◌, refl}
use Rattle.std.proofs.lemmas.List.{get_or_default}
use Rattle.net_order.proofs.StateLemmas.{stays, moves_on, next_state, all_states}
use Rattle.net_order.proofs.state.State.wake.Goals as goal

pub loop-waiter-init : goal.loop-waiter-init
loop-waiter-init c = record { moves = stays _ _ c.requires.waits; settled = refl; state = λ t h. h }

pub loop-waiter-preserved : goal.loop-waiter-preserved
loop-waiter-preserved c =
    record {
      moves = moves_on _ _ _ _ c.loop-waiter.invariant.moves c.in_ok-advance.ensures.moves;
      settled = c.in_ok-advance.ensures.settled ∙ c.loop-waiter.invariant.settled;
      state = next_state c.args.reads.now c.args.self.now c.loop-waiter.self c.advance.new.self c.args.hand.now c.loop-waiter.waiter-index _ c.loop-waiter-test.true
          (get_or_default c.args.hand.now c.loop-waiter.waiter-index _ _ c.loop-waiter-test.true) c.loop-waiter.invariant.state c.in_ok-advance.ensures.state;
    }

pub returns-clause-state : goal.returns-clause-state
returns-clause-state c =
    all_states c.args.reads.now c.args.self.now c.loop-waiter.self c.args.hand.now c.loop-waiter.waiter-index c.loop-waiter-test.false c.loop-waiter.invariant.state
