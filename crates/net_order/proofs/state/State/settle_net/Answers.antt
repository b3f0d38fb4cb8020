use Rattle.std.proofs.Common.{◌∙◌, refl, true}
use Rattle.std.proofs.lemmas.Result.{IfOk-weaker}
use Rattle.std.specs.Vec.{with_item}
use Rattle.net_order.specs.declared.state.State.{State}
use Rattle.net_order.proofs.StateLemmas.{taken_waits, taken_held, taken_state}
use Rattle.net_order.proofs.state.State.settle_net.Goals as goal

pub wake-requires-clause-waits : goal.wake-requires-clause-waits
wake-requires-clause-waits c =
    let s : State = c.args.self.now in
    let s' : State = record { settled = with_item c.args.self.now.settled c.args.net true; waiting = c.take-hand.new.self; order = c.args.self.now.order } in
    taken_waits c.args.reads.now s s' c.args.net c.requires.net refl c.take-hand.ensures.rest c.requires.waits

pub wake-requires-clause-held : goal.wake-requires-clause-held
wake-requires-clause-held c =
    let s : State = c.args.self.now in
    let s' : State = record { settled = with_item c.args.self.now.settled c.args.net true; waiting = c.take-hand.new.self; order = c.args.self.now.order } in
    taken_held c.args.reads.now s s' c.args.net c.deref.result.now refl (c.deref.ensures.value ∙ c.take-hand.ensures.taken) c.requires.waits

pub returns-clause-state : goal.returns-clause-state
returns-clause-state c =
    let s : State = c.args.self.now in
    let s' : State = record { settled = with_item c.args.self.now.settled c.args.net true; waiting = c.take-hand.new.self; order = c.args.self.now.order } in
    IfOk-weaker c.wake.result _ _
    (λ u step t driven h. step t (taken_state c.args.reads.now s s' c.args.net c.deref.result.now c.requires.net refl refl c.take-hand.ensures.rest (c.deref.ensures.value ∙ c.take-hand.ensures.taken) c.requires.waits t driven h))
    c.wake.ensures.state
