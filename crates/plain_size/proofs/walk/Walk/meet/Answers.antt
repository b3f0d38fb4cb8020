use Rattle.std.proofs.Common.{refl, ◌∙◌, arith}
use Rattle.std.proofs.lemmas.List.{get_or_default}
use Rattle.plain_size.proofs.WalkLemmas.{meet_new}
use Rattle.plain_size.proofs.walk.Walk.meet.Goals as goal

pub returns-in_ok-push-clause-walks : goal.returns-in_ok-push-clause-walks
returns-in_ok-push-clause-walks c =
    meet_new c.args.costs.now c.args.node c.args.self.now _ c.requires.node c.requires.size
    (λ e. c.if-index-self.true (c.index.ensures ∙ (get_or_default c.args.self.now.stamps.items c.args.node c.index.result.now 0 (let n = c.requires.node in let s = c.requires.size in omega arith) ∙ e)))
    refl refl c.in_ok-push.ensures.items c.saturating_add-self.ensures
