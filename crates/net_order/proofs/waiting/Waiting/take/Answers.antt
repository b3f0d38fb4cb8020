use Rattle.std.proofs.Common.{◌∙◌, ap}
use Rattle.net_order.proofs.OrderLemmas.{list_set}
use Rattle.net_order.proofs.waiting.Waiting.take.Goals as goal

pub returns-clause-rest : goal.returns-clause-rest
returns-clause-rest c =
    list_set (λ v. v.items) c.self.inside.lists.items c.args.self.now c.args.net c.replace.new.dest _ c.self.view_is (ap (λ v. v.items) c.replace.ensures.after ∙ c.new.ensures.items)
