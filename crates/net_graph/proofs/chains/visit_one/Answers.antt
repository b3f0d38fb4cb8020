use Rattle.std.proofs.Common.{rules}
use Rattle.net_graph.proofs.VisitLemmas.{visit_new}
use Rattle.net_graph.proofs.chains.visit_one.Goals as goal

pub returns-in_ok-push : goal.returns-in_ok-push
returns-in_ok-push c = visit_new c.args.marks.now c.args.waiting.now.items c.push.new.self.items c.args.end c.requires (search rules) (search rules)
