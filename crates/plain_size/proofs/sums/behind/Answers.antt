use Rattle.std.proofs.Common.{◌≡◌, sym, ◌∙◌, subst, ℕ, List, None, Some, arith}
use Rattle.std.proofs.lemmas.List.{get_or_default}
use Rattle.std.proofs.lemmas.Result.{IfOk-weaker}
use Rattle.blif_read.specs.View.{name_at}
use Rattle.plain_size.specs.Cones.{node_of}
use Rattle.plain_size.specs.Walks.{IsReachCost}
use Rattle.plain_size.proofs.BitLemmas.{behind_node, behind_none}
use Rattle.plain_size.proofs.ConeLemmas.{node_named}
use Rattle.plain_size.proofs.sums.behind.Goals as goal

pub cost-requires-clause-start : goal.cost-requires-clause-start
cost-requires-clause-start c =
    let nodes = c.args.cones.now.nodes.items in
    c.requires.cones.nodes c.args.net.0 c.in-Some.start (get_or_default nodes c.args.net.0 None c.index.result.now c.requires.net ∙ (sym c.index.ensures ∙ c.in-Some.is))

pub returns-in-Some-clause-cost : goal.returns-in-Some-clause-cost
returns-in-Some-clause-cost c = λ p are.
    let nodes = c.args.cones.now.nodes.items in
    let k = c.args.net.0 in
    let node = node_of p.m.names nodes in
    let begins : node (name_at p.m.names c.args.net) ≡ Some c.in-Some.start
    = node_named p.m.names nodes k are.distinct are.each_net (let r = c.requires.net in let e = are.each_net in omega arith) ∙ (get_or_default nodes k None c.index.result.now c.requires.net ∙ (sym c.index.ensures ∙ c.in-Some.is)) in
    IfOk-weaker c.cost.result _ _
    (λ r e. behind_node p (name_at p.m.names c.args.net) node c.args.cones.now.graph c.args.cones.now.costs.items are.graph are.costs c.in-Some.start c.args.total begins r
    (subst (λ (costs : List ℕ). IsReachCost c.args.cones.now.graph costs c.in-Some.start c.args.total r) c.deref.ensures.value e))
    c.cost.ensures.cost

pub returns-in-None-clause-cost : goal.returns-in-None-clause-cost
returns-in-None-clause-cost c = λ p are.
    let nodes = c.args.cones.now.nodes.items in
    let k = c.args.net.0 in
    let node = node_of p.m.names nodes in
    let none : node (name_at p.m.names c.args.net) ≡ None
    = node_named p.m.names nodes k are.distinct are.each_net (let r = c.requires.net in let e = are.each_net in omega arith) ∙ (get_or_default nodes k None c.index.result.now c.requires.net ∙ (sym c.index.ensures ∙ c.in-None.is)) in
    behind_none p (name_at p.m.names c.args.net) node c.args.cones.now.graph c.args.cones.now.costs.items are.graph are.costs c.args.total none c.requires.small
