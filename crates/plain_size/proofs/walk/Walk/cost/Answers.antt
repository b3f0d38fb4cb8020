use Rattle.std.proofs.Common.{refl, arith}
use Rattle.std.proofs.lemmas.List.{nil_from_length}
use Rattle.plain_size.proofs.WalkLemmas.{walk_begins, walk_goes_on, node_waits, walk_falls, walk_ends, walk_stops}
use Rattle.plain_size.proofs.walk.Walk.cost.Goals as goal

pub walk-init : goal.walk-init
walk-init c =
    walk_begins c.args.graph.now c.args.costs.now c.args.start c.args.total _ c.meet.new.self c.requires.costs c.requires.size c.requires.start c.requires.fresh refl refl c.clear.ensures.items c.meet.ensures.size c.in_ok-meet.ensures.walks

pub row-requires : goal.row-requires
row-requires c = node_waits c.args.graph.now c.args.costs.now c.args.start c.args.total c.in-Some.node c.walk.self c.pop.new.self.items c.in-Some.ensures.items c.walk.invariant

pub walk-preserved : goal.walk-preserved
walk-preserved c =
    walk_goes_on c.args.graph.now c.args.costs.now c.row.result.now c.args.start c.args.total c.in-Some.node c.walk.self _ c.meet_all.new.self
    c.in-Some.ensures.items refl refl refl c.row.ensures c.meet_all.ensures.size c.in_ok-meet_all.ensures.walks c.walk.invariant

pub walk-smaller : goal.walk-smaller
walk-smaller c = walk_falls c.args.costs.now c.row.result.now c.in-Some.node c.walk.self _ c.meet_all.new.self c.in-Some.ensures.items refl refl c.in_ok-meet_all.ensures.walks

pub returns-in_default-clause-cost : goal.returns-in_default-clause-cost
returns-in_default-clause-cost c =
    walk_ends c.args.graph.now c.args.costs.now c.args.start c.args.total c.walk.self (nil_from_length c.walk.self.waiting.items (omega (arith, c.in_default.ensures.cases.0, c.walk.self.waiting.ok.0))) c.requires.small c.walk-test.true c.walk.invariant

pub returns-clause-cost : goal.returns-clause-cost
returns-clause-cost c = walk_stops c.args.graph.now c.args.costs.now c.args.start c.args.total c.walk.self c.requires.small c.walk-test.false c.walk.invariant
