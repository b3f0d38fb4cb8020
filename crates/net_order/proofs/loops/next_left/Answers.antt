use Rattle.std.proofs.Common.{◌∙◌, sym, rules, ◌<◌, length, get_or, false}
use Rattle.std.proofs.lemmas.Bool.{both_ways}
use Rattle.net_graph.specs.Chains.{IsMarked}
use Rattle.net_order.proofs.WalkLemmas.{before_found, found_at}
use Rattle.net_order.proofs.loops.next_left.Goals as goal

pub returns-clause-next : goal.returns-clause-next
returns-clause-next c =
    let inside : c.loop-place.place < length c.args.nets.now =
    before_found (λ n. IsMarked c.args.left.now n) c.args.nets.now c.loop-place.place c.requires.some.0 c.requires.some.1 c.requires.some.2
    (λ j h m. both_ways (get_or c.args.left.now (get_or c.args.nets.now j 0) false) (c.loop-place.invariant.before j h) m) in
    sym c.loop-place.invariant.rest ∙ found_at c.args.left.now c.args.nets.now c.loop-place.place inside (search rules)
