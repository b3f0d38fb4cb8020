use Rattle.std.proofs.Common.{◌≡◌, ◌∙◌, refl, sym, ap, subst, ℕ, Bool, true, false, List, length, get_or, replicate, drop, ◌<◌, rules, arith, Contains}
use Rattle.std.proofs.lemmas.List.{length-replicate, get_or_default}
use Rattle.std.proofs.lemmas.Result.{IfOk-weaker}
use Rattle.net_graph.specs.Chains.{IsMarked}
use Rattle.net_graph.proofs.MarkLemmas.{marked_within}
use Rattle.net_order.specs.Walks.{first_left}
use Rattle.net_order.proofs.WalkLemmas.{Walks, walks_none, walks_more, met_falls, walk_ends, unmarked}
use Rattle.net_order.proofs.loops.walk_from.Goals as goal

pub loop-path-init : goal.loop-path-init
loop-path-init c =
    let e : c.in_ok-met.met.items ≡ replicate (length c.args.left.now) false = search rules in
    subst (λ (p : List ℕ). Walks c.args.reads.now c.args.driver.now c.args.left.now c.args.start c.in_ok-met.met.items p c.args.start) (sym c.new-path.ensures.items)
    (walks_none c.args.reads.now c.args.driver.now c.args.left.now c.in_ok-met.met.items c.args.start (ap length e ∙ length-replicate (length c.args.left.now) false)
    (λ k h. unmarked (length c.args.left.now) k (subst (λ (l : List Bool). IsMarked l k) e h)) c.requires.start)

pub next_left-net-requires-clause-some : goal.next_left-net-requires-clause-some
next_left-net-requires-clause-some c =
    let r = c.requires.goes_on c.loop-path.net c.loop-path.invariant.marked in
    (r.0, subst (λ (l : List ℕ). Contains l r.0) (sym c.row.ensures) r.1, r.2)

pub loop-path-preserved : goal.loop-path-preserved
loop-path-preserved c =
    let unmet : get_or c.loop-path.met.items c.loop-path.net false ≡ false = search rules in
    walks_more c.args.reads.now c.args.driver.now c.args.left.now c.loop-path.met.items _ c.args.start c.loop-path.path.items c.push.new.self.items c.loop-path.net c.next_left-net.result c.loop-path.invariant unmet refl c.in_ok-push.ensures.items
    (ap (first_left c.args.left.now) (sym c.row.ensures) ∙ c.next_left-net.ensures.next) c.next_left-net.ensures.left

pub loop-path-smaller : goal.loop-path-smaller
loop-path-smaller c =
    let unmet : get_or c.loop-path.met.items c.loop-path.net false ≡ false = search rules in
    met_falls c.loop-path.met.items c.loop-path.net (omega (arith, c.loop-path.invariant.size, marked_within c.args.left.now c.loop-path.net c.loop-path.invariant.marked)) unmet

pub path_from-requires : goal.path_from-requires
path_from-requires c =
    let inside : c.loop-path.net < length c.loop-path.met.items = omega (arith, c.loop-path.invariant.size, marked_within c.args.left.now c.loop-path.net c.loop-path.invariant.marked) in
    let here : c.index.result.now ≡ true = search rules in
    let met : IsMarked c.loop-path.met.items c.loop-path.net = get_or_default c.loop-path.met.items c.loop-path.net false c.index.result.now inside ∙ (sym c.index.ensures ∙ here) in
    subst (λ (l : List ℕ). Contains l c.loop-path.net) (sym c.deref.ensures.value) ((c.loop-path.invariant.seen c.loop-path.net).0 met)

pub returns : goal.returns
returns c =
    IfOk-weaker c.path_from.result _ _
    (λ nets w. walk_ends c.args.reads.now c.args.driver.now c.args.left.now c.loop-path.met.items c.args.start c.loop-path.path.items nets.items c.loop-path.net w.0 c.loop-path.invariant
    (subst (λ (l : List ℕ). w.0 < length l) c.deref.ensures.value w.1) (subst (λ (l : List ℕ). get_or l w.0 0 ≡ c.loop-path.net) c.deref.ensures.value w.2) (subst (λ (l : List ℕ). nets.items ≡ drop w.0 l) c.deref.ensures.value w.3))
    c.path_from.ensures
