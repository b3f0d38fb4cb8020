use Rattle.std.proofs.Common.{sym, subst, ℕ, List}
use Rattle.net_cycles.specs.Roots.{AreRoots}
use Rattle.net_cycles.proofs.CycleLemmas.{first_is_first, none_is_none, none_told, order_each, order_nodes, some_told}
use Rattle.net_cycles.proofs.ReverseLemmas.{reversed_is_graph}
use Rattle.net_cycles.proofs.cycles.first_on_cycle.Goals as goal

pub find_roots-requires-clause-graph : goal.find_roots-requires-clause-graph
find_roots-requires-clause-graph c = reversed_is_graph c.args.graph.now c.in_ok-back.back c.in_ok-back.ensures

pub find_roots-requires-clause-nodes : goal.find_roots-requires-clause-nodes
find_roots-requires-clause-nodes c = order_nodes c.args.graph.now c.in_ok-back.back c.in_ok-order.order.items c.deref.result.now c.deref.ensures.value c.in_ok-order.ensures c.in_ok-back.ensures

pub find_roots-requires-clause-each : goal.find_roots-requires-clause-each
find_roots-requires-clause-each c = order_each c.args.graph.now c.in_ok-back.back c.in_ok-order.order.items c.deref.result.now c.deref.ensures.value c.in_ok-order.ensures c.in_ok-back.ensures

pub returns-clause-none : goal.returns-clause-none
returns-clause-none c =
    let graph = c.args.graph.now in
    let are : AreRoots c.in_ok-back.back c.in_ok-order.order.items c.deref-2.result.now
    = subst (λ (l : List ℕ). AreRoots c.in_ok-back.back c.in_ok-order.order.items l) (sym c.deref-2.ensures.value) (subst (λ (l : List ℕ). AreRoots c.in_ok-back.back l c.in_ok-roots.roots.items) c.deref.ensures.value c.in_ok-roots.ensures) in
    none_told c.first_rooted.result _ _ (none_is_none graph c.in_ok-order.order.items c.requires c.in_ok-order.ensures c.in_ok-back.back c.deref-2.result.now c.in_ok-back.ensures are) c.first_rooted.ensures.none

pub returns-clause-first : goal.returns-clause-first
returns-clause-first c =
    let graph = c.args.graph.now in
    let are : AreRoots c.in_ok-back.back c.in_ok-order.order.items c.deref-2.result.now
    = subst (λ (l : List ℕ). AreRoots c.in_ok-back.back c.in_ok-order.order.items l) (sym c.deref-2.ensures.value) (subst (λ (l : List ℕ). AreRoots c.in_ok-back.back l c.in_ok-roots.roots.items) c.deref.ensures.value c.in_ok-roots.ensures) in
    some_told c.first_rooted.result _ _ (first_is_first graph c.in_ok-order.order.items c.requires c.in_ok-order.ensures c.in_ok-back.back c.deref-2.result.now c.in_ok-back.ensures are) c.first_rooted.ensures.first
