use Rattle.std.proofs.Common.{◌≡◌, ◌∙◌, sym, ap, subst, ℕ, ◌<◌, Bool, List, length, get_or, arith, Contains}
use Rattle.net_graph.specs.Chains.{IsMarked, ends_of}
use Rattle.net_graph.proofs.MarkLemmas.{marked_within}
use Rattle.net_order.specs.Walks.{IsWalkedLoop}
use Rattle.source_models.proofs.CycleLemmas.{all_ordered, walked_cycle}
use Rattle.source_models.proofs.sort.sort.Goals as goal

own_driver : (drivers : List ℕ) (left : List Bool) (nodes : ℕ) → length left ≡ nodes → ((i : ℕ) → i < nodes → get_or drivers i 0 ≡ i) → (i : ℕ) → IsMarked left i → get_or drivers i 0 ≡ i
own_driver drivers left nodes size own i m = own i (omega (arith, marked_within left i m))

pub walk-requires-clause-goes_on : goal.walk-requires-clause-goes_on
walk-requires-clause-goes_on c = λ n m.
    let left = c.in_ok-settled.settled.left.items in
    let drivers = c.in_ok-own_places.own_places.items in
    let here : IsMarked left n = subst (λ (l : List Bool). IsMarked l n) c.deref.ensures.value m in
    let own : get_or c.deref-2.result.now n 0 ≡ n
    = ap (λ (l : List ℕ). get_or l n 0) c.deref-2.ensures.value ∙ own_driver drivers left c.len.result (c.in_ok-settled.ensures.size ∙ sym c.len.ensures) c.in_ok-own_places.ensures.own n here in
    let w = c.in_ok-settled.ensures.settles.goes_on n here in (
      w.0,
      subst (λ (i : ℕ). Contains (ends_of c.args.graph.now i) w.0) (sym own) w.1,
      subst (λ (l : List Bool). IsMarked l w.0) (sym c.deref.ensures.value) w.2,
    )

pub returns-in-None : goal.returns-in-None
returns-in-None c =
    let none : (i : ℕ) → IsMarked c.deref.result.now i → ⊥ = rw c.in-None.is at c.in_ok-cycle.ensures.none in
    all_ordered c.args.graph.now c.args.marks.now c.in_ok-settled.settled.left.items c.in_ok-settled.settled.order.items c.in_ok-settled.ensures.settles
    (λ i m. none i (subst (λ (l : List Bool). IsMarked l i) (sym c.deref.ensures.value) m))

pub first_of_marked-requires-clause-some : goal.first_of_marked-requires-clause-some
first_of_marked-requires-clause-some c =
    let left = c.in_ok-settled.settled.left.items in
    let drivers = c.in_ok-own_places.own_places.items in
    let told : IsWalkedLoop c.args.graph.now c.deref-2.result.now c.deref.result.now c.in-Some.field-0.items = rw c.in-Some.is at c.in_ok-cycle.ensures.told in
    let w = walked_cycle c.args.graph.now drivers left (own_driver drivers left c.len.result (c.in_ok-settled.ensures.size ∙ sym c.len.ensures) c.in_ok-own_places.ensures.own) c.in-Some.field-0.items
    (subst (λ (l : List ℕ). IsWalkedLoop c.args.graph.now l left c.in-Some.field-0.items) c.deref-2.ensures.value
    (subst (λ (l : List Bool). IsWalkedLoop c.args.graph.now c.deref-2.result.now l c.in-Some.field-0.items) c.deref.ensures.value told)) in
    (w.0, c.in_ok-settled.ensures.settles.left_marked w.0 w.1, w.2)
