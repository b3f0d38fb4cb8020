use Rattle.std.proofs.Common.{◌≡◌, ◌∙◌, sym, subst, ℕ, Bool, List, false, ◌<◌, length, replicate, Result, Ok, Err, rules}
use Rattle.std.specs.declared.alloc.AllocError.{AllocError}
use Rattle.std.specs.Result.{IfOk}
use Rattle.net_graph.specs.Chains.{IsMarked}
use Rattle.net_order.specs.declared.order.Settled.{Settled}
use Rattle.net_order.specs.Order.{AreDriven, IsLeftOver, IsOrder, OthersAreLeft}
use Rattle.net_order.proofs.WalkLemmas.{unmarked}
use Rattle.source_models.specs.Cycles.{Settles}
use Rattle.source_models.proofs.CycleLemmas.{AreOwn, settles}
use Rattle.source_models.proofs.sort.settle_ends.Goals as goal

with_all : (r : Result Settled AllocError) (P Q R S : Settled → Type 0) → ((x : Settled) → P x → Q x → R x → S x) → IfOk r P → IfOk r Q → IfOk r R → IfOk r S
with_all (Ok x) P Q R S f p q h = f x p q h
with_all (Err e) P Q R S f p q h = tt

pub returns-clause-settles : goal.returns-clause-settles
returns-clause-settles c =
    let graph = c.args.graph.now in
    let marks = c.args.marks.now in
    let rows = c.in_ok-own.own in
    let none = c.deref.result.now in
    let free : none ≡ replicate c.len-nodes.result false = search rules in
    let are : AreOwn (length graph) rows = record { size = c.in_ok-own.ensures.size ∙ c.len-nodes.ensures; own = λ i h. c.in_ok-own.ensures.own i (subst (λ (n : ℕ). i < n) (sym c.len-nodes.ensures) h) } in
    with_all c.settle.result (λ s. IsOrder graph rows marks none s.order.items)
    (λ s. AreDriven graph rows marks none → (n : ℕ) → IsMarked s.left.items n → IsLeftOver graph rows marks s.left.items n)
    (λ s. OthersAreLeft rows marks s.left.items s.order.items) (λ s. Settles graph marks s.order.items s.left.items)
    (λ s order left others. settles graph rows marks none are c.requires.marks s.order.items s.left.items order
    (λ n m. unmarked c.len-nodes.result n (subst (λ (l : List Bool). IsMarked l n) free m)) c.requires.closed left others) c.settle.ensures.order c.settle.ensures.left c.settle.ensures.others
