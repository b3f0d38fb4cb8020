use Rattle.std.proofs.Common.{◌≡◌, ◌∙◌, ◌↔◌, ◌⊎◌, sym, ap, subst, ℕ, ◌+◌, ◌<◌, Bool, List, length, take, drop, ◌++◌, arith, Contains, All}
use Rattle.std.proofs.lemmas.List.{get_or_default}
use Rattle.net_graph.specs.Chains.{IsMarked}
use Rattle.net_graph.proofs.MarkLemmas.{written_back}
use Rattle.net_order.specs.States.{IsDrivenBy, WaitsBelow, waiters}
use Rattle.net_order.specs.declared.waiting.Waiter.{Waiter}
use Rattle.net_order.proofs.OrderLemmas.{left_more}
use Rattle.net_order.proofs.order.left_over.Goals as goal

all_items : (waiting : List (List Waiter)) (list : List Waiter) (net size : ℕ) → list ≡ waiters waiting net → ((n : ℕ) (w : Waiter) → Contains (waiters waiting n) w → w.item < size) → All (λ (w : Waiter). w.item < size) list
all_items waiting list net size is each =
    subst (All (λ (w : Waiter). w.item < size)) (sym is) (λ k d below. each net _ (k, below, get_or_default (waiters waiting net) k _ d below))

left_step : (drives : List (List ℕ)) (waiting : List (List Waiter)) (left seen new : List Bool) (list : List Waiter) (net size n : ℕ) → list ≡ waiters waiting net → seen ≡ left → length new ≡ length seen → length left ≡ n → length left ≡ size
    → ((k : ℕ) → IsMarked left k ↔ WaitsBelow drives waiting net k) → ((k : ℕ) → IsMarked new k ↔ (IsMarked seen k ⊎ IsDrivenBy drives list k))
    → (length (take n (new ++ drop (length new) left)) ≡ size) × ((k : ℕ) → IsMarked (take n (new ++ drop (length new) left)) k ↔ WaitsBelow drives waiting (net + 1) k)
left_step drives waiting left seen new list net size n is same kept full all so_far step =
    let back = written_back n new left (kept ∙ ap length same) full in (
      ap length back ∙ (kept ∙ (ap length same ∙ all)),
      subst (λ (l : List Bool). (k : ℕ) → IsMarked l k ↔ WaitsBelow drives waiting (net + 1) k) (sym back)
          (left_more left new drives waiting list net is so_far (subst (λ (l : List Bool). (k : ℕ) → IsMarked new k ↔ (IsMarked l k ⊎ IsDrivenBy drives list k)) same step)),
    )

pub mark_driven-requires-clause-items : goal.mark_driven-requires-clause-items
mark_driven-requires-clause-items c = all_items c.args.waiting.now c.list.result.now c.loop-net.net (length c.args.drives.now) c.list.ensures c.requires.items

pub loop-net-preserved : goal.loop-net-preserved
loop-net-preserved c =
    let r = left_step c.args.drives.now c.args.waiting.now c.loop-net.left.items c.deref_mut.result.now c.mark_driven.new.left c.list.result.now c.loop-net.net c.args.nets c.loop-net.left.len c.list.ensures c.deref_mut.ensures.value
    c.mark_driven.auto.left (omega (arith, c.loop-net.left.ok.0)) c.loop-net.invariant.size c.loop-net.invariant.exact c.mark_driven.ensures in
    record { size = r.0; exact = r.1 }
