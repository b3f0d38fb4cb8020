use Rattle.std.proofs.Common.{◌≡◌, ◌∙◌, refl, sym, ap, subst, ℕ, ◌<◌, ◌≤◌, Bool, false, List, [], ◌∷◌, length, get_or, arith, append-nil, ◌⊎◌, inl, inr}
use Rattle.std.proofs.lemmas.Bool.{cases_lt}
use Rattle.net_graph.specs.Chains.{IsMarked, ends_of}
use Rattle.net_order.specs.States.{IsHeld, WaitsAt, Waits}
use Rattle.net_order.specs.declared.waiting.Waiter.{Waiter}
use Rattle.net_order.specs.declared.state.State.{State}
use Rattle.net_order.proofs.StateLemmas.{wait_waits, wait_state, order_waits, order_state}
use Rattle.net_order.proofs.state.State.advance.Goals as goal

before : (reads : List (List ℕ)) (settled seen : List Bool) (row : List ℕ) (waiter : Waiter) (place : ℕ) → row ≡ ends_of reads waiter.item → seen ≡ settled → IsHeld reads settled waiter → ((k : ℕ) → waiter.place ≤ k → k < place → IsMarked seen (get_or row k 0))
    → (k : ℕ) → k < place → IsMarked settled (get_or (ends_of reads waiter.item) k 0)
before reads settled seen row waiter place is same h more k below = at (cases_lt k waiter.place)
  where
    at : (k < waiter.place) ⊎ (waiter.place ≤ k) → IsMarked settled (get_or (ends_of reads waiter.item) k 0)
    at (inl early) = h.before k early
    at (inr late) = subst (λ l. IsMarked settled (get_or l k 0)) is (subst (λ l. IsMarked l (get_or row k 0)) same (more k late below))

waits_at : (reads : List (List ℕ)) (settled seen : List Bool) (row : List ℕ) (waiter next : Waiter) (place : ℕ) → next ≡ record { item = waiter.item; place = place } → row ≡ ends_of reads waiter.item → seen ≡ settled → place < length row
    → IsHeld reads settled waiter → ((k : ℕ) → waiter.place ≤ k → k < place → IsMarked seen (get_or row k 0)) → get_or seen (get_or row place 0) false ≡ false → WaitsAt reads settled (get_or row place 0) next
waits_at reads settled seen row waiter next place e is same below h more here =
    let size : length row ≡ length (ends_of reads waiter.item) = ap length is in
    subst (WaitsAt reads settled (get_or row place 0)) (sym e)
    (record {
      held = record { item = h.item; place = omega arith; before = before reads settled seen row waiter place is same h more };
      within = omega arith;
      net = ap (λ l. get_or l place 0) (sym is);
      unsettled = ap (λ l. get_or l (get_or row place 0) false) (sym same) ∙ here;
    })

net_within : (reads : List (List ℕ)) (s : State) (row : List ℕ) (waiter : Waiter) (place : ℕ) → row ≡ ends_of reads waiter.item → place < length row → waiter.item < length reads → Waits reads s → get_or row place 0 < length s.waiting
net_within reads s row waiter place is below item w =
    let size : length row ≡ length (ends_of reads waiter.item) = ap length is in
    let e : get_or row place 0 ≡ get_or (ends_of reads waiter.item) place 0 = ap (λ l. get_or l place 0) is in
    let h : get_or (ends_of reads waiter.item) place 0 < length s.settled.items = w.nets waiter.item [] item place 0 (omega arith) in
    omega (arith, w.lists)

pub returns-in_ok-push-clause-moves : goal.returns-in_ok-push-clause-moves
returns-in_ok-push-clause-moves c =
    let s : State = c.args.self.now in
    let s' : State = record { settled = c.args.self.now.settled; waiting = c.push.new.self; order = c.args.self.now.order } in
    let row = c.row-nets.result.now in
    let place = c.next_unsettled-place.result in
    let inside = net_within c.args.reads.now s row c.args.waiter place c.row-nets.ensures c.if-place-nets.true c.requires.held.item c.requires.waits in
    let at = waits_at c.args.reads.now s.settled.items c.deref.result.now row c.args.waiter (record { item = c.args.waiter.item; place = place }) place refl c.row-nets.ensures c.deref.ensures.value c.if-place-nets.true c.requires.held
    c.next_unsettled-place.ensures.before (c.next_unsettled-place.ensures.here c.if-place-nets.true) in
    record {
      waits = wait_waits c.args.reads.now s s' (get_or row place 0) _ refl inside c.in_ok-push.ensures c.requires.waits at;
      size = refl;
      kept = λ n m. m;
      more = [];
      order = sym (append-nil s.order.items);
    }

pub returns-in_ok-push-clause-state : goal.returns-in_ok-push-clause-state
returns-in_ok-push-clause-state c =
    let s : State = c.args.self.now in
    let s' : State = record { settled = c.args.self.now.settled; waiting = c.push.new.self; order = c.args.self.now.order } in
    let row = c.row-nets.result.now in
    let place = c.next_unsettled-place.result in
    let inside = net_within c.args.reads.now s row c.args.waiter place c.row-nets.ensures c.if-place-nets.true c.requires.held.item c.requires.waits in
    wait_state c.args.reads.now s s' (get_or row place 0) c.args.waiter (record { item = c.args.waiter.item; place = place }) refl refl inside c.in_ok-push.ensures refl

pub returns-in_ok-push-2-clause-moves : goal.returns-in_ok-push-2-clause-moves
returns-in_ok-push-2-clause-moves c =
    let s : State = c.args.self.now in
    let s' : State = record { settled = c.args.self.now.settled; waiting = c.args.self.now.waiting; order = c.push-else-place-nets.new.self } in
    record { waits = order_waits c.args.reads.now s s' refl refl c.requires.waits; size = refl; kept = λ n m. m; more = c.args.waiter.item ∷ []; order = c.in_ok-push-2.ensures.items }

pub returns-in_ok-push-2-clause-state : goal.returns-in_ok-push-2-clause-state
returns-in_ok-push-2-clause-state c =
    let s : State = c.args.self.now in
    let s' : State = record { settled = c.args.self.now.settled; waiting = c.args.self.now.waiting; order = c.push-else-place-nets.new.self } in
    let row = c.row-nets.result.now in
    let place = c.next_unsettled-place.result in
    let all = before c.args.reads.now s.settled.items c.deref.result.now row c.args.waiter place c.row-nets.ensures c.deref.ensures.value c.requires.held c.next_unsettled-place.ensures.before in
    let size : length row ≡ length (ends_of c.args.reads.now c.args.waiter.item) = ap length c.row-nets.ensures in
    order_state c.args.reads.now s s' c.args.waiter refl c.in_ok-push-2.ensures.items refl (λ p below. all p (omega (arith, below, size, c.if-place-nets.false)))
