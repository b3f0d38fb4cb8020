-- Steps from state to state.
use Rattle.std.proofs.Common.{◌≡◌, ◌⊎◌, ◌==◌, inl, inr, refl, sym, ◌∙◌, ap, subst, ℕ, ◌+◌, ◌<◌, ◌≤◌, Bool, true, false, cond, List, [], ◌∷◌, ◌++◌, length, get_or, set, take, drop, sum_by, count_by, arith, append_assoc, append-nil, Contains, All}
use Rattle.std.specs.List.{flat_map}
use Rattle.std.proofs.lemmas.List.{length-set, length_push, get_or-set_same, get_or-set_other, get_or_append_left, get_or_at, take-append-le, take_at, get_or_default, drop_more, drop_all}
use Rattle.std.proofs.lemmas.List.Sums.{sum_by-set, sum_by_push, sum_by-cons}
use Rattle.std.proofs.lemmas.List.Elements.{Contains-append_left, Contains-push_cases}
use Rattle.std.proofs.lemmas.Grind.{flat_map-append}
use Rattle.std.proofs.lemmas.Bool.{cases_eq, cases_lt}
use Rattle.net_graph.specs.Chains.{IsMarked, ends_of}
use Rattle.net_graph.proofs.MarkLemmas.{marked_kept, marked_cases, none_among}
use Rattle.net_order.specs.Order.{AreNets, IsKnown}
use Rattle.net_order.specs.States.{Task, waiters, IsHeld, WaitsAt, Waits, times_in, times_waiting, IsState, Moves}
use Rattle.net_order.specs.declared.waiting.Waiter.{Waiter}
use Rattle.net_order.specs.declared.state.State.{State}

pub stays : (reads : List (List ℕ)) (s : State) → Waits reads s → Moves reads s s
stays reads s w = record { waits = w; size = refl; kept = λ n m. m; more = []; order = sym (append-nil s.order.items) }

pub moves_on : (reads : List (List ℕ)) (a b c : State) → Moves reads a b → Moves reads b c → Moves reads a c
moves_on reads a b c x y =
    record {
      waits = y.waits;
      size = y.size ∙ x.size;
      kept = λ n m. y.kept n (x.kept n m);
      more = x.more ++ y.more;
      order = y.order ∙ (ap (λ l. l ++ y.more) x.order ∙ append_assoc a.order.items x.more y.more);
    }

pub known_more : (drives : List (List ℕ)) (given : List Bool) (order more : List ℕ) (n : ℕ) → IsKnown drives given order n → IsKnown drives given (order ++ more) n
known_more drives given order more n (inl g) = inl g
known_more drives given order more n (inr c) = inr (subst (λ l. Contains l n) (sym (flat_map-append (ends_of drives) order more)) (Contains-append_left (flat_map (ends_of drives) order) (flat_map (ends_of drives) more) n c))

pub driven_more : (drives : List (List ℕ)) (order after more : List ℕ) (n : ℕ) → after ≡ order ++ more → Contains (flat_map (ends_of drives) order) n → Contains (flat_map (ends_of drives) after) n
driven_more drives order after more n e c =
    subst (λ l. Contains (flat_map (ends_of drives) l) n) (sym e)
    (subst (λ l. Contains l n) (sym (flat_map-append (ends_of drives) order more)) (Contains-append_left (flat_map (ends_of drives) order) (flat_map (ends_of drives) more) n c))

same_settled : (reads : List (List ℕ)) (settled after : List Bool) (n : ℕ) (w : Waiter) → after ≡ settled → WaitsAt reads settled n w → WaitsAt reads after n w
same_settled reads settled after n w e h = subst (λ l. WaitsAt reads l n w) (sym e) h

-- an item waits for a net
pub wait_waits : (reads : List (List ℕ)) (s s' : State) (m : ℕ) (next : Waiter) → s'.settled.items ≡ s.settled.items → m < length s.waiting → s'.waiting ≡ set s.waiting m (waiters s.waiting m ++ next ∷ []) → Waits reads s → WaitsAt reads s.settled.items m next → Waits reads s'
wait_waits reads s s' m next same inside is w at =
    record {
      nets = subst (λ l. AreNets (length l) reads) (sym same) w.nets;
      lists = ap length is ∙ (length-set s.waiting m (waiters s.waiting m ++ next ∷ []) ∙ (w.lists ∙ sym (ap length same)));
      each = λ n v c. same_settled reads s.settled.items s'.settled.items n v same (each n v (subst (λ l. Contains (waiters l n) v) is c) (cases_eq n m));
    }
  where
    here : (v : Waiter) → Contains (waiters s.waiting m) v ⊎ (next ≡ v) → WaitsAt reads s.settled.items m v
    here v (inl c) = w.each m v c
    here v (inr e) = subst (λ x. WaitsAt reads s.settled.items m x) e at

    each : (n : ℕ) (v : Waiter) → Contains (waiters (set s.waiting m (waiters s.waiting m ++ next ∷ [])) n) v → (n ≡ m) ⊎ (n ≡ m → ⊥) → WaitsAt reads s.settled.items n v
    each n v c (inl e) =
        subst (λ j. WaitsAt reads s.settled.items j v) (sym e)
        (here v (Contains-push_cases (waiters s.waiting m) next v
        (subst (λ l. Contains l v) (get_or-set_same s.waiting m (waiters s.waiting m ++ next ∷ []) [] inside) (subst (λ j. Contains (waiters (set s.waiting m (waiters s.waiting m ++ next ∷ [])) j) v) e c))))
    each n v c (inr other) = w.each n v (subst (λ l. Contains l v) (get_or-set_other s.waiting m n (waiters s.waiting m ++ next ∷ []) [] other) c)

pub wait_state : (reads : List (List ℕ)) (s s' : State) (m : ℕ) (waiter next : Waiter) → s'.settled.items ≡ s.settled.items → s'.order.items ≡ s.order.items → m < length s.waiting → s'.waiting ≡ set s.waiting m (waiters s.waiting m ++ next ∷ []) → next.item ≡ waiter.item
    → (t : Task) (hand : List Waiter) → IsState reads t (waiter ∷ hand) s → IsState reads t hand s'
wait_state reads s s' m waiter next same kept inside is item t hand h =
    record {
      given = λ n g. subst (λ l. IsMarked l n) (sym same) (h.given n g);
      sound = λ n g. subst (λ l. IsKnown t.drives t.given l n) (sym kept) (h.sound n (subst (λ l. IsMarked l n) same g));
      known = λ k below n c.
          subst (λ (l : List ℕ). IsKnown t.drives t.given (take k l) n) (sym kept) (h.known k (subst (λ l. k < length l) kept below) n (subst (λ (l : List ℕ). Contains (ends_of reads (get_or l k 0)) n) kept c));
      counts = λ i.
          let f : List Waiter → ℕ = λ ws. times_in i ws in
          let one : Waiter → ℕ = λ w. cond (w.item == i) 1 0 in
          let a = sum_by-set f s.waiting m (waiters s.waiting m ++ next ∷ []) [] inside in
          let b : f (waiters s.waiting m ++ next ∷ []) ≡ f (waiters s.waiting m) + one next = sum_by_push one (waiters s.waiting m) next in
          let d : f (waiter ∷ hand) ≡ one waiter + f hand = sum_by-cons one waiter hand in
          let e : one next ≡ one waiter = ap (λ (j : ℕ). cond (j == i) 1 0) item in
          let o : count_by (λ k. k == i) s'.order.items ≡ count_by (λ k. k == i) s.order.items = ap (count_by (λ k. k == i)) kept in
          let now : times_waiting i s'.waiting ≡ sum_by f (set s.waiting m (waiters s.waiting m ++ next ∷ [])) = ap (sum_by f) is in
          omega (arith, a, b, d, e, o, now, h.counts i);
      total =
          let f : List Waiter → ℕ = λ ws. length ws in
          let a = sum_by-set f s.waiting m (waiters s.waiting m ++ next ∷ []) [] inside in
          let b : f (waiters s.waiting m ++ next ∷ []) ≡ f (waiters s.waiting m) + 1 = length_push (waiters s.waiting m) next in
          let o : length s'.order.items ≡ length s.order.items = ap length kept in
          let now : sum_by f s'.waiting ≡ sum_by f (set s.waiting m (waiters s.waiting m ++ next ∷ [])) = ap (sum_by f) is in
          omega (arith, a, b, o, now, h.total);
    }

-- an item is ordered
pub order_waits : (reads : List (List ℕ)) (s s' : State) → s'.settled.items ≡ s.settled.items → s'.waiting ≡ s.waiting → Waits reads s → Waits reads s'
order_waits reads s s' same is w =
    record {
      nets = subst (λ l. AreNets (length l) reads) (sym same) w.nets;
      lists = ap length is ∙ (w.lists ∙ sym (ap length same));
      each = λ n v c. same_settled reads s.settled.items s'.settled.items n v same (w.each n v (subst (λ l. Contains (waiters l n) v) is c));
    }

pub order_state : (reads : List (List ℕ)) (s s' : State) (waiter : Waiter) → s'.settled.items ≡ s.settled.items → s'.order.items ≡ s.order.items ++ waiter.item ∷ [] → s'.waiting ≡ s.waiting
    → ((p : ℕ) → p < length (ends_of reads waiter.item) → IsMarked s.settled.items (get_or (ends_of reads waiter.item) p 0))
    → (t : Task) (hand : List Waiter) → IsState reads t (waiter ∷ hand) s → IsState reads t hand s'
order_state reads s s' waiter same grown is all t hand h =
    record {
      given = λ n g. subst (λ l. IsMarked l n) (sym same) (h.given n g);
      sound = λ n g. subst (λ l. IsKnown t.drives t.given l n) (sym grown) (known_more t.drives t.given order (item ∷ []) n (h.sound n (subst (λ l. IsMarked l n) same g)));
      known = λ k below n c. subst (λ (l : List ℕ). IsKnown t.drives t.given (take k l) n) (sym grown) (known k n (subst (λ (l : List ℕ). Contains (ends_of reads (get_or l k 0)) n) grown c) (cases_lt k (length order)) (subst (λ l. k < length l) grown below));
      counts = λ i.
          let one : Waiter → ℕ = λ w. cond (w.item == i) 1 0 in
          let g : ℕ → ℕ = λ k. cond (k == i) 1 0 in
          let b : count_by (λ k. k == i) (order ++ item ∷ []) ≡ count_by (λ k. k == i) order + g item = sum_by_push g order item in
          let d : times_in i (waiter ∷ hand) ≡ one waiter + times_in i hand = sum_by-cons one waiter hand in
          let o : count_by (λ k. k == i) s'.order.items ≡ count_by (λ k. k == i) (order ++ item ∷ []) = ap (count_by (λ k. k == i)) grown in
          let now : times_waiting i s'.waiting ≡ times_waiting i s.waiting = ap (times_waiting i) is in
          omega (arith, b, d, o, now, h.counts i);
      total =
          let f : List Waiter → ℕ = λ ws. length ws in
          let o : length s'.order.items ≡ length order + 1 = ap length grown ∙ length_push order item in
          let now : sum_by f s'.waiting ≡ sum_by f s.waiting = ap (sum_by f) is in
          omega (arith, o, now, h.total);
    }
  where
    order : List ℕ
    order = s.order.items

    item : ℕ
    item = waiter.item

    last : (n : ℕ) → Contains (ends_of reads item) n → IsKnown t.drives t.given order n
    last n c = h.sound n (subst (λ j. IsMarked s.settled.items j) (get_or_default (ends_of reads item) c.0 0 n c.1 ∙ c.2) (all c.0 c.1))

    known : (k n : ℕ) → Contains (ends_of reads (get_or (order ++ item ∷ []) k 0)) n → (k < length order) ⊎ (length order ≤ k) → k < length (order ++ item ∷ []) → IsKnown t.drives t.given (take k (order ++ item ∷ [])) n
    known k n c (inl below) within =
        subst (λ l. IsKnown t.drives t.given l n) (sym (take-append-le k order (item ∷ []) (omega arith)))
        (h.known k below n (subst (λ j. Contains (ends_of reads j) n) (get_or_append_left order (item ∷ []) 0 k below) c))
    known k n c (inr past) within =
        let e : length order ≡ k = omega (arith, length_push order item, within) in
        subst (λ l. IsKnown t.drives t.given l n) (sym (take_at order (item ∷ []) k e)) (last n (subst (λ j. Contains (ends_of reads j) n) (get_or_at order item [] 0 k e) c))

-- a net is settled, and those that wait for it are in hand
held_kept : (reads : List (List ℕ)) (settled : List Bool) (net : ℕ) (v : Waiter) → IsHeld reads settled v → IsHeld reads (set settled net true) v
held_kept reads settled net v h = record { item = h.item; place = h.place; before = λ k below. marked_kept settled net (get_or (ends_of reads v.item) k 0) (h.before k below) }

pub taken_waits : (reads : List (List ℕ)) (s s' : State) (net : ℕ) → net < length s.settled.items → s'.settled.items ≡ set s.settled.items net true → s'.waiting ≡ set s.waiting net [] → Waits reads s → Waits reads s'
taken_waits reads s s' net inside now is w =
    record {
      nets = subst (λ n. AreNets n reads) (sym (ap length now ∙ length-set s.settled.items net true)) w.nets;
      lists = ap length is ∙ (length-set s.waiting net [] ∙ (w.lists ∙ sym (ap length now ∙ length-set s.settled.items net true)));
      each = λ n v c. same_settled reads (set s.settled.items net true) s'.settled.items n v now (each n v (subst (λ l. Contains (waiters l n) v) is c) (cases_eq n net));
    }
  where
    each : (n : ℕ) (v : Waiter) → Contains (waiters (set s.waiting net []) n) v → (n ≡ net) ⊎ (n ≡ net → ⊥) → WaitsAt reads (set s.settled.items net true) n v
    each n v c (inl e) =
        absurd (none_among v (subst (λ l. Contains l v) (get_or-set_same s.waiting net [] [] (omega (arith, w.lists, inside))) (subst (λ j. Contains (waiters (set s.waiting net []) j) v) e c)))
    each n v c (inr other) =
        let old = w.each n v (subst (λ l. Contains l v) (get_or-set_other s.waiting net n [] [] other) c) in
        record { held = held_kept reads s.settled.items net v old.held; within = old.within; net = old.net; unsettled = get_or-set_other s.settled.items net n true false other ∙ old.unsettled }

pub taken_held : (reads : List (List ℕ)) (s s' : State) (net : ℕ) (hand : List Waiter) → s'.settled.items ≡ set s.settled.items net true → hand ≡ waiters s.waiting net → Waits reads s → All (IsHeld reads s'.settled.items) hand
taken_held reads s s' net hand now is w = λ k d below.
    subst (λ l. IsHeld reads l (get_or hand k d)) (sym now)
    (held_kept reads s.settled.items net (get_or hand k d) (w.each net (get_or hand k d) (subst (λ l. Contains l (get_or hand k d)) is (k, below, get_or_default hand k (get_or hand k d) d below))).held)

pub taken_state : (reads : List (List ℕ)) (s s' : State) (net : ℕ) (hand : List Waiter) → net < length s.settled.items → s'.settled.items ≡ set s.settled.items net true → s'.order.items ≡ s.order.items → s'.waiting ≡ set s.waiting net [] → hand ≡ waiters s.waiting net → Waits reads s
    → (t : Task) → Contains (flat_map (ends_of t.drives) s.order.items) net → IsState reads t [] s → IsState reads t hand s'
taken_state reads s s' net hand inside now kept is from w t driven h =
    record {
      given = λ n g. subst (λ l. IsMarked l n) (sym now) (marked_kept s.settled.items net n (h.given n g));
      sound = λ n g. subst (λ l. IsKnown t.drives t.given l n) (sym kept) (sound n (marked_cases s.settled.items net n (subst (λ l. IsMarked l n) now g)));
      known = λ k below n c.
          subst (λ (l : List ℕ). IsKnown t.drives t.given (take k l) n) (sym kept) (h.known k (subst (λ l. k < length l) kept below) n (subst (λ (l : List ℕ). Contains (ends_of reads (get_or l k 0)) n) kept c));
      counts = λ i.
          let f : List Waiter → ℕ = λ ws. times_in i ws in
          let a = sum_by-set f s.waiting net [] [] (omega (arith, w.lists, inside)) in
          let b : f hand ≡ f (waiters s.waiting net) = ap f from in
          let o : count_by (λ k. k == i) s'.order.items ≡ count_by (λ k. k == i) s.order.items = ap (count_by (λ k. k == i)) kept in
          let later : times_waiting i s'.waiting ≡ sum_by f (set s.waiting net []) = ap (sum_by f) is in
          omega (arith, a, b, o, later, h.counts i);
      total =
          let f : List Waiter → ℕ = λ ws. length ws in
          let a = sum_by-set f s.waiting net [] [] (omega (arith, w.lists, inside)) in
          let b : f hand ≡ f (waiters s.waiting net) = ap f from in
          let o : length s'.order.items ≡ length s.order.items = ap length kept in
          let later : sum_by f s'.waiting ≡ sum_by f (set s.waiting net []) = ap (sum_by f) is in
          omega (arith, a, b, o, later, h.total);
    }
  where
    sound : (n : ℕ) → IsMarked s.settled.items n ⊎ (net ≡ n) → IsKnown t.drives t.given s.order.items n
    sound n (inl m) = h.sound n m
    sound n (inr e) = inr (subst (λ j. Contains (flat_map (ends_of t.drives) s.order.items) j) e driven)

pub taken_moves : (reads : List (List ℕ)) (s s' : State) (net : ℕ) → s'.settled.items ≡ set s.settled.items net true → s'.order.items ≡ s.order.items → Waits reads s' → Moves reads s s'
taken_moves reads s s' net now kept w =
    record {
      waits = w;
      size = ap length now ∙ length-set s.settled.items net true;
      kept = λ n m. subst (λ l. IsMarked l n) (sym now) (marked_kept s.settled.items net n m);
      more = [];
      order = kept ∙ sym (append-nil s.order.items);
    }

-- the items of a list wait no more, one after another
pub next_held : (reads : List (List ℕ)) (settled first : List Bool) (hand : List Waiter) (i : ℕ) (w : Waiter) → i < length hand → w ≡ get_or hand i w → settled ≡ first → All (IsHeld reads first) hand → IsHeld reads settled w
next_held reads settled first hand i w h is same all = subst (λ l. IsHeld reads l w) (sym same) (subst (IsHeld reads first) (sym is) (all i w h))

pub next_state : (reads : List (List ℕ)) (first s s' : State) (hand : List Waiter) (i : ℕ) (w : Waiter) → i < length hand → w ≡ get_or hand i w → ((t : Task) → IsState reads t hand first → IsState reads t (drop i hand) s)
    → ((t : Task) (rest : List Waiter) → IsState reads t (w ∷ rest) s → IsState reads t rest s') → (t : Task) → IsState reads t hand first → IsState reads t (drop (i + 1) hand) s'
next_state reads first s s' hand i w h is so_far step t begun =
    step t (drop (i + 1) hand) (subst (λ l. IsState reads t l s) (drop_more hand i w h ∙ ap (λ x. x ∷ drop (i + 1) hand) (sym is)) (so_far t begun))

pub all_states : (reads : List (List ℕ)) (first s : State) (hand : List Waiter) (i : ℕ) → length hand ≤ i → ((t : Task) → IsState reads t hand first → IsState reads t (drop i hand) s) → (t : Task) → IsState reads t hand first → IsState reads t [] s
all_states reads first s hand i h so_far t begun = subst (λ l. IsState reads t l s) (drop_all i hand h) (so_far t begun)
