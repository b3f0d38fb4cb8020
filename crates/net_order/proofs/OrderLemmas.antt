-- What a state says of the order when nothing more settles.
use Rattle.std.proofs.Common.{◌≡◌, ◌⊎◌, ◌↔◌, ◌==◌, inl, inr, refl, sym, ◌∙◌, ap, ap₂, subst, ℕ, zero, suc, ◌+◌, ◌<◌, ◌≤◌, Bool, true, false, cond, List, [], ◌∷◌, ◌++◌, length, get_or, set, take, map, count_by, arith, length-append, add-zero, Contains}
use Rattle.std.specs.List.{flat_map}
use Rattle.std.proofs.lemmas.List.{get_or_append_left, get_or_at, get_or_past, take_all, take_more, length-take-le, get_or_default, map-set, get_or-map}
use Rattle.std.proofs.lemmas.List.Sums.{sum_by-cons, get_or-le-sum_by}
use Rattle.std.proofs.lemmas.List.Elements.{Contains-append_left, Contains-append_right, Contains-get_or}
use Rattle.std.proofs.lemmas.Bool.{cases_eq, cases_lt, cases_order, cases_Bool, eq-eqb, ne_eqb, both_ways}
use Rattle.net_graph.specs.Chains.{IsMarked, IsMarkedOr, ends_of}
use Rattle.net_graph.proofs.MarkLemmas.{among_more, among_last, among_cases, none_among}
use Rattle.net_order.specs.Order.{IsOrder, AreDriven, IsLeftOver, OthersAreLeft, OthersWait}
use Rattle.net_order.specs.States.{Task, waiters, WaitsAt, times_in, times_waiting, IsState, Moves, IsDrivenBy, WaitsBelow, begun_of, total_of, task_of, Begins}
use Rattle.net_order.specs.declared.waiting.Waiter.{Waiter}
use Rattle.net_order.specs.declared.state.State.{State}

-- a list of a table of lists that is changed
pub list_set : {V : Type 0} (f : V → List Waiter) (lists : List V) (now : List (List Waiter)) (net : ℕ) (v : V) (ws : List Waiter) → map f lists ≡ now → f v ≡ ws → map f (set lists net v) ≡ set now net ws
list_set f lists now net v ws is e = map-set f lists net v ∙ ap₂ (λ l x. set l net x) is e

pub list_at : {V : Type 0} (f : V → List Waiter) (lists : List V) (now : List (List Waiter)) (net : ℕ) (x : V) → map f lists ≡ now → net < length lists → x ≡ get_or lists net x → f x ≡ get_or now net []
list_at f lists now net x is h e = ap f e ∙ (sym (get_or-map f lists net x [] h) ∙ ap (λ l. get_or l net []) is)

-- one more item's nets are marked
pub driven_mark : (first marks after : List Bool) (drives : List (List ℕ)) (list : List Waiter) (i : ℕ) (w : Waiter) (row : List ℕ) → i < length list → w ≡ get_or list i w → row ≡ ends_of drives w.item
    → ((n : ℕ) → IsMarked marks n ↔ (IsMarked first n ⊎ IsDrivenBy drives (take i list) n)) → ((n : ℕ) → IsMarked after n ↔ IsMarkedOr marks row n) → (n : ℕ) → IsMarked after n ↔ (IsMarked first n ⊎ IsDrivenBy drives (take (i + 1) list) n)
driven_mark first marks after drives list i w row h is row_is so_far step n = (λ m. there ((step n).0 m), back)
  where
    old : IsMarked first n ⊎ IsDrivenBy drives (take i list) n → IsMarked first n ⊎ IsDrivenBy drives (take (i + 1) list) n
    old (inl f) = inl f
    old (inr d) = inr (d.0, among_more list i w d.0 h d.1, d.2)

    there : IsMarkedOr marks row n → IsMarked first n ⊎ IsDrivenBy drives (take (i + 1) list) n
    there (inl m) = old ((so_far n).0 m)
    there (inr c) = inr (w, among_last list i w w h (sym is), subst (λ l. Contains l n) row_is c)

    last : (v : Waiter) → Contains (take i list) v ⊎ (get_or list i w ≡ v) → Contains (ends_of drives v.item) n → IsMarked after n
    last v (inl c) d = (step n).1 (inl ((so_far n).1 (inr (v, c, d))))
    last v (inr e) d = (step n).1 (inr (subst (λ l. Contains l n) (sym row_is) (subst (λ (x : Waiter). Contains (ends_of drives x.item) n) (sym (is ∙ e)) d)))

    back : IsMarked first n ⊎ IsDrivenBy drives (take (i + 1) list) n → IsMarked after n
    back (inl f) = (step n).1 (inl ((so_far n).1 (inl f)))
    back (inr d) = last d.0 (among_cases list i w d.0 h d.1) d.2

pub none_driven : (first : List Bool) (drives : List (List ℕ)) (n : ℕ) → IsMarked first n ↔ (IsMarked first n ⊎ IsDrivenBy drives [] n)
none_driven first drives n = (λ m. inl m, back)
  where
    back : IsMarked first n ⊎ IsDrivenBy drives [] n → IsMarked first n
    back (inl m) = m
    back (inr d) = absurd (none_among d.0 d.1)

-- one more net's waiting items
pub left_more : (left after : List Bool) (drives : List (List ℕ)) (waiting : List (List Waiter)) (list : List Waiter) (net : ℕ) → list ≡ waiters waiting net
    → ((n : ℕ) → IsMarked left n ↔ WaitsBelow drives waiting net n) → ((n : ℕ) → IsMarked after n ↔ (IsMarked left n ⊎ IsDrivenBy drives list n)) → (n : ℕ) → IsMarked after n ↔ WaitsBelow drives waiting (net + 1) n
left_more left after drives waiting list net is so_far step n = (λ m. there ((step n).0 m), λ w. back w.0 w.1 w.2 (cases_eq w.0 net))
  where
    there : IsMarked left n ⊎ IsDrivenBy drives list n → WaitsBelow drives waiting (net + 1) n
    there (inl m) = let w = (so_far n).0 m in (w.0, omega (arith, w.1), w.2)
    there (inr d) = (net, omega arith, subst (λ l. IsDrivenBy drives l n) is d)

    back : (m : ℕ) → m < net + 1 → IsDrivenBy drives (waiters waiting m) n → (m ≡ net) ⊎ (m ≡ net → ⊥) → IsMarked after n
    back m h d (inl e) = (step n).1 (inr (subst (λ l. IsDrivenBy drives l n) (sym is) (subst (λ j. IsDrivenBy drives (waiters waiting j) n) e d)))
    back m h d (inr other) = (step n).1 (inl ((so_far n).1 (m, omega (arith, other), d)))

-- counts and elements
abbrev pub bit_of : Bool → ℕ
bit_of b = cond b 1 0

pub one_if : (k i : ℕ) → k ≡ i → bit_of (k == i) ≡ 1
one_if k i e = ap bit_of (eq-eqb k i e)

pub none_if : (k i : ℕ) → (k ≡ i → ⊥) → bit_of (k == i) ≡ 0
none_if k i e = ap bit_of (ne_eqb k i e)

pub contained_counts : (xs : List ℕ) (i : ℕ) → Contains xs i → 1 ≤ count_by (λ k. k == i) xs
contained_counts xs i c =
    let f : ℕ → ℕ = λ k. cond (k == i) 1 0 in
    let a = get_or-le-sum_by f xs c.0 i c.1 in
    let b : f (get_or xs c.0 i) ≡ 1 = one_if (get_or xs c.0 i) i c.2 in
    omega (arith, a, b)

next_in : {X : Type 0} (x : X) (xs : List X) (k : X) → Contains xs k → Contains (x ∷ xs) k
next_in x xs k c = Contains-append_right (x ∷ []) xs k c

first_in : {X : Type 0} (x : X) (xs : List X) → Contains (x ∷ xs) x
first_in x xs = (0, omega arith, refl)

counted_cases : (x : ℕ) (xs : List ℕ) (i : ℕ) → (x ≡ i) ⊎ (x ≡ i → ⊥) → ((x ≡ i → ⊥) → Contains xs i) → Contains (x ∷ xs) i
counted_cases x xs i (inl e) rest = subst (λ j. Contains (x ∷ xs) j) e (first_in x xs)
counted_cases x xs i (inr other) rest = next_in x xs i (rest other)

pub counted_contains : (xs : List ℕ) (i : ℕ) → 1 ≤ count_by (λ k. k == i) xs → Contains xs i
counted_contains [] i h = absurd (omega arith)
counted_contains (x ∷ xs) i h =
    let whole : count_by (λ k. k == i) (x ∷ xs) ≡ bit_of (x == i) + count_by (λ k. k == i) xs = (let f : ℕ → ℕ = λ k. cond (k == i) 1 0 in sum_by-cons f x xs) in
    counted_cases x xs i (cases_eq x i) (λ other. counted_contains xs i (omega (arith, h, whole, none_if x i other)))

abbrev IsListed : List Waiter → ℕ → Type 0
IsListed ws i = (w : Waiter) × Contains ws w × (w.item ≡ i)

listed_cases : (x : Waiter) (ws : List Waiter) (i : ℕ) → (x.item ≡ i) ⊎ (x.item ≡ i → ⊥) → ((x.item ≡ i → ⊥) → IsListed ws i) → IsListed (x ∷ ws) i
listed_cases x ws i (inl e) rest = (x, first_in x ws, e)
listed_cases x ws i (inr other) rest = let r = rest other in (r.0, next_in x ws r.0 r.1, r.2)

pub listed_waits : (ws : List Waiter) (i : ℕ) → 1 ≤ times_in i ws → (w : Waiter) × Contains ws w × (w.item ≡ i)
listed_waits [] i h = absurd (omega arith)
listed_waits (x ∷ ws) i h =
    let whole : times_in i (x ∷ ws) ≡ bit_of (x.item == i) + times_in i ws = (let f : Waiter → ℕ = λ w. cond (w.item == i) 1 0 in sum_by-cons f x ws) in
    listed_cases x ws i (cases_eq x.item i) (λ other. listed_waits ws i (omega (arith, h, whole, none_if x.item i other)))

abbrev IsSomewhere : List (List Waiter) → ℕ → Type 0
IsSomewhere waiting i = (m : ℕ) × (m < length waiting) × IsListed (waiters waiting m) i

waits_cases : (ws : List Waiter) (waiting : List (List Waiter)) (i : ℕ) → (0 < times_in i ws) ⊎ (times_in i ws ≤ 0) → (times_in i ws ≤ 0 → IsSomewhere waiting i) → IsSomewhere (ws ∷ waiting) i
waits_cases ws waiting i (inl here) rest = (0, omega arith, listed_waits ws i (omega arith))
waits_cases ws waiting i (inr none) rest = let r = rest none in (suc r.0, omega (arith, r.1), r.2)

pub waits_somewhere : (waiting : List (List Waiter)) (i : ℕ) → 1 ≤ times_waiting i waiting → (m : ℕ) × (m < length waiting) × ((w : Waiter) × Contains (waiters waiting m) w × (w.item ≡ i))
waits_somewhere [] i h = absurd (omega arith)
waits_somewhere (ws ∷ waiting) i h =
    let whole : times_waiting i (ws ∷ waiting) ≡ times_in i ws + times_waiting i waiting = (let f : List Waiter → ℕ = λ l. times_in i l in sum_by-cons f ws waiting) in
    waits_cases ws waiting i (cases_lt 0 (times_in i ws)) (λ none. waits_somewhere waiting i (omega (arith, h, whole, none)))

pub waiter_counts : (waiting : List (List Waiter)) (m : ℕ) (w : Waiter) → Contains (waiters waiting m) w → 1 ≤ times_waiting w.item waiting
waiter_counts waiting m w c = at (cases_lt m (length waiting))
  where
    inner : 1 ≤ times_in w.item (waiters waiting m)
    inner =
        let f : Waiter → ℕ = λ v. cond (v.item == w.item) 1 0 in
        let a = get_or-le-sum_by f (waiters waiting m) c.0 w c.1 in
        let b : f (get_or (waiters waiting m) c.0 w) ≡ 1 = ap f c.2 ∙ one_if w.item w.item refl in
        omega (arith, a, b)

    at : (m < length waiting) ⊎ (length waiting ≤ m) → 1 ≤ times_waiting w.item waiting
    at (inl h) = let f : List Waiter → ℕ = λ l. times_in w.item l in omega (arith, get_or-le-sum_by f waiting m [] h, inner)
    at (inr h) = absurd (none_among w (subst (λ l. Contains l w) (get_or_past waiting m [] h) c))

-- what has been begun
pub begun_marked : (combines : List Bool) (i : ℕ) → 1 ≤ begun_of combines (length combines) i → IsMarked combines i
begun_marked combines i h = at (cases_Bool (get_or (take (length combines) combines) i false))
  where
    at : (get_or (take (length combines) combines) i false ≡ true) ⊎ (get_or (take (length combines) combines) i false ≡ false) → IsMarked combines i
    at (inl m) = sym (ap (λ l. get_or l i false) (take_all (length combines) combines (omega arith))) ∙ m
    at (inr n) = absurd (omega (arith, h, ap bit_of n))

pub marked_begun : (combines : List Bool) (i : ℕ) → IsMarked combines i → begun_of combines (length combines) i ≡ 1
marked_begun combines i m = ap bit_of (ap (λ l. get_or l i false) (take_all (length combines) combines (omega arith)) ∙ m)

most_one : (b : Bool) → bit_of b ≤ 1
most_one true = omega arith
most_one false = omega arith

begun_one : (combines : List Bool) (items i : ℕ) → items < length combines → get_or combines items false ≡ true → begun_of combines (items + 1) i ≡ begun_of combines items i + bit_of (items == i)
begun_one combines items i inside one = at (cases_order i items)
  where
    grown : take (items + 1) combines ≡ take items combines ++ true ∷ []
    grown = take_more combines items false inside ∙ ap (λ b. take items combines ++ b ∷ []) one

    size : length (take items combines) ≡ items
    size = length-take-le items combines (omega arith)

    now : begun_of combines (items + 1) i ≡ bit_of (get_or (take items combines ++ true ∷ []) i false)
    now = ap (λ l. bit_of (get_or l i false)) grown

    at : (i ≡ items) ⊎ ((i < items) ⊎ (items < i)) → begun_of combines (items + 1) i ≡ begun_of combines items i + bit_of (items == i)
    at (inl e) =
        let a : bit_of (get_or (take items combines ++ true ∷ []) i false) ≡ 1 = ap bit_of (get_or_at (take items combines) true [] false i (size ∙ sym e)) in
        let b : begun_of combines items i ≡ 0 = ap bit_of (get_or_past (take items combines) i false (omega (arith, size))) in
        omega (arith, now, a, b, one_if items i (sym e))
    at (inr (inl below)) =
        let a : bit_of (get_or (take items combines ++ true ∷ []) i false) ≡ begun_of combines items i = ap bit_of (get_or_append_left (take items combines) (true ∷ []) false i (omega (arith, size))) in
        omega (arith, now, a, none_if items i (λ e. omega (arith, e)))
    at (inr (inr above)) =
        let long : length (take items combines ++ true ∷ []) ≡ items + 1 = length-append (take items combines) (true ∷ []) ∙ ap (λ n. n + 1) size in
        let a : bit_of (get_or (take items combines ++ true ∷ []) i false) ≡ 0 = ap bit_of (get_or_past (take items combines ++ true ∷ []) i false (omega (arith, long))) in
        let b : begun_of combines items i ≡ 0 = ap bit_of (get_or_past (take items combines) i false (omega (arith, size))) in
        omega (arith, now, a, b, none_if items i (λ e. omega (arith, e)))

begun_none : (combines : List Bool) (items i : ℕ) → items < length combines → get_or combines items false ≡ false → begun_of combines (items + 1) i ≡ begun_of combines items i
begun_none combines items i inside none = ap bit_of (ap (λ l. get_or l i false) grown ∙ at (cases_lt i items))
  where
    grown : take (items + 1) combines ≡ take items combines ++ false ∷ []
    grown = take_more combines items false inside ∙ ap (λ b. take items combines ++ b ∷ []) none

    size : length (take items combines) ≡ items
    size = length-take-le items combines (omega arith)

    past : (i ≡ items) ⊎ (i ≡ items → ⊥) → items ≤ i → get_or (take items combines ++ false ∷ []) i false ≡ false
    past (inl e) h = get_or_at (take items combines) false [] false i (size ∙ sym e)
    past (inr other) h =
        let long : length (take items combines ++ false ∷ []) ≡ items + 1 = length-append (take items combines) (false ∷ []) ∙ ap (λ n. n + 1) size in
        get_or_past (take items combines ++ false ∷ []) i false (omega (arith, long, other))

    at : (i < items) ⊎ (items ≤ i) → get_or (take items combines ++ false ∷ []) i false ≡ get_or (take items combines) i false
    at (inl below) = get_or_append_left (take items combines) (false ∷ []) false i (omega (arith, size))
    at (inr h) = past (cases_eq i items) h ∙ sym (get_or_past (take items combines) i false (omega (arith, size)))

retotal : (reads drives : List (List ℕ)) (given : List Bool) (begun : ℕ → ℕ) (total : ℕ) (s : State) → IsState reads (record { drives = drives; given = given; begun = begun; total = total }) [] s → IsState reads (record { drives = drives; given = given; begun = begun; total = total_of s }) [] s
retotal reads drives given begun total s h = record { given = h.given; sound = h.sound; known = h.known; counts = h.counts; total = add-zero (total_of s) }

pub begin_more : (reads drives : List (List ℕ)) (combines given : List Bool) (items : ℕ) (s s' : State) (w : Waiter) → w.item ≡ items → items < length combines → get_or combines items false ≡ true → Begins reads drives combines given items s
    → Moves reads s s' → ((t : Task) (hand : List Waiter) → IsState reads t (w ∷ hand) s → IsState reads t hand s') → Begins reads drives combines given (items + 1) s'
begin_more reads drives combines given items s s' w item inside one b m step =
    record {
      waits = m.waits;
      size = m.size ∙ b.size;
      state = retotal reads drives given (begun_of combines (items + 1)) (total_of s + 1) s' (step (record { drives = drives; given = given; begun = begun_of combines (items + 1); total = total_of s + 1 }) [] with_hand);
    }
  where
    with_hand : IsState reads (record { drives = drives; given = given; begun = begun_of combines (items + 1); total = total_of s + 1 }) (w ∷ []) s
    with_hand =
        let h = b.state in
        record {
          given = h.given;
          sound = h.sound;
          known = h.known;
          counts = λ i.
              let f : Waiter → ℕ = λ v. cond (v.item == i) 1 0 in
              let a : times_in i (w ∷ []) ≡ bit_of (w.item == i) + times_in i [] = sum_by-cons f w [] in
              let e : bit_of (w.item == i) ≡ bit_of (items == i) = ap (λ (j : ℕ). bit_of (j == i)) item in
              omega (arith, h.counts i, a, e, begun_one combines items i inside one);
          total = omega arith;
        }

pub begin_skip : (reads drives : List (List ℕ)) (combines given : List Bool) (items : ℕ) (s s' : State) → s' ≡ s → items < length combines → get_or combines items false ≡ false → Begins reads drives combines given items s → Begins reads drives combines given (items + 1) s'
begin_skip reads drives combines given items s s' same inside none b =
    subst (Begins reads drives combines given (items + 1)) (sym same)
    (record {
      waits = b.waits;
      size = b.size;
      state =
          let h = b.state in
          record { given = h.given; sound = h.sound; known = h.known; counts = λ i. h.counts i ∙ sym (begun_none combines items i inside none); total = h.total };
    })

-- one more item's nets are settled
pub ordered_marked : (reads drives : List (List ℕ)) (combines given : List Bool) (s : State) → Begins reads drives combines given (length combines) s → (i : ℕ) → Contains s.order.items i → IsMarked combines i
ordered_marked reads drives combines given s b i c = begun_marked combines i (omega (arith, contained_counts s.order.items i c, b.state.counts i))

pub row_driven : (drives : List (List ℕ)) (order : List ℕ) (done item : ℕ) → done < length order → item ≡ get_or order done item → (n : ℕ) → Contains (ends_of drives item) n → Contains (flat_map (ends_of drives) order) n
row_driven drives [] done item h is n c = absurd (omega arith)
row_driven drives (x ∷ order) zero item h is n c = Contains-append_left (ends_of drives x) (flat_map (ends_of drives) order) n (subst (λ j. Contains (ends_of drives j) n) is c)
row_driven drives (x ∷ order) (suc done) item h is n c = Contains-append_right (ends_of drives x) (flat_map (ends_of drives) order) n (row_driven drives order done item (omega arith) is n c)

pub settled_more : (reads drives : List (List ℕ)) (combines given : List Bool) (s s' : State) (row : List ℕ) → Begins reads drives combines given (length combines) s → Moves reads s s' → ((n : ℕ) → Contains row n → Contains (flat_map (ends_of drives) s.order.items) n)
    → ((t : Task) → ((n : ℕ) → Contains row n → Contains (flat_map (ends_of t.drives) s.order.items) n) → IsState reads t [] s → IsState reads t [] s') → Begins reads drives combines given (length combines) s' × (total_of s' ≡ total_of s)
settled_more reads drives combines given s s' row b m from step =
    let t : Task = task_of drives combines given (length combines) s in
    let after : IsState reads t [] s' = step t from b.state in (
      record { waits = m.waits; size = m.size ∙ b.size; state = retotal reads drives given (begun_of combines (length combines)) (total_of s) s' after },
      sym (add-zero (total_of s')) ∙ after.total,
    )

pub driven_so_far : (reads drives : List (List ℕ)) (s s' : State) (done item : ℕ) → done < length s.order.items → item ≡ get_or s.order.items done item → Moves reads s s' → ((n : ℕ) → Contains (ends_of drives item) n → IsMarked s'.settled.items n)
    → ((k : ℕ) → k < done → (n : ℕ) → Contains (ends_of drives (get_or s.order.items k 0)) n → IsMarked s.settled.items n) → (k : ℕ) → k < done + 1 → (n : ℕ) → Contains (ends_of drives (get_or s'.order.items k 0)) n → IsMarked s'.settled.items n
driven_so_far reads drives s s' done item h is m here so_far k below n c = at (cases_eq k done)
  where
    old : k < length s.order.items → get_or s'.order.items k 0 ≡ get_or s.order.items k 0
    old inside = ap (λ l. get_or l k 0) m.order ∙ get_or_append_left s.order.items m.more 0 k inside

    at : (k ≡ done) ⊎ (k ≡ done → ⊥) → IsMarked s'.settled.items n
    at (inl e) =
        let same : get_or s'.order.items k 0 ≡ item = old (omega arith) ∙ (ap (λ j. get_or s.order.items j 0) e ∙ (get_or_default s.order.items done 0 item h ∙ sym is)) in
        here n (subst (λ j. Contains (ends_of drives j) n) same c)
    at (inr other) = m.kept n (so_far k (omega (arith, other)) n (subst (λ j. Contains (ends_of drives j) n) (old (omega (arith, other))) c))

-- the end, when what all ordered items drive is settled
abbrev pub IsDone : (drives : List (List ℕ)) → State → Type 0
IsDone drives s = (k : ℕ) → k < length s.order.items → (n : ℕ) → Contains (ends_of drives (get_or s.order.items k 0)) n → IsMarked s.settled.items n

pub order_is : (reads drives : List (List ℕ)) (combines given : List Bool) (s : State) → Begins reads drives combines given (length combines) s → IsOrder reads drives combines given s.order.items
order_is reads drives combines given s b =
    record {
      items = ordered_marked reads drives combines given s b;
      once = λ i. omega (arith, b.state.counts i, most_one (get_or (take (length combines) combines) i false));
      known = b.state.known;
    }

pub others_are : (reads drives : List (List ℕ)) (combines given left : List Bool) (s : State) → Begins reads drives combines given (length combines) s → ((n : ℕ) → IsMarked left n ↔ WaitsBelow drives s.waiting (length given) n) → OthersAreLeft drives combines left s.order.items
others_are reads drives combines given left s b exact i m = at (cases_lt 0 (count_by (λ k. k == i) s.order.items))
  where
    at : (0 < count_by (λ k. k == i) s.order.items) ⊎ (count_by (λ k. k == i) s.order.items ≤ 0) → Contains s.order.items i ⊎ ((n : ℕ) → Contains (ends_of drives i) n → IsMarked left n)
    at (inl h) = inl (counted_contains s.order.items i (omega arith))
    at (inr none) =
        let w = waits_somewhere s.waiting i (omega (arith, none, b.state.counts i, marked_begun combines i m)) in
        inr (λ n c. (exact n).1 (w.0, omega (arith, w.1, b.waits.lists, b.size), (w.2.0, w.2.1, subst (λ j. Contains (ends_of drives j) n) (sym w.2.2) c)))

left_if : (drives : List (List ℕ)) (left : List Bool) (s : State) (net j : ℕ) → IsDone drives s → get_or s.settled.items net false ≡ false → Contains (ends_of drives j) net → Contains s.order.items j ⊎ ((k : ℕ) → Contains (ends_of drives j) k → IsMarked left k) → IsMarked left net
left_if drives left s net j done unsettled c (inl o) =
    absurd (both_ways (get_or s.settled.items net false) unsettled (done o.0 o.1 net (subst (λ i. Contains (ends_of drives i) net) (sym (get_or_default s.order.items o.0 0 j o.1 ∙ o.2)) c)))
left_if drives left s net j done unsettled c (inr l) = l net c

left_on : (reads drives : List (List ℕ)) (combines given left : List Bool) (s : State) → Begins reads drives combines given (length combines) s → IsDone drives s → ((n : ℕ) → IsMarked left n ↔ WaitsBelow drives s.waiting (length given) n)
    → (net : ℕ) → get_or s.settled.items net false ≡ false → IsMarked given net ⊎ ((j : ℕ) × IsMarked combines j × Contains (ends_of drives j) net) → IsMarked left net
left_on reads drives combines given left s b done exact net unsettled (inl g) = absurd (both_ways (get_or s.settled.items net false) unsettled (b.state.given net g))
left_on reads drives combines given left s b done exact net unsettled (inr d) = left_if drives left s net d.0 done unsettled d.2 (others_are reads drives combines given left s b exact d.0 d.1)

pub left_are : (reads drives : List (List ℕ)) (combines given left : List Bool) (s : State) → Begins reads drives combines given (length combines) s → IsDone drives s → ((n : ℕ) → IsMarked left n ↔ WaitsBelow drives s.waiting (length given) n)
    → AreDriven reads drives combines given → (n : ℕ) → IsMarked left n → IsLeftOver reads drives combines left n
left_are reads drives combines given left s b done exact driven n m =
    let below : WaitsBelow drives s.waiting (length given) n = (exact n).0 m in
    let w : Waiter = below.2.0 in
    let at : WaitsAt reads s.settled.items below.0 w = b.waits.each below.0 w below.2.1 in
    let combined : IsMarked combines w.item = begun_marked combines w.item (omega (arith, waiter_counts s.waiting below.0 w below.2.1, b.state.counts w.item)) in
    let read : Contains (ends_of reads w.item) below.0 = subst (λ j. Contains (ends_of reads w.item) j) at.net (Contains-get_or (ends_of reads w.item) w.place 0 at.within) in
    (w.item, combined, below.2.2, (below.0, read, left_on reads drives combines given left s b done exact below.0 at.unsettled (driven w.item below.0 combined read)))

pub others_wait : (reads drives : List (List ℕ)) (combines given left : List Bool) (s : State) → Begins reads drives combines given (length combines) s → IsDone drives s → ((n : ℕ) → IsMarked left n ↔ WaitsBelow drives s.waiting (length given) n)
    → AreDriven reads drives combines given → OthersWait reads combines left s.order.items
others_wait reads drives combines given left s b done exact driven i m = at (cases_lt 0 (count_by (λ k. k == i) s.order.items))
  where
    waits : (net : ℕ) (w : Waiter) → w.item ≡ i → WaitsAt reads s.settled.items net w → (k : ℕ) × Contains (ends_of reads i) k × IsMarked left k
    waits net w e at =
        let read : Contains (ends_of reads w.item) net = subst (λ j. Contains (ends_of reads w.item) j) at.net (Contains-get_or (ends_of reads w.item) w.place 0 at.within) in
        let here : Contains (ends_of reads i) net = subst (λ j. Contains (ends_of reads j) net) e read in
        (net, here, left_on reads drives combines given left s b done exact net at.unsettled (driven i net m here))

    at : (0 < count_by (λ k. k == i) s.order.items) ⊎ (count_by (λ k. k == i) s.order.items ≤ 0) → Contains s.order.items i ⊎ ((k : ℕ) × Contains (ends_of reads i) k × IsMarked left k)
    at (inl h) = inl (counted_contains s.order.items i (omega arith))
    at (inr none) =
        let w = waits_somewhere s.waiting i (omega (arith, none, b.state.counts i, marked_begun combines i m)) in
        inr (waits w.0 w.2.0 w.2.2 (b.waits.each w.0 w.2.0 w.2.1))
