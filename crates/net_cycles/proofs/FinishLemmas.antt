-- Steps of a depth-first search.
use Rattle.std.proofs.Common.{◌≡◌, ◌⊎◌, ◌==◌, inl, inr, refl, sym, ◌∙◌, ap, subst, ℕ, zero, suc, ◌+◌, ◌*◌, ◌^◌, ◌<◌, ◌≤◌, Bool, true, false, not, cond, List, [], ◌∷◌, ◌++◌, length, get_or, set, take, replicate, count_by, All, arith, Contains}
use Rattle.std.proofs.lemmas.Bool.{cases_Bool, cases_eq, cases_lt, eq-eqb, false_from_ne_true, ne_eqb}
use Rattle.std.proofs.lemmas.List.{append-nil, get_or_append_left, get_or_default, get_or-set_other, length-set, length_push, take-append-le, take_all}
use Rattle.std.proofs.Math.Seq.{get_or-append_seam}
use Rattle.std.proofs.lemmas.List.Elements.{All-contains, All-get_or, Contains-append_left, Contains-append_cases, Contains-push, Contains-push_cases}
use Rattle.std.proofs.lemmas.List.Sums.{sum_by-set, sum_by_push}
use Rattle.net_graph.specs.Chains.{IsGraph, IsMarked, LeadsTo, ends_of}
use Rattle.net_graph.proofs.MarkLemmas.{marked_here, marked_kept, marked_within, none_among}
use Rattle.net_order.proofs.OrderLemmas.{bit_of, contained_counts, counted_contains}
use Rattle.net_order.proofs.WalkLemmas.{unmarked}
use Rattle.net_cycles.specs.Finished.{AreAllToEnter, IsFinished, LeadsOn}
use Rattle.net_cycles.specs.Visits.{opening, to_enter}
use Rattle.net_cycles.specs.declared.finish.Visit.{Visit}
use Rattle.net_cycles.proofs.StackLemmas.{Stands, entered, is_open_somewhere, leads_to_top, more_times, none_open, none_times, open_times, opening_reached, opening_stands, opening_times, shut_times, times_open, top_changed, top_done}

abbrev pub times : ℕ → List ℕ → ℕ
times k order = count_by (λ j. j == k) order

abbrev pub mark_bit : List Bool → ℕ → ℕ
mark_bit marks k = bit_of (get_or marks k false)

-- The marked nodes are those that have been entered: each is left or open, once. Each other node is to be entered.
pub record Finishes (graph : List (List ℕ)) (marks : List Bool) (stack : List Visit) (order : List ℕ) : Type 0 where
  pub size : length marks ≡ length graph
  pub nodes : (s : Visit) → Contains stack s → s.node < length graph
  pub counts : (k : ℕ) → times k order + times_open k stack ≡ mark_bit marks k
  pub stands : Stands graph marks stack
  pub closed : (a b : ℕ) → Contains order a → Contains (ends_of graph a) b → IsMarked marks b
  pub leads : LeadsOn graph order
  pub each : (k : ℕ) → k < length graph → IsMarked marks k ⊎ ((s : Visit) × Contains stack s × (s.node ≡ k))

pub end_within : (graph : List (List ℕ)) → IsGraph graph → (a b : ℕ) → a < length graph → Contains (ends_of graph a) b → b < length graph
end_within graph is a b h e = All-contains (λ k. k < length graph) (ends_of graph a) b (All-get_or (λ ends. All (λ k. k < length graph) ends) graph a [] h is) e

get_or_push : (xs : List ℕ) (x i : ℕ) → i ≡ length xs → get_or (xs ++ x ∷ []) i 0 ≡ x
get_or_push xs x i e = ap (λ j. get_or (xs ++ x ∷ []) j 0) e ∙ get_or-append_seam xs x [] 0

pub all_more : (nodes : ℕ) (stack after : List Visit) → after ≡ stack ++ to_enter nodes ∷ [] → AreAllToEnter nodes stack → AreAllToEnter (nodes + 1) after
all_more nodes stack after is are =
    subst (AreAllToEnter (nodes + 1)) (sym is)
    (record { only = λ t c. one t (Contains-push_cases stack (to_enter nodes) t c); each = λ k h. here k (cases_lt k nodes) h })
  where
    one : (t : Visit) → Contains stack t ⊎ (to_enter nodes ≡ t) → (t ≡ to_enter t.node) × (t.node < nodes + 1)
    one t (inl c) = ((are.only t c).0, omega (arith, (are.only t c).1))
    one t (inr same) = (sym same ∙ ap (λ (u : Visit). to_enter u.node) same, omega (arith, ap (λ (u : Visit). u.node) same))

    here : (k : ℕ) → (k < nodes) ⊎ (nodes ≤ k) → k < nodes + 1 → Contains (stack ++ to_enter nodes ∷ []) (to_enter k)
    here k (inl h) below = Contains-append_left stack (to_enter nodes ∷ []) (to_enter k) (are.each k h)
    here k (inr h) below = let same : nodes ≡ k = omega arith in subst (λ (j : ℕ). Contains (stack ++ to_enter nodes ∷ []) (to_enter j)) same (Contains-push stack (to_enter nodes))

bit_at : (marks : List Bool) (k : ℕ) → IsMarked marks k → mark_bit marks k ≡ 1
bit_at marks k m = ap bit_of m

no_bit_at : (marks : List Bool) (k : ℕ) → get_or marks k false ≡ false → mark_bit marks k ≡ 0
no_bit_at marks k m = ap bit_of m

pub finish_begins : (graph : List (List ℕ)) (marks : List Bool) (stack : List Visit) → length marks ≡ length graph → ((k : ℕ) → get_or marks k false ≡ false) → AreAllToEnter (length graph) stack → Finishes graph marks stack []
finish_begins graph marks stack size none are =
    let shut : (t : Visit) → Contains stack t → t.is_open ≡ false = λ t c. ap (λ (u : Visit). u.is_open) (are.only t c).0 in
    record {
      size = size;
      nodes = λ s c. (are.only s c).1;
      counts = λ k. omega (arith, none_times k stack shut, no_bit_at marks k (none k));
      stands = none_open graph marks stack shut;
      closed = λ a b c e. absurd (none_among a c);
      leads = λ i h a b c e. absurd (omega arith);
      each = λ k h. inr (to_enter k, are.each k h, refl);
    }

module _ (graph : List (List ℕ)) (marks : List Bool) (stack rest : List Visit) (t : Visit) (order : List ℕ) (is : stack ≡ rest ++ t ∷ []) (f : Finishes graph marks stack order) where
  pub top_within : t.node < length graph
  top_within = f.nodes t (subst (λ (l : List Visit). Contains l t) (sym is) (Contains-push rest t))

  below_top : (s : Visit) → Contains rest s → Contains stack s
  below_top s c = subst (λ (l : List Visit). Contains l s) (sym is) (Contains-append_left rest (t ∷ []) s c)

  stands_so : Stands graph marks (rest ++ t ∷ [])
  stands_so = subst (λ (l : List Visit). Stands graph marks l) is f.stands

  -- A node that isn't marked stands below the top, unless it is the top's.
  other : (marks' : List Bool) (more : List Visit) → ((k : ℕ) → IsMarked marks k → IsMarked marks' k) → IsMarked marks' t.node → (k : ℕ) → k < length graph → IsMarked marks' k ⊎ ((s : Visit) × Contains (rest ++ more) s × (s.node ≡ k))
  other marks' more kept here k h = at (f.each k h)
    where
      below : (s : Visit) → s.node ≡ k → Contains rest s ⊎ (t ≡ s) → IsMarked marks' k ⊎ ((s : Visit) × Contains (rest ++ more) s × (s.node ≡ k))
      below s same (inl c) = inr (s, Contains-append_left rest more s c, same)
      below s same (inr e) = inl (subst (λ (j : ℕ). IsMarked marks' j) (ap (λ (w : Visit). w.node) e ∙ same) here)

      at : IsMarked marks k ⊎ ((s : Visit) × Contains stack s × (s.node ≡ k)) → IsMarked marks' k ⊎ ((s : Visit) × Contains (rest ++ more) s × (s.node ≡ k))
      at (inl m) = inl (kept k m)
      at (inr (s, c, same)) = below s same (Contains-push_cases rest t s (subst (λ (l : List Visit). Contains l s) is c))

  -- the top needs no visit any more
  rest_stands : IsMarked marks t.node → Stands graph marks rest
  rest_stands m = subst (λ (l : List Visit). Stands graph marks l) (append-nil rest) (top_changed graph marks marks t [] (λ k n. n) m (λ u c. absurd (none_among u c)) tt rest stands_so)

  rest_other : IsMarked marks t.node → (k : ℕ) → k < length graph → IsMarked marks k ⊎ ((s : Visit) × Contains rest s × (s.node ≡ k))
  rest_other m k h = subst (λ (l : List Visit). IsMarked marks k ⊎ ((s : Visit) × Contains l s × (s.node ≡ k))) (append-nil rest) (other marks [] (λ j n. n) m k h)

  pub passed : t.is_open ≡ false → IsMarked marks t.node → Finishes graph marks rest order
  passed shut m =
      record {
        size = f.size;
        nodes = λ s c. f.nodes s (below_top s c);
        counts = λ k. omega (arith, f.counts k, ap (times_open k) is, shut_times k rest t shut);
        stands = rest_stands m;
        closed = f.closed;
        leads = f.leads;
        each = rest_other m;
      }

  -- ---- the top is entered

  pub entered_top : IsGraph graph → t.is_open ≡ false → get_or marks t.node false ≡ false → Finishes graph (set marks t.node true) (rest ++ opening graph t.node) order
  entered_top are shut not_yet =
      record {
        size = length-set marks t.node true ∙ f.size;
        nodes = λ s c. node s (Contains-append_cases rest (opening graph t.node) s c);
        counts = λ k. count k (cases_eq k t.node);
        stands = top_changed graph marks (set marks t.node true) t (opening graph t.node) (marked_kept marks t.node) here (opening_reached graph t.node) (opening_stands graph (set marks t.node true) t.node) rest stands_so;
        closed = λ a b c e. marked_kept marks t.node b (f.closed a b c e);
        leads = f.leads;
        each = other (set marks t.node true) (opening graph t.node) (marked_kept marks t.node) here;
      }
    where
      inside : t.node < length marks
      inside = omega (arith, top_within, f.size)

      here : IsMarked (set marks t.node true) t.node
      here = marked_here marks t.node inside

      of_opening : (s : Visit) → Contains (opening graph t.node) s → s.node < length graph
      of_opening s (zero, inside, same) = subst (λ (u : Visit). u.node < length graph) same top_within
      of_opening s (suc k, inside, same) = end_within graph are t.node s.node top_within (entered (ends_of graph t.node) s (k, omega arith, same)).1

      node : (s : Visit) → Contains rest s ⊎ Contains (opening graph t.node) s → s.node < length graph
      node s (inl c) = f.nodes s (below_top s c)
      node s (inr c) = of_opening s c

      count : (k : ℕ) → (k ≡ t.node) ⊎ (k ≡ t.node → ⊥) → times k order + times_open k (rest ++ opening graph t.node) ≡ mark_bit (set marks t.node true) k
      count k (inl e) =
          let was : mark_bit marks k ≡ 0 = no_bit_at marks k (subst (λ (j : ℕ). get_or marks j false ≡ false) (sym e) not_yet) in
          let now : mark_bit (set marks t.node true) k ≡ 1 = bit_at (set marks t.node true) k (subst (λ (j : ℕ). IsMarked (set marks t.node true) j) (sym e) here) in
          let one : bit_of (t.node == k) ≡ 1 = ap bit_of (eq-eqb t.node k (sym e)) in
          omega (arith, f.counts k, ap (times_open k) is, shut_times k rest t shut, more_times k rest (opening graph t.node), opening_times graph t.node k, was, now, one)
      count k (inr ne) =
          let same : mark_bit (set marks t.node true) k ≡ mark_bit marks k = ap bit_of (get_or-set_other marks t.node k true false ne) in
          let none : bit_of (t.node == k) ≡ 0 = ap bit_of (ne_eqb t.node k (λ x. ne (sym x))) in
          omega (arith, f.counts k, ap (times_open k) is, shut_times k rest t shut, more_times k rest (opening graph t.node), opening_times graph t.node k, same, none)

  -- ---- the top is left

  pub left_top : t.is_open ≡ true → Finishes graph marks rest (order ++ t.node ∷ [])
  left_top o =
      record {
        size = f.size;
        nodes = λ s c. f.nodes s (below_top s c);
        counts = count;
        stands = rest_stands here;
        closed = λ a b c e. close a b (Contains-push_cases order t.node a c) e;
        leads = λ i h a b c e. lead i h a b c e (cases_lt i (length order));
        each = rest_other here;
      }
    where
      pushed : (k : ℕ) → times k (order ++ t.node ∷ []) ≡ times k order + bit_of (t.node == k)
      pushed k = let g : ℕ → ℕ = λ j. cond (j == k) 1 0 in sum_by_push g order t.node

      count : (k : ℕ) → times k (order ++ t.node ∷ []) + times_open k rest ≡ mark_bit marks k
      count k = omega (arith, f.counts k, ap (times_open k) is, open_times k rest t o, pushed k)

      here : IsMarked marks t.node
      here = at (cases_Bool (get_or marks t.node false))
        where
          one : bit_of (t.node == t.node) ≡ 1
          one = ap bit_of (eq-eqb t.node t.node refl)

          at : (get_or marks t.node false ≡ true) ⊎ (get_or marks t.node false ≡ false) → IsMarked marks t.node
          at (inl m) = m
          at (inr not_yet) = absurd (omega (arith, count t.node, pushed t.node, no_bit_at marks t.node not_yet, one))

      done : (b : ℕ) → Contains (ends_of graph t.node) b → IsMarked marks b
      done = top_done graph marks rest t stands_so o

      close : (a b : ℕ) → Contains order a ⊎ (t.node ≡ a) → Contains (ends_of graph a) b → IsMarked marks b
      close a b (inl c) e = f.closed a b c e
      close a b (inr same) e = done b (subst (λ (j : ℕ). Contains (ends_of graph j) b) (sym same) e)

      -- A marked node is left, or open below the top.
      marked : (b : ℕ) → IsMarked marks b → Contains (order ++ t.node ∷ []) b ⊎ LeadsTo graph b t.node
      marked b m = at (cases_lt 0 (times b (order ++ t.node ∷ [])))
        where
          at : (0 < times b (order ++ t.node ∷ [])) ⊎ (times b (order ++ t.node ∷ []) ≤ 0) → Contains (order ++ t.node ∷ []) b ⊎ LeadsTo graph b t.node
          at (inl h) = inl (counted_contains (order ++ t.node ∷ []) b (omega arith))
          at (inr h) =
              let s = is_open_somewhere rest b (omega (arith, h, count b, bit_at marks b m)) in
              inr (subst (λ (j : ℕ). LeadsTo graph j t.node) s.3 (leads_to_top graph marks rest t s.0 stands_so s.1 s.2))

      whole : (i : ℕ) → i < length (order ++ t.node ∷ []) → length order ≤ i → i ≡ length order
      whole i h late = omega (arith, length_push order t.node)

      lead : (i : ℕ) → i < length (order ++ t.node ∷ []) → (a b : ℕ) → Contains (take (i + 1) (order ++ t.node ∷ [])) a → Contains (ends_of graph a) b → (i < length order) ⊎ (length order ≤ i)
          → Contains (take (i + 1) (order ++ t.node ∷ [])) b ⊎ LeadsTo graph b (get_or (order ++ t.node ∷ []) i 0)
      lead i h a b c e (inl early) =
          let front : take (i + 1) (order ++ t.node ∷ []) ≡ take (i + 1) order = take-append-le (i + 1) order (t.node ∷ []) (omega arith) in
          let item : get_or (order ++ t.node ∷ []) i 0 ≡ get_or order i 0 = get_or_append_left order (t.node ∷ []) 0 i early in
          subst (λ (x : ℕ). Contains (take (i + 1) (order ++ t.node ∷ [])) b ⊎ LeadsTo graph b x) (sym item)
          (subst (λ (l : List ℕ). Contains l b ⊎ LeadsTo graph b (get_or order i 0)) (sym front) (f.leads i early a b (subst (λ (l : List ℕ). Contains l a) front c) e))
      lead i h a b c e (inr late) =
          let all : take (i + 1) (order ++ t.node ∷ []) ≡ order ++ t.node ∷ [] = take_all (i + 1) (order ++ t.node ∷ []) (omega (arith, late, length_push order t.node)) in
          let item : get_or (order ++ t.node ∷ []) i 0 ≡ t.node = get_or_push order t.node i (whole i h late) in
          subst (λ (x : ℕ). Contains (take (i + 1) (order ++ t.node ∷ [])) b ⊎ LeadsTo graph b x) (sym item)
          (subst (λ (l : List ℕ). Contains l b ⊎ LeadsTo graph b t.node) (sym all) (marked b (close a b (Contains-push_cases order t.node a (subst (λ (l : List ℕ). Contains l a) all c)) e)))

pub finish_ends : (graph : List (List ℕ)) (marks : List Bool) (stack : List Visit) (order : List ℕ) → stack ≡ [] → Finishes graph marks stack order → IsFinished graph order
finish_ends graph marks stack order none f =
    record {
      within = λ k c. at k c (cases_Bool (get_or marks k false));
      once = λ k. omega (arith, so k, most k (cases_Bool (get_or marks k false)));
      each = λ k h. there k (f.each k h);
      leads = f.leads;
    }
  where
    so : (k : ℕ) → times k order ≡ mark_bit marks k
    so k = let e : times_open k stack ≡ 0 = ap (times_open k) none in omega (arith, f.counts k, e)

    most : (k : ℕ) → (get_or marks k false ≡ true) ⊎ (get_or marks k false ≡ false) → mark_bit marks k ≤ 1
    most k (inl m) = omega (arith, bit_at marks k m)
    most k (inr m) = omega (arith, no_bit_at marks k m)

    at : (k : ℕ) → Contains order k → (get_or marks k false ≡ true) ⊎ (get_or marks k false ≡ false) → k < length graph
    at k c (inl m) = omega (arith, marked_within marks k m, f.size)
    at k c (inr m) = absurd (omega (arith, so k, no_bit_at marks k m, contained_counts order k c))

    there : (k : ℕ) → IsMarked marks k ⊎ ((s : Visit) × Contains stack s × (s.node ≡ k)) → Contains order k
    there k (inl m) = counted_contains order k (omega (arith, so k, bit_at marks k m))
    there k (inr (s, c, same)) = absurd (none_among s (subst (λ (l : List Visit). Contains l s) none c))

pub no_marks : (marks : List Bool) (n : ℕ) → marks ≡ replicate n false → (k : ℕ) → get_or marks k false ≡ false
no_marks marks n is k = false_from_ne_true (get_or marks k false) (λ m. unmarked n k (subst (λ (l : List Bool). IsMarked l k) is m))

pub read_mark : (marks : List Bool) (i : ℕ) (b x : Bool) → i < length marks → b ≡ get_or marks i b → b ≡ x → get_or marks i false ≡ x
read_mark marks i b x h is e = get_or_default marks i false b h ∙ (sym is ∙ e)

-- A node is entered, and less than 2 ^ 64 visits are left.
pub fewer_left : (marks : List Bool) (k : ℕ) (stack after : List Visit) → k < length marks → get_or marks k false ≡ false → length after < 2 ^ 64
    → count_by not (set marks k true) * 2 ^ 64 + length after < count_by not marks * 2 ^ 64 + length stack
fewer_left marks k stack after h none room =
    let f : Bool → ℕ = λ b. cond (not b) 1 0 in
    let moved : count_by not (set marks k true) + f (get_or marks k false) ≡ count_by not marks + f true = sum_by-set f marks k true false h in
    let was : f (get_or marks k false) ≡ 1 = ap f none in
    let fewer : count_by not (set marks k true) + 1 ≡ count_by not marks = omega (arith, moved, was) in
    omega (arith, fewer, room)
