-- Walks over nets that are left over.
use Rattle.std.proofs.Common.{◌≡◌, ◌⊎◌, ◌↔◌, ◌==◌, inl, inr, refl, sym, ◌∙◌, ap, subst, ℕ, ◌+◌, ◌<◌, ◌≤◌, Bool, true, false, not, cond, List, [], ◌∷◌, ◌++◌, length, get_or, set, take, drop, count_by, arith, Some, slice_get, replicate, Contains}
use Rattle.std.proofs.lemmas.List.{length-set, take-append-drop, drop_more, get_or_default, at_drop_more, get_or-replicate, length-replicate}
use Rattle.std.proofs.lemmas.List.Sums.{sum_by-set, sum_by_push}
use Rattle.std.proofs.lemmas.List.Elements.{Contains-append_left, Contains-push, Contains-push_cases}
use Rattle.std.proofs.lemmas.Bool.{cases_eq, cases_lt, both_ways}
use Rattle.net_graph.specs.Chains.{IsMarked}
use Rattle.net_graph.proofs.MarkLemmas.{marked_kept, marked_here, marked_cases, marked_within, none_among}
use Rattle.net_order.specs.Walks.{first_left, FollowsTo, FollowsAlong, IsWalkedFrom}
use Rattle.net_order.proofs.OrderLemmas.{counted_contains, bit_of, one_if, none_if}

-- a path from a net to a net
abbrev pub AlongFrom : (reads : List (List ℕ)) (driver : List ℕ) (left : List Bool) → ℕ → List ℕ → ℕ → Type 0
AlongFrom reads driver left start [] net = net ≡ start
AlongFrom reads driver left start (n ∷ rest) net = (n ≡ start) × FollowsAlong reads driver left (n ∷ rest) net

pub record Walks (reads : List (List ℕ)) (driver : List ℕ) (left : List Bool) (start : ℕ) (met : List Bool) (path : List ℕ) (net : ℕ) : Type 0 where
  pub size : length met ≡ length left
  pub marked : IsMarked left net
  pub along : AlongFrom reads driver left start path net
  pub seen : (k : ℕ) → IsMarked met k ↔ Contains path k
  pub once : (i : ℕ) → count_by (λ k. k == i) path ≤ 1

along-push : (reads : List (List ℕ)) (driver : List ℕ) (left : List Bool) (path : List ℕ) (net k : ℕ) → FollowsAlong reads driver left path net → FollowsTo reads driver left net k → FollowsAlong reads driver left (path ++ net ∷ []) k
along-push reads driver left [] net k h f = absurd h
along-push reads driver left (n ∷ []) net k h f = (h, f)
along-push reads driver left (n ∷ m ∷ rest) net k h f = (h.0, along-push reads driver left (m ∷ rest) net k h.1 f)

along_more : (reads : List (List ℕ)) (driver : List ℕ) (left : List Bool) (start : ℕ) (path : List ℕ) (net k : ℕ) → AlongFrom reads driver left start path net → FollowsTo reads driver left net k → AlongFrom reads driver left start (path ++ net ∷ []) k
along_more reads driver left start [] net k h f = (h, f)
along_more reads driver left start (n ∷ rest) net k h f = (h.0, along-push reads driver left (n ∷ rest) net k h.1 f)

pub walks_none : (reads : List (List ℕ)) (driver : List ℕ) (left met : List Bool) (start : ℕ) → length met ≡ length left → ((k : ℕ) → IsMarked met k → ⊥) → IsMarked left start → Walks reads driver left start met [] start
walks_none reads driver left met start size none m =
    record { size = size; marked = m; along = refl; seen = λ k. (λ h. absurd (none k h), λ c. absurd (none_among k c)); once = λ i. omega arith }

pub walks_more : (reads : List (List ℕ)) (driver : List ℕ) (left met met' : List Bool) (start : ℕ) (path path' : List ℕ) (net k : ℕ) → Walks reads driver left start met path net → get_or met net false ≡ false → met' ≡ set met net true → path' ≡ path ++ net ∷ []
    → FollowsTo reads driver left net k → IsMarked left k → Walks reads driver left start met' path' k
walks_more reads driver left met met' start path path' net k w unmet now longer f m =
    record {
      size = ap length now ∙ (length-set met net true ∙ w.size);
      marked = m;
      along = subst (λ l. AlongFrom reads driver left start l k) (sym longer) (along_more reads driver left start path net k w.along f);
      seen = λ j. (λ h. subst (λ l. Contains l j) (sym longer) (there j (marked_cases met net j (subst (λ l. IsMarked l j) now h))), λ c. subst (λ l. IsMarked l j) (sym now) (back j (Contains-push_cases path net j (subst (λ l. Contains l j) longer c))));
      once = λ i. subst (λ (l : List ℕ). count_by (λ n. n == i) l ≤ 1) (sym longer) (once i (cases_eq net i));
    }
  where
    inside : net < length met
    inside = omega (arith, w.size, marked_within left net w.marked)

    there : (j : ℕ) → IsMarked met j ⊎ (net ≡ j) → Contains (path ++ net ∷ []) j
    there j (inl h) = Contains-append_left path (net ∷ []) j ((w.seen j).0 h)
    there j (inr e) = subst (λ i. Contains (path ++ net ∷ []) i) e (Contains-push path net)

    back : (j : ℕ) → Contains path j ⊎ (net ≡ j) → IsMarked (set met net true) j
    back j (inl c) = marked_kept met net j ((w.seen j).1 c)
    back j (inr e) = subst (λ i. IsMarked (set met net true) i) e (marked_here met net inside)

    pushed : (i : ℕ) → count_by (λ n. n == i) (path ++ net ∷ []) ≡ count_by (λ n. n == i) path + bit_of (net == i)
    pushed i = let g : ℕ → ℕ = λ n. cond (n == i) 1 0 in sum_by_push g path net

    none_here : (i : ℕ) → net ≡ i → (0 < count_by (λ n. n == i) path) ⊎ (count_by (λ n. n == i) path ≤ 0) → count_by (λ n. n == i) path ≤ 0
    none_here i e (inl h) = absurd (both_ways (get_or met net false) unmet ((w.seen net).1 (subst (λ j. Contains path j) (sym e) (counted_contains path i (omega arith)))))
    none_here i e (inr h) = h

    once : (i : ℕ) → (net ≡ i) ⊎ (net ≡ i → ⊥) → count_by (λ n. n == i) (path ++ net ∷ []) ≤ 1
    once i (inl e) = omega (arith, pushed i, one_if net i e, none_here i e (cases_lt 0 (count_by (λ n. n == i) path)))
    once i (inr other) = omega (arith, pushed i, none_if net i other, w.once i)

pub met_falls : (met : List Bool) (net : ℕ) → net < length met → get_or met net false ≡ false → count_by not (set met net true) < count_by not met
met_falls met net h unmet =
    let f : Bool → ℕ = λ b. cond (not b) 1 0 in
    let moved = sum_by-set f met net true false h in
    let was : f (get_or met net false) ≡ 1 = ap f unmet in
    omega (arith, moved, was)

pub walk_ends : (reads : List (List ℕ)) (driver : List ℕ) (left met : List Bool) (start : ℕ) (path nets : List ℕ) (net at : ℕ) → Walks reads driver left start met path net → at < length path → get_or path at 0 ≡ net → nets ≡ drop at path → IsWalkedFrom reads driver left start nets
walk_ends reads driver left met start path nets net at w h here is =
    let whole : take at path ++ nets ≡ path = ap (λ l. take at path ++ l) is ∙ take-append-drop at path in
    record {
      front = take at path;
      first = net;
      others = drop (at + 1) path;
      cycle = is ∙ (drop_more path at 0 h ∙ ap (λ n. n ∷ drop (at + 1) path) here);
      begins = subst (λ (l : List ℕ). slice_get l 0 ≡ Some start) (sym whole) (begins path w.along h);
      walks = subst (λ (l : List ℕ). FollowsAlong reads driver left l net) (sym whole) (follows path w.along h);
      once = subst (λ (l : List ℕ). (i : ℕ) → count_by (λ k. k == i) l ≤ 1) (sym whole) w.once;
    }
  where
    begins : (p : List ℕ) → AlongFrom reads driver left start p net → at < length p → slice_get p 0 ≡ Some start
    begins [] a h = absurd (omega arith)
    begins (n ∷ rest) a h = ap (λ (k : ℕ). Some k) a.0

    follows : (p : List ℕ) → AlongFrom reads driver left start p net → at < length p → FollowsAlong reads driver left p net
    follows [] a h = absurd (omega arith)
    follows (n ∷ rest) a h = a.1

-- a search that is sure to find
pub before_found : (P : ℕ → Type 0) (xs : List ℕ) (place k : ℕ) → Contains xs k → P k → ((j : ℕ) → j < place → P (get_or xs j 0) → ⊥) → place < length xs
before_found P xs place k c p none = at (cases_lt c.0 place)
  where
    at : (c.0 < place) ⊎ (place ≤ c.0) → place < length xs
    at (inl h) = absurd (none c.0 h (subst P (sym (get_or_default xs c.0 0 k c.1 ∙ c.2)) p))
    at (inr h) = omega (arith, c.1)

pub found_at : (left : List Bool) (nets : List ℕ) (place : ℕ) → place < length nets → get_or left (get_or nets place 0) false ≡ true → first_left left (drop place nets) ≡ Some (get_or nets place 0)
found_at left nets place h m =
    at_drop_more (first_left left) nets place 0 h ∙ ap (λ (b : Bool). cond b (Some (get_or nets place 0)) (first_left left (drop (place + 1) nets))) m

pub unmarked : (n k : ℕ) → IsMarked (replicate n false) k → ⊥
unmarked n k m = both_ways (get_or (replicate n false) k false) (get_or-replicate n k false false (omega (arith, marked_within (replicate n false) k m, length-replicate n false))) m
