-- Numbers of names, and places in lists.
use Rattle.std.proofs.Common.{◌≡◌, ◌==◌, ◌⊎◌, inl, inr, refl, sym, ◌∙◌, ap, subst, ℕ, zero, suc, ◌+◌, ◌<◌, ◌≤◌, Bool, true, false, not, ◌&&◌, cond, List, [], ◌∷◌, ◌++◌, length, map, get_or, count_by, Some, slice_get, IsTrue, Contains, arith}
use Rattle.std.proofs.lemmas.Bool.{cases_eq, cases_lt, both_ways}
use Rattle.std.proofs.lemmas.List.{get_or_past}
use Rattle.std.proofs.lemmas.List.Elements.{All-contains, Contains-append_right, Contains-get_or}
use Rattle.std.proofs.lemmas.List.Sums.{sum_by-cons, sum_by-append}
use Rattle.netlist_spec.specs.Netlist.{Name, same_name, stands_in, are_distinct}
use Rattle.line_order.proofs.MarkLemmas.{apart}
use Rattle.net_graph.specs.Chains.{IsMarked, ends_of}
use Rattle.net_order.specs.Order.{AreNets}
use Rattle.net_order.proofs.OrderLemmas.{bit_of, one_if, contained_counts}
use Rattle.source_laws.proofs.Lists.{Among, among, contained, among_map, map_among, same_self, stands, standing}
use Rattle.source_loops.specs.Nets.{name_of}

-- ---- places

pub at_place : {A : Type 0} (xs : List A) (x : A) → Among x xs → (i : ℕ) × (slice_get xs i ≡ Some x)
at_place [] x h = absurd h
at_place (y ∷ xs) x (inl e) = (0, ap (λ z. Some z) e)
at_place (y ∷ xs) x (inr h) = let r = at_place xs x h in (suc r.0, r.1)

pub place_among : {A : Type 0} (xs : List A) (i : ℕ) (x : A) → slice_get xs i ≡ Some x → Among x xs
place_among [] i x e = cc e
place_among (y ∷ xs) zero x e = let same : y ≡ x = cc e in inl same
place_among (y ∷ xs) (suc i) x e = inr (place_among xs i x e)

pub same_there : {A : Type 0} (xs : List A) (i : ℕ) (x y : A) → slice_get xs i ≡ Some x → slice_get xs i ≡ Some y → x ≡ y
same_there xs i x y e f = let both : Some x ≡ Some y = sym e ∙ f in cc both

pub marked_place : {A : Type 0} (f : A → Bool) (xs : List A) (i : ℕ) → IsMarked (map f xs) i → (x : A) × (slice_get xs i ≡ Some x) × (f x ≡ true)
marked_place f [] i m = cc m
marked_place f (x ∷ xs) zero m = (x, refl, m)
marked_place f (x ∷ xs) (suc i) m = marked_place f xs i m

pub flag_at : {A : Type 0} (f : A → Bool) (xs : List A) (i : ℕ) (x : A) → slice_get xs i ≡ Some x → get_or (map f xs) i false ≡ f x
flag_at f [] i x e = cc e
flag_at f (y ∷ xs) zero x e = let same : y ≡ x = cc e in ap f same
flag_at f (y ∷ xs) (suc i) x e = flag_at f xs i x e

pub marked_at : {A : Type 0} (f : A → Bool) (xs : List A) (i : ℕ) (x : A) → slice_get xs i ≡ Some x → f x ≡ true → IsMarked (map f xs) i
marked_at f xs i x e t = flag_at f xs i x e ∙ t

-- the row at a place of rows that are made of other things
pub row_of : {A B C : Type 0} (g : List B → List C) (f : A → List C) (rows : List (List B)) (xs : List A) (i : ℕ) (x : A) → map g rows ≡ map f xs → slice_get xs i ≡ Some x → g (get_or rows i []) ≡ f x
row_of g f [] [] i x e at = cc at
row_of g f [] (y ∷ xs) i x e at = cc e
row_of g f (r ∷ rows) [] i x e at = cc e
row_of {A = A} g f (r ∷ rows) (y ∷ xs) zero x e at =
    let same : y ≡ x = cc at in
    let heads : g r ≡ f y = ap (λ l. get_or l 0 (f y)) e in
    heads ∙ ap f same
row_of {C = C} g f (r ∷ rows) (y ∷ xs) (suc i) x e at = row_of g f rows xs i x (ap tail e) at
  where
    tail : List (List C) → List (List C)
    tail [] = []
    tail (z ∷ zs) = zs

-- ---- nets

pub nets_within : (n : ℕ) (rows : List (List ℕ)) (i k : ℕ) → AreNets n rows → Contains (ends_of rows i) k → k < n
nets_within n rows i k all c = at (cases_lt i (length rows))
  where
    at : (i < length rows) ⊎ (length rows ≤ i) → k < n
    at (inl h) = All-contains (λ j. j < n) (ends_of rows i) k (all i [] h) c
    at (inr h) = let none : Contains [] k = subst (λ l. Contains l k) (get_or_past rows i [] h) c in absurd (omega (arith, none.1))

-- ---- counts

pub counted : (n : ℕ) (ns : List ℕ) (i : ℕ) → count_by (λ k. k == i) (n ∷ ns) ≡ bit_of (n == i) + count_by (λ k. k == i) ns
counted n ns i = let f : ℕ → ℕ = λ k. cond (k == i) 1 0 in sum_by-cons f n ns

pub counted_append : (xs ys : List ℕ) (i : ℕ) → count_by (λ k. k == i) (xs ++ ys) ≡ count_by (λ k. k == i) xs + count_by (λ k. k == i) ys
counted_append xs ys i = let f : ℕ → ℕ = λ k. cond (k == i) 1 0 in sum_by-append f xs ys

pub later : (n : ℕ) (ns : List ℕ) (k : ℕ) → Contains ns k → Contains (n ∷ ns) k
later n ns k c = Contains-append_right (n ∷ []) ns k c

-- ---- numbers of distinct names

module _ (all : List Name) (distinct : IsTrue (are_distinct all)) where
  pub same_number : (j k : ℕ) → j < length all → k < length all → name_of all j ≡ name_of all k → j ≡ k
  same_number j k inside within e = at (cases_eq j k)
    where
      at : (j ≡ k) ⊎ (j ≡ k → ⊥) → j ≡ k
      at (inl same) = same
      at (inr other) =
          absurd (both_ways _ (apart all j k distinct inside within other) (subst (λ n. same_name (name_of all j) n ≡ true) e (same_self (name_of all j))))

  -- a number stands in a list where its name stands among the names
  pub named_back : (ns : List ℕ) (k : ℕ) → ((j : ℕ) → Contains ns j → j < length all) → k < length all → Among (name_of all k) (map (name_of all) ns) → Contains ns k
  named_back ns k inside within h =
      let r = map_among (name_of all) ns (name_of all k) h in
      let c = contained ns r.0 r.1 in
      subst (Contains ns) (same_number r.0 k (inside r.0 c) within r.2) c

  pub distinct_names : (ns : List ℕ) → ((j : ℕ) → Contains ns j → j < length all) → ((i : ℕ) → count_by (λ k. k == i) ns ≤ 1) → are_distinct (map (name_of all) ns) ≡ true
  distinct_names [] inside once = refl
  distinct_names (n ∷ ns) inside once = at (stands_in (name_of all n) (map (name_of all) ns)) refl (distinct_names ns (λ j c. inside j (later n ns j c)) (λ i. omega (arith, counted n ns i, once i)))
    where
      twice : Contains ns n → ⊥
      twice c = omega (arith, counted n ns n, once n, one_if n n refl, contained_counts ns n c)

      at : (b : Bool) → stands_in (name_of all n) (map (name_of all) ns) ≡ b → are_distinct (map (name_of all) ns) ≡ true → (not b && are_distinct (map (name_of all) ns)) ≡ true
      at true e rest = absurd (twice (named_back ns n (λ j c. inside j (later n ns j c)) (inside n (0, omega arith, refl)) (standing (name_of all n) (map (name_of all) ns) e)))
      at false e rest = rest

pub named : (all : List Name) (ns : List ℕ) (k : ℕ) → Contains ns k → Among (name_of all k) (map (name_of all) ns)
named all ns k c = among_map (name_of all) ns k (among ns k c)

pub name_stands : (all : List Name) (k : ℕ) → k < length all → stands_in (name_of all k) all ≡ true
name_stands all k h = stands (name_of all k) all (among all (name_of all k) (Contains-get_or all k [] h))
