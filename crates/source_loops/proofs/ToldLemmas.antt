-- The names of nets of which none stands twice.
use Rattle.std.proofs.Common.{◌≡◌, ◌==◌, refl, sym, ◌∙◌, ap, ap₂, subst, ℕ, ◌+◌, ◌<◌, ◌≤◌, Bool, true, false, cond, List, [], ◌∷◌, ◌++◌, length, map, take, drop, get_or, count_by, IsTrue, All, Contains, arith}
use Rattle.std.proofs.lemmas.List.{length-map, take-append-drop, drop_more, map_more}
use Rattle.std.proofs.lemmas.List.Elements.{All-contains, Contains-append_left, Contains-get_or}
use Rattle.netlist_spec.specs.Netlist.{Name, stands_in, are_distinct}
use Rattle.imp_text.specs.Names.{with_name}
use Rattle.net_order.proofs.OrderLemmas.{one_if, contained_counts}
use Rattle.source_laws.proofs.Lists.{contained, among_all, map_among, standing}
use Rattle.source_laws.proofs.Order.{distinct_fit}
use Rattle.source_loops.specs.Nets.{name_of}
use Rattle.source_loops.proofs.NumberLemmas.{counted, counted_append, distinct_names, name_stands, named_back}

module _ (all : List Name) (distinct : IsTrue (are_distinct all)) (nets : List ℕ) (within : All (λ k. k < length all) nets) (once : (i : ℕ) → count_by (λ k. k == i) nets ≤ 1) where
  inside : (k : ℕ) → Contains nets k → k < length all
  inside k c = All-contains (λ j. j < length all) nets k within c

  -- they are no more than there are names
  pub no_more : length nets ≤ length all
  no_more =
      omega (
        arith,
        length-map nets (name_of all),
        distinct_fit (map (name_of all) nets) all (distinct_names all distinct nets inside once)
            (among_all (λ n. IsTrue (stands_in n all)) (map (name_of all) nets) (λ n h. let r = map_among (name_of all) nets n h in subst (λ x. stands_in x all ≡ true) r.2 (name_stands all r.0 (inside r.0 (contained nets r.0 r.1))))),
      )

  -- the next name isn't one of the first
  new_name : (i : ℕ) (d : ℕ) → i < length nets → stands_in (name_of all (get_or nets i d)) (map (name_of all) (take i nets)) ≡ false
  new_name i d h = at (stands_in x (map (name_of all) (take i nets))) refl
    where
      net : ℕ
      net = get_or nets i d

      x : Name
      x = name_of all net

      split : take i nets ++ net ∷ drop (i + 1) nets ≡ nets
      split = ap (λ l. take i nets ++ l) (sym (drop_more nets i d h)) ∙ take-append-drop i nets

      twice : Contains (take i nets) net → ⊥
      twice c =
          omega (
            arith,
            once net,
            ap (count_by (λ k. k == net)) split,
            counted_append (take i nets) (net ∷ drop (i + 1) nets) net,
            counted net (drop (i + 1) nets) net,
            one_if net net refl,
            contained_counts (take i nets) net c,
          )

      first : (k : ℕ) → Contains (take i nets) k → Contains nets k
      first k c = subst (λ l. Contains l k) split (Contains-append_left (take i nets) (net ∷ drop (i + 1) nets) k c)

      at : (b : Bool) → stands_in x (map (name_of all) (take i nets)) ≡ b → stands_in x (map (name_of all) (take i nets)) ≡ false
      at true e = absurd (twice (named_back all distinct (take i nets) net (λ k c. inside k (first k c)) (inside net (Contains-get_or nets i d h)) (standing x (map (name_of all) (take i nets)) e)))
      at false e = e

  pub name_more : (i : ℕ) (d : ℕ) (name : Name) (names after : List Name) → i < length nets → name ≡ name_of all (get_or nets i d) → names ≡ map (name_of all) (take i nets) → after ≡ with_name names name → after ≡ map (name_of all) (take (i + 1) nets)
  name_more i d name names after h is so_far e =
      e ∙ (ap₂ with_name so_far is ∙ (ap (λ b. cond b ns (ns ++ x ∷ [])) (new_name i d h) ∙ sym (map_more (name_of all) nets i d h)))
    where
      ns : List Name
      ns = map (name_of all) (take i nets)

      x : Name
      x = name_of all (get_or nets i d)
