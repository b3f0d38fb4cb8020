-- Steps of a walk, and what the nodes cost that it has met.
use Rattle.std.proofs.Common.{◌≡◌, ◌≢◌, ◌⊎◌, inl, inr, refl, sym, ◌∙◌, ap, ap₂, subst, ℕ, zero, suc, ◌+◌, ◌-◌, ◌^◌, ◌<◌, ◌≤◌, Bool, true, false, List, [], ◌∷◌, ◌++◌, length, map, get_or, set, arith, All, Contains, not, count_by, Some, None, lit<}
use Rattle.std.specs.Prelude.{◌==◌}
use Rattle.std.proofs.lemmas.Bool.{both_ways}
use Rattle.std.proofs.lemmas.Bool.Decides.{nat_tests}
use Rattle.std.proofs.lemmas.List.{map-set, get_or-map, length-map, length_push}
use Rattle.std.proofs.lemmas.List.Elements.{All-set, Contains-push, Contains-push_cases}
use Rattle.net_graph.specs.Chains.{IsMarked, IsReached, AreMarked, LeadsTo, ends_of}
use Rattle.net_graph.specs.Search.{Visits}
use Rattle.net_graph.proofs.MarkLemmas.{marked_within, none_among}
use Rattle.net_graph.proofs.VisitLemmas.{Searches, visit_new, visit_more, search_begins, search_more, search_ends}
use Rattle.net_graph.proofs.ChainLemmas.{from_one}
use Rattle.plain_size.specs.declared.walk.Walk.{Walk}
use Rattle.plain_size.specs.Walks.{cost_sum, IsReachCost, met, told, Walks, stamps_of}

-- ---- stamps

same_stamp : (n : ℕ) → (n == n) ≡ true
same_stamp n = grind (arith, nat_tests)

other_stamp : (a b : ℕ) → a ≢ b → (a == b) ≡ false
other_stamp a b h = grind (arith, nat_tests)

-- the marks at a stamp
abbrev pub at_stamp : ℕ → List ℕ → List Bool
at_stamp stamp stamps = map (λ s. s == stamp) stamps

pub stamp_set : (stamps : List ℕ) (stamp k : ℕ) → at_stamp stamp (set stamps k stamp) ≡ set (at_stamp stamp stamps) k true
stamp_set stamps stamp k = map-set (λ (s : ℕ). s == stamp) stamps k stamp ∙ ap (λ (b : Bool). set (at_stamp stamp stamps) k b) (same_stamp stamp)

pub stamp_at : (stamps : List ℕ) (stamp k : ℕ) → k < length stamps → get_or (at_stamp stamp stamps) k false ≡ (get_or stamps k 0 == stamp)
stamp_at stamps stamp k h = get_or-map (λ (s : ℕ). s == stamp) stamps k 0 false h

-- where all stamps are older, nothing has been met
pub none_met : (stamps : List ℕ) (stamp : ℕ) → All (λ s. s < stamp) stamps → (k : ℕ) → IsMarked (at_stamp stamp stamps) k → ⊥
none_met stamps stamp old k m =
    let h : k < length stamps = (let w = marked_within (at_stamp stamp stamps) k m in let l = length-map stamps (λ (s : ℕ). s == stamp) in omega arith) in
    let less = old k 0 h in
    let differ : get_or stamps k 0 ≢ stamp = λ e. absurd (omega arith) in
    both_ways (get_or (at_stamp stamp stamps) k false) (stamp_at stamps stamp k h ∙ other_stamp (get_or stamps k 0) stamp differ) m

-- ---- sums

pub sum_set : (costs : List ℕ) (marks : List Bool) (k : ℕ) → length marks ≡ length costs → k < length costs → get_or marks k false ≡ false → cost_sum costs (set marks k true) ≡ cost_sum costs marks + get_or costs k 0
sum_set [] marks k e h none = absurd (omega arith)
sum_set (c ∷ costs) [] k e h none = absurd (omega arith)
sum_set (c ∷ costs) (true ∷ marks) zero e h none = cc none
sum_set (c ∷ costs) (false ∷ marks) zero e h none = omega arith
sum_set (c ∷ costs) (true ∷ marks) (suc k) e h none = let r = sum_set costs marks k (omega arith) (omega arith) none in omega arith
sum_set (c ∷ costs) (false ∷ marks) (suc k) e h none = let r = sum_set costs marks k (omega arith) (omega arith) none in omega arith

sum_none : (costs : List ℕ) (marks : List Bool) → ((k : ℕ) → IsMarked marks k → ⊥) → cost_sum costs marks ≡ 0
sum_none [] marks h = refl
sum_none (c ∷ costs) [] h = refl
sum_none (c ∷ costs) (true ∷ marks) h = absurd (h 0 refl)
sum_none (c ∷ costs) (false ∷ marks) h = let r = sum_none costs marks (λ k. h (suc k)) in omega arith

told_more : (sum cost n c : ℕ) → sum ≡ told n → cost ≡ told (sum + c) → cost ≡ told (n + c)
told_more sum cost n c e f = omega arith

-- ---- steps

pub walks_more : (costs xs : List ℕ) (y : ℕ) (a b c : Walk) → Walks costs xs a b → Walks costs (y ∷ []) b c → Walks costs (xs ++ y ∷ []) a c
walks_more costs xs y a b c first second = record {
  stamp = second.stamp ∙ first.stamp;
  within = λ h. subst (λ (n : ℕ). All (λ s. s ≤ n) (stamps_of c)) first.stamp (second.within (subst (λ (n : ℕ). All (λ s. s ≤ n) (stamps_of b)) (sym first.stamp) (first.within h)));
  visits = visit_more xs y (met a) (met b) (met c) a.waiting.items b.waiting.items c.waiting.items first.visits second.visits;
  sum = λ h. second.sum (first.sum h);
}

-- a node that is met for the first time
pub meet_new : (costs : List ℕ) (node : ℕ) (old new : Walk) → node < length costs → length (stamps_of old) ≡ length costs → get_or (stamps_of old) node 0 ≢ old.stamp
    → stamps_of new ≡ set (stamps_of old) node old.stamp → new.stamp ≡ old.stamp → new.waiting.items ≡ old.waiting.items ++ node ∷ [] → new.sum ≡ told (old.sum + get_or costs node 0)
    → Walks costs (node ∷ []) old new
meet_new costs node old new inside size differ stamps stamp waits sum =
    let marks : met new ≡ set (met old) node true = ap₂ at_stamp stamp stamps ∙ stamp_set (stamps_of old) old.stamp node in
    let long : length (met old) ≡ length costs = length-map (stamps_of old) (λ (s : ℕ). s == old.stamp) ∙ size in
    let none : get_or (met old) node false ≡ false = stamp_at (stamps_of old) old.stamp node (omega arith) ∙ other_stamp (get_or (stamps_of old) node 0) old.stamp differ in
    record {
      stamp = stamp;
      within = λ h. subst (λ (l : List ℕ). All (λ s. s ≤ old.stamp) l) (sym stamps) (All-set (λ s. s ≤ old.stamp) (stamps_of old) node old.stamp (omega arith) h);
      visits = subst (λ (l : List Bool). Visits (node ∷ []) (met old) old.waiting.items l new.waiting.items) (sym marks) (visit_new (met old) old.waiting.items new.waiting.items node (omega arith) none waits);
      sum = λ h. told_more old.sum new.sum (cost_sum costs (met old)) (get_or costs node 0) h sum ∙ ap told (sym (ap (cost_sum costs) marks ∙ sum_set costs (met old) node long inside none));
    }

-- ---- a whole walk

-- Chains lead from the start to all that has been met, and what doesn't wait has met its ends.
pub record IsUnderway (graph : List (List ℕ)) (costs : List ℕ) (start total : ℕ) (walk : Walk) : Type 0 where
  pub stamp : walk.stamp ≡ total
  pub size : length (stamps_of walk) ≡ length graph
  pub within : All (λ s. s ≤ total) (stamps_of walk)
  pub sum : walk.sum ≡ told (cost_sum costs (met walk))
  pub first : List Bool
  pub is_first : AreMarked (length graph) first (λ k. k ≡ start)
  pub searches : Searches graph first (met walk) walk.waiting.items

-- the start is met
pub walk_begins : (graph : List (List ℕ)) (costs : List ℕ) (start total : ℕ) (old new : Walk) → length costs ≡ length graph → length (stamps_of old) ≡ length graph → start < length graph
    → All (λ s. s < total) (stamps_of old) → old.stamp ≡ total → old.sum ≡ 0 → old.waiting.items ≡ [] → length (stamps_of new) ≡ length (stamps_of old) → Walks costs (start ∷ []) old new
    → IsUnderway graph costs start total new
walk_begins graph costs start total old new same size inside fresh stamp sum waits long w = record {
  stamp = w.stamp ∙ stamp;
  size = long ∙ size;
  within = subst (λ (n : ℕ). All (λ s. s ≤ n) (stamps_of new)) stamp (w.within (subst (λ (n : ℕ). All (λ s. s ≤ n) (stamps_of old)) (sym stamp) (λ k d h. let less = fresh k d h in omega arith)));
  sum = w.sum (sum ∙ sym (ap told (sum_none costs (met old) none)));
  first = met new;
  is_first = record { each_node = length-map (stamps_of new) (λ (s : ℕ). s == new.stamp) ∙ (long ∙ size); exact = λ k. (λ m. only k (w.visits.added k m), λ e. here k e) };
  searches = search_begins graph (met new) new.waiting.items (length-map (stamps_of new) (λ (s : ℕ). s == new.stamp) ∙ (long ∙ size)) (λ k. (λ c. opened k (w.visits.opened k c), λ m. waiting k (w.visits.added k m)));
}
  where
    none : (k : ℕ) → IsMarked (met old) k → ⊥
    none = none_met (stamps_of old) old.stamp (subst (λ (n : ℕ). All (λ s. s < n) (stamps_of old)) (sym stamp) fresh)

    alone : (k : ℕ) → Contains [] k ⊎ (start ≡ k) → k ≡ start
    alone k (inl c) = absurd (none_among k c)
    alone k (inr e) = sym e

    only : (k : ℕ) → IsMarked (met old) k ⊎ (Contains (start ∷ []) k × Contains new.waiting.items k) → k ≡ start
    only k (inl m) = absurd (none k m)
    only k (inr c) = alone k (Contains-push_cases [] start k c.0)

    here : (k : ℕ) → k ≡ start → IsMarked (met new) k
    here k e = w.visits.all k (subst (λ (j : ℕ). Contains (start ∷ []) j) (sym e) (Contains-push [] start))

    opened : (k : ℕ) → Contains old.waiting.items k ⊎ Contains (start ∷ []) k → IsMarked (met new) k
    opened k (inl c) = absurd (none_among k (subst (λ (l : List ℕ). Contains l k) waits c))
    opened k (inr c) = w.visits.all k c

    waiting : (k : ℕ) → IsMarked (met old) k ⊎ (Contains (start ∷ []) k × Contains new.waiting.items k) → Contains new.waiting.items k
    waiting k (inl m) = absurd (none k m)
    waiting k (inr c) = c.1

-- one more node meets its ends
pub walk_goes_on : (graph : List (List ℕ)) (costs row : List ℕ) (start total node : ℕ) (old popped new : Walk)
    → old.waiting.items ≡ popped.waiting.items ++ node ∷ [] → stamps_of popped ≡ stamps_of old → popped.stamp ≡ old.stamp → popped.sum ≡ old.sum → row ≡ ends_of graph node
    → length (stamps_of new) ≡ length (stamps_of popped) → Walks costs row popped new → IsUnderway graph costs start total old → IsUnderway graph costs start total new
walk_goes_on graph costs row start total node old popped new waits stamps stamp sum row_is long w u =
    let same : met popped ≡ met old = ap₂ at_stamp stamp stamps in
    let at : popped.stamp ≡ total = stamp ∙ u.stamp in
    record {
      stamp = w.stamp ∙ at;
      size = long ∙ (ap length stamps ∙ u.size);
      within = subst (λ (n : ℕ). All (λ s. s ≤ n) (stamps_of new)) at
          (w.within (subst (λ (n : ℕ). All (λ s. s ≤ n) (stamps_of popped)) (sym at) (subst (λ (l : List ℕ). All (λ s. s ≤ total) l) (sym stamps) u.within)));
      sum = w.sum (sum ∙ (u.sum ∙ ap (λ (l : List Bool). told (cost_sum costs l)) (sym same)));
      first = u.first;
      is_first = u.is_first;
      searches = search_more graph u.first (met old) (met new) old.waiting.items popped.waiting.items new.waiting.items node waits u.searches
          (subst (λ (l : List ℕ). Visits l (met old) popped.waiting.items (met new) new.waiting.items) row_is
          (subst (λ (l : List Bool). Visits row l popped.waiting.items (met new) new.waiting.items) same w.visits));
    }

pub node_waits : (graph : List (List ℕ)) (costs : List ℕ) (start total node : ℕ) (walk : Walk) (rest : List ℕ) → walk.waiting.items ≡ rest ++ node ∷ [] → IsUnderway graph costs start total walk → node < length graph
node_waits graph costs start total node walk rest is u =
    omega (arith, u.searches.size, marked_within (met walk) node (u.searches.inside node (subst (λ (l : List ℕ). Contains l node) (sym is) (Contains-push rest node))))

pub walk_falls : (costs row : List ℕ) (node : ℕ) (old popped new : Walk) → old.waiting.items ≡ popped.waiting.items ++ node ∷ [] → stamps_of popped ≡ stamps_of old → popped.stamp ≡ old.stamp → Walks costs row popped new
    → count_by not (met new) + length new.waiting.items < count_by not (met old) + length old.waiting.items
walk_falls costs row node old popped new is stamps stamp w =
    let a : count_by not (met popped) ≡ count_by not (met old) = ap (count_by not) (ap₂ at_stamp stamp stamps) in
    let d : length old.waiting.items ≡ length popped.waiting.items + 1 = ap length is ∙ length_push popped.waiting.items node in
    let e = w.visits.pending in
    omega arith

-- nothing waits any more
pub walk_ends : (graph : List (List ℕ)) (costs : List ℕ) (start total : ℕ) (walk : Walk) → walk.waiting.items ≡ [] → total ≤ 1000000 → walk.sum ≤ 1000000 - total → IsUnderway graph costs start total walk
    → IsReachCost graph costs start total (Some walk.sum)
walk_ends graph costs start total walk none small within u =
    (met walk, from_one graph u.first (met walk) start u.is_first (search_ends graph u.first (met walk) walk.waiting.items none u.searches), (let e = u.sum in let b : 1000000 < 2 ^ 32 - 1 = lit< tt in omega arith), omega arith)

-- it is more than the limit already
pub walk_stops : (graph : List (List ℕ)) (costs : List ℕ) (start total : ℕ) (walk : Walk) → total ≤ 1000000 → 1000000 - total < walk.sum → IsUnderway graph costs start total walk
    → IsReachCost graph costs start total None
walk_stops graph costs start total walk small large u =
    (met walk, λ k m. led k (u.searches.sound k m), (let e = u.sum in omega arith))
  where
    led : (k : ℕ) → IsReached graph u.first k → LeadsTo graph start k
    led k (s, is, chain) = subst (λ (j : ℕ). LeadsTo graph j k) ((u.is_first.exact s).0 is) chain
