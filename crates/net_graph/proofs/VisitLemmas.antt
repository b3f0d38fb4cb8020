-- Steps of a search.
use Rattle.std.proofs.Common.{◌≡◌, ◌⊎◌, inl, inr, refl, sym, ◌∙◌, ap, subst, ℕ, zero, suc, ◌+◌, ◌<◌, Bool, true, false, not, cond, List, [], ◌∷◌, ◌++◌, length, get_or, set, count_by, arith, Contains}
use Rattle.std.proofs.lemmas.List.{length-set, length_push}
use Rattle.std.proofs.lemmas.List.Sums.{sum_by-set}
use Rattle.std.proofs.lemmas.List.Elements.{Contains-append_left, Contains-append_right, Contains-append_cases, Contains-push, Contains-push_cases}
use Rattle.net_graph.specs.Chains.{IsMarked, IsReached, Chain, ends_of, AreMarked}
use Rattle.net_graph.specs.Search.{Visits}
use Rattle.net_graph.proofs.MarkLemmas.{marked_kept, marked_here, marked_cases, none_among}

pub visit_none : (marks : List Bool) (waiting : List ℕ) → Visits [] marks waiting marks waiting
visit_none marks waiting =
    record { size = refl; kept = λ k m. m; stays = λ k c. c; all = λ k c. absurd (none_among k c); added = λ k m. inl m; opened = λ k c. inl c; pending = refl }

pub visit_new : (marks : List Bool) (waiting after : List ℕ) (e : ℕ) → e < length marks → get_or marks e false ≡ false → after ≡ waiting ++ e ∷ [] → Visits (e ∷ []) marks waiting (set marks e true) after
visit_new marks waiting after e h none is =
    record {
      size = length-set marks e true;
      kept = marked_kept marks e;
      stays = λ k c. subst (λ l. Contains l k) (sym is) (Contains-append_left waiting (e ∷ []) k c);
      all = λ k c. subst (λ j. get_or (set marks e true) j false ≡ true) (only k c) (marked_here marks e h);
      added = λ k m. add k (marked_cases marks e k m);
      opened = λ k c. open_at k (Contains-push_cases waiting e k (subst (λ l. Contains l k) is c));
      pending = omega (arith, counted, ap length is, length_push waiting e);
    }
  where
    only : (k : ℕ) → Contains (e ∷ []) k → e ≡ k
    only k c = at (Contains-push_cases [] e k c)
      where
        at : Contains [] k ⊎ (e ≡ k) → e ≡ k
        at (inl n) = absurd (none_among k n)
        at (inr s) = s

    here : (k : ℕ) → e ≡ k → Contains (e ∷ []) k
    here k s = subst (λ j. Contains (e ∷ []) j) s (Contains-push [] e)

    add : (k : ℕ) → IsMarked marks k ⊎ (e ≡ k) → IsMarked marks k ⊎ (Contains (e ∷ []) k × Contains after k)
    add k (inl m) = inl m
    add k (inr s) = inr (here k s, subst (λ j. Contains after j) s (subst (λ l. Contains l e) (sym is) (Contains-push waiting e)))

    open_at : (k : ℕ) → Contains waiting k ⊎ (e ≡ k) → Contains waiting k ⊎ Contains (e ∷ []) k
    open_at k (inl c) = inl c
    open_at k (inr s) = inr (here k s)

    counted : count_by not (set marks e true) + 1 ≡ count_by not marks
    counted =
        let f : Bool → ℕ = λ b. cond (not b) 1 0 in
        let moved = sum_by-set f marks e true false h in
        let was : f (get_or marks e false) ≡ 1 = ap f none in
        omega (arith, moved, was)

pub visit_more : (xs : List ℕ) (y : ℕ) (m0 m1 m2 : List Bool) (w0 w1 w2 : List ℕ) → Visits xs m0 w0 m1 w1 → Visits (y ∷ []) m1 w1 m2 w2 → Visits (xs ++ y ∷ []) m0 w0 m2 w2
visit_more xs y m0 m1 m2 w0 w1 w2 a b =
    record {
      size = b.size ∙ a.size;
      kept = λ k m. b.kept k (a.kept k m);
      stays = λ k c. b.stays k (a.stays k c);
      all = λ k c. each k (Contains-append_cases xs (y ∷ []) k c);
      added = λ k m. add k (b.added k m);
      opened = λ k c. opens k (b.opened k c);
      pending = b.pending ∙ a.pending;
    }
  where
    each : (k : ℕ) → Contains xs k ⊎ Contains (y ∷ []) k → IsMarked m2 k
    each k (inl c) = b.kept k (a.all k c)
    each k (inr c) = b.all k c

    earlier : (k : ℕ) → IsMarked m0 k ⊎ (Contains xs k × Contains w1 k) → IsMarked m0 k ⊎ (Contains (xs ++ y ∷ []) k × Contains w2 k)
    earlier k (inl m) = inl m
    earlier k (inr c) = inr (Contains-append_left xs (y ∷ []) k c.0, b.stays k c.1)

    add : (k : ℕ) → IsMarked m1 k ⊎ (Contains (y ∷ []) k × Contains w2 k) → IsMarked m0 k ⊎ (Contains (xs ++ y ∷ []) k × Contains w2 k)
    add k (inl m) = earlier k (a.added k m)
    add k (inr c) = inr (Contains-append_right xs (y ∷ []) k c.0, c.1)

    earlier_open : (k : ℕ) → Contains w0 k ⊎ Contains xs k → Contains w0 k ⊎ Contains (xs ++ y ∷ []) k
    earlier_open k (inl c) = inl c
    earlier_open k (inr c) = inr (Contains-append_left xs (y ∷ []) k c)

    opens : (k : ℕ) → Contains w1 k ⊎ Contains (y ∷ []) k → Contains w0 k ⊎ Contains (xs ++ y ∷ []) k
    opens k (inl c) = earlier_open k (a.opened k c)
    opens k (inr c) = inr (Contains-append_right xs (y ∷ []) k c)

-- what a search has marked, and what waits
pub record Searches (graph : List (List ℕ)) (first marks : List Bool) (waiting : List ℕ) : Type 0 where
  pub size : length marks ≡ length graph
  pub kept : (k : ℕ) → IsMarked first k → IsMarked marks k
  pub sound : (k : ℕ) → IsMarked marks k → IsReached graph first k
  pub inside : (k : ℕ) → Contains waiting k → IsMarked marks k
  pub closed : (k : ℕ) → IsMarked marks k → Contains waiting k ⊎ ((b : ℕ) → Contains (ends_of graph k) b → IsMarked marks b)

pub search_begins : (graph : List (List ℕ)) (marks : List Bool) (waiting : List ℕ) → length marks ≡ length graph → ((k : ℕ) → (Contains waiting k → IsMarked marks k) × (IsMarked marks k → Contains waiting k)) → Searches graph marks marks waiting
search_begins graph marks waiting size nodes =
    record { size = size; kept = λ k m. m; sound = λ k m. (k, m, (0, refl)); inside = λ k c. (nodes k).0 c; closed = λ k m. inl ((nodes k).1 m) }

pub search_more : (graph : List (List ℕ)) (first marks marks' : List Bool) (waiting rest waiting' : List ℕ) (node : ℕ) → waiting ≡ rest ++ node ∷ []
    → Searches graph first marks waiting → Visits (ends_of graph node) marks rest marks' waiting' → Searches graph first marks' waiting'
search_more graph first marks marks' waiting rest waiting' node is s v =
    record {
      size = v.size ∙ s.size;
      kept = λ k m. v.kept k (s.kept k m);
      sound = λ k m. reached k (v.added k m);
      inside = λ k c. within k (v.opened k c);
      closed = λ k m. done k (v.added k m);
    }
  where
    node_waits : Contains waiting node
    node_waits = subst (λ l. Contains l node) (sym is) (Contains-push rest node)

    reached : (k : ℕ) → IsMarked marks k ⊎ (Contains (ends_of graph node) k × Contains waiting' k) → IsReached graph first k
    reached k (inl m) = s.sound k m
    reached k (inr c) = let w = s.sound node (s.inside node node_waits) in (w.0, w.1, (suc w.2.0, (node, w.2.1, c.0)))

    within : (k : ℕ) → Contains rest k ⊎ Contains (ends_of graph node) k → IsMarked marks' k
    within k (inl c) = v.kept k (s.inside k (subst (λ l. Contains l k) (sym is) (Contains-append_left rest (node ∷ []) k c)))
    within k (inr c) = v.all k c

    waits_or_node : (k : ℕ) → Contains rest k ⊎ (node ≡ k) → Contains waiting' k ⊎ ((b : ℕ) → Contains (ends_of graph k) b → IsMarked marks' b)
    waits_or_node k (inl c) = inl (v.stays k c)
    waits_or_node k (inr same) = inr (λ b c. v.all b (subst (λ j. Contains (ends_of graph j) b) (sym same) c))

    old : (k : ℕ) → Contains waiting k ⊎ ((b : ℕ) → Contains (ends_of graph k) b → IsMarked marks b) → Contains waiting' k ⊎ ((b : ℕ) → Contains (ends_of graph k) b → IsMarked marks' b)
    old k (inl c) = waits_or_node k (Contains-push_cases rest node k (subst (λ l. Contains l k) is c))
    old k (inr all) = inr (λ b c. v.kept b (all b c))

    done : (k : ℕ) → IsMarked marks k ⊎ (Contains (ends_of graph node) k × Contains waiting' k) → Contains waiting' k ⊎ ((b : ℕ) → Contains (ends_of graph k) b → IsMarked marks' b)
    done k (inl m) = old k (s.closed k m)
    done k (inr c) = inl c.1

pub search_ends : (graph : List (List ℕ)) (first marks : List Bool) (waiting : List ℕ) → waiting ≡ [] → Searches graph first marks waiting → AreMarked (length graph) marks (IsReached graph first)
search_ends graph first marks waiting none s = record { each_node = s.size; exact = λ k. (s.sound k, λ w. along w.2.0 w.0 k (s.kept w.0 w.1) w.2.1) }
  where
    all : (k : ℕ) → Contains waiting k ⊎ ((b : ℕ) → Contains (ends_of graph k) b → IsMarked marks b) → (b : ℕ) → Contains (ends_of graph k) b → IsMarked marks b
    all k (inl c) = absurd (none_among k (subst (λ l. Contains l k) none c))
    all k (inr a) = a

    along : (n a b : ℕ) → IsMarked marks a → Chain graph n a b → IsMarked marks b
    along zero a b m e = subst (λ j. get_or marks j false ≡ true) e m
    along (suc n) a b m chain = all chain.0 (s.closed chain.0 (along n a chain.0 m chain.1)) b chain.2
