-- Roots, and the searches that find them.
use Rattle.std.proofs.Common.{◌≡◌, ◌↔◌, ◌⊎◌, inl, inr, refl, sym, ◌∙◌, ap, subst, ℕ, zero, suc, ◌+◌, ◌<◌, ◌≤◌, Bool, true, false, List, [], ◌∷◌, ◌++◌, length, get_or, set, arith, Contains}
use Rattle.std.proofs.lemmas.Bool.{both_ways, cases_Bool, cases_eq, cases_lt}
use Rattle.std.proofs.lemmas.List.{get_or-set_other, get_or-set_same, get_or_default, length-set}
use Rattle.std.proofs.lemmas.List.Elements.{Contains-append_left, Contains-append_right, Contains-append_cases, Contains-push, Contains-push_cases}
use Rattle.net_graph.specs.Chains.{Chain, IsGraph, IsMarked, LeadsTo, ends_of}
use Rattle.net_graph.proofs.MarkLemmas.{marked_cases, marked_here, marked_kept, none_among}
use Rattle.net_cycles.specs.Roots.{AreRoots, Gathers, IsRootAt}
use Rattle.net_cycles.proofs.FinishLemmas.{end_within}
use Rattle.net_cycles.proofs.StackLemmas.{leads_along}

pub leads_within : (graph : List (List ℕ)) → IsGraph graph → (a b : ℕ) → a < length graph → LeadsTo graph a b → b < length graph
leads_within graph is a b h (n, chain) = along n b chain
  where
    along : (n b : ℕ) → Chain graph n a b → b < length graph
    along zero b same = omega (arith, h)
    along (suc n) b (c, chain, last) = end_within graph is c b (along n c chain) last

-- ---- one search

-- What the search has marked since it began, and what waits.
pub record Gathering (back : List (List ℕ)) (root : ℕ) (first : List Bool) (begun : List ℕ) (marks : List Bool) (roots : List ℕ) (waiting : List ℕ) : Type 0 where
  pub size_marks : length marks ≡ length back
  pub size_roots : length roots ≡ length back
  pub kept : (k : ℕ) → IsMarked first k → IsMarked marks k
  pub sound : (k : ℕ) → IsMarked marks k → IsMarked first k ⊎ LeadsTo back root k
  pub waits : (k : ℕ) → Contains waiting k → LeadsTo back root k
  pub closed : (a b : ℕ) → IsMarked marks a → Contains (ends_of back a) b → IsMarked marks b ⊎ Contains waiting b
  pub start : IsMarked marks root ⊎ Contains waiting root
  pub old : (k : ℕ) → IsMarked first k → get_or roots k 0 ≡ get_or begun k 0
  pub new : (k : ℕ) → IsMarked marks k → (IsMarked first k → ⊥) → get_or roots k 0 ≡ root

pub gather_begins : (back : List (List ℕ)) (root : ℕ) (marks : List Bool) (roots waiting : List ℕ) → length marks ≡ length back → length roots ≡ length back
    → ((a b : ℕ) → IsMarked marks a → Contains (ends_of back a) b → IsMarked marks b) → waiting ≡ root ∷ [] → Gathering back root marks roots marks roots waiting
gather_begins back root marks roots waiting size_marks size_roots closed is =
    subst (Gathering back root marks roots marks roots) (sym is)
    (record {
      size_marks = size_marks;
      size_roots = size_roots;
      kept = λ k m. m;
      sound = λ k m. inl m;
      waits = λ k c. one k (Contains-push_cases [] root k c);
      closed = λ a b m e. inl (closed a b m e);
      start = inr (Contains-push [] root);
      old = λ k m. refl;
      new = λ k m other. absurd (other m);
    })
  where
    one : (k : ℕ) → Contains [] k ⊎ (root ≡ k) → LeadsTo back root k
    one k (inl c) = absurd (none_among k c)
    one k (inr same) = (0, same)

module _ (back : List (List ℕ)) (root : ℕ) (first : List Bool) (begun : List ℕ) (marks : List Bool) (roots waiting rest : List ℕ) (node : ℕ) (is : waiting ≡ rest ++ node ∷ []) (g : Gathering back root first begun marks roots waiting) where
  node_waits : Contains waiting node
  node_waits = subst (λ (l : List ℕ). Contains l node) (sym is) (Contains-push rest node)

  rest_waits : (k : ℕ) → Contains rest k → Contains waiting k
  rest_waits k c = subst (λ (l : List ℕ). Contains l k) (sym is) (Contains-append_left rest (node ∷ []) k c)

  waits_cases : (k : ℕ) → Contains waiting k → Contains rest k ⊎ (node ≡ k)
  waits_cases k c = Contains-push_cases rest node k (subst (λ (l : List ℕ). Contains l k) is c)

  pub node_within : IsGraph back → root < length back → node < length back
  node_within are h = leads_within back are root node h (g.waits node node_waits)

  -- it has its mark
  pub gather_passes : IsMarked marks node → Gathering back root first begun marks roots rest
  gather_passes here =
      record {
        size_marks = g.size_marks;
        size_roots = g.size_roots;
        kept = g.kept;
        sound = g.sound;
        waits = λ k c. g.waits k (rest_waits k c);
        closed = λ a b m e. still b (g.closed a b m e);
        start = still root g.start;
        old = g.old;
        new = g.new;
      }
    where
      on : (b : ℕ) → Contains rest b ⊎ (node ≡ b) → IsMarked marks b ⊎ Contains rest b
      on b (inl c) = inr c
      on b (inr same) = inl (subst (λ (j : ℕ). IsMarked marks j) same here)

      still : (b : ℕ) → IsMarked marks b ⊎ Contains waiting b → IsMarked marks b ⊎ Contains rest b
      still b (inl m) = inl m
      still b (inr c) = on b (waits_cases b c)

  -- it has none yet
  pub gather_marks : node < length back → get_or marks node false ≡ false → Gathering back root first begun (set marks node true) (set roots node root) (rest ++ ends_of back node)
  gather_marks within unmarked =
      record {
        size_marks = length-set marks node true ∙ g.size_marks;
        size_roots = length-set roots node root ∙ g.size_roots;
        kept = λ k m. marked_kept marks node k (g.kept k m);
        sound = λ k m. reached k (marked_cases marks node k m);
        waits = λ k c. waits k (Contains-append_cases rest (ends_of back node) k c);
        closed = λ a b m e. close a b e (marked_cases marks node a m);
        start = still root g.start;
        old = λ k m. get_or-set_other roots node k root 0 (apart k m) ∙ g.old k m;
        new = λ k m other. rooted k other (cases_eq k node) (marked_cases marks node k m);
      }
    where
      here : IsMarked (set marks node true) node
      here = marked_here marks node (omega (arith, within, g.size_marks))

      apart : (k : ℕ) → IsMarked first k → k ≡ node → ⊥
      apart k m same = both_ways (get_or marks node false) unmarked (subst (λ (j : ℕ). IsMarked marks j) same (g.kept k m))

      reached : (k : ℕ) → IsMarked marks k ⊎ (node ≡ k) → IsMarked first k ⊎ LeadsTo back root k
      reached k (inl m) = g.sound k m
      reached k (inr same) = inr (subst (λ (j : ℕ). LeadsTo back root j) same (g.waits node node_waits))

      waits : (k : ℕ) → Contains rest k ⊎ Contains (ends_of back node) k → LeadsTo back root k
      waits k (inl c) = g.waits k (rest_waits k c)
      waits k (inr e) = leads_along back root node k (g.waits node node_waits) e

      on : (b : ℕ) → Contains rest b ⊎ (node ≡ b) → IsMarked (set marks node true) b ⊎ Contains (rest ++ ends_of back node) b
      on b (inl c) = inr (Contains-append_left rest (ends_of back node) b c)
      on b (inr same) = inl (subst (λ (j : ℕ). IsMarked (set marks node true) j) same here)

      still : (b : ℕ) → IsMarked marks b ⊎ Contains waiting b → IsMarked (set marks node true) b ⊎ Contains (rest ++ ends_of back node) b
      still b (inl m) = inl (marked_kept marks node b m)
      still b (inr c) = on b (waits_cases b c)

      close : (a b : ℕ) → Contains (ends_of back a) b → IsMarked marks a ⊎ (node ≡ a) → IsMarked (set marks node true) b ⊎ Contains (rest ++ ends_of back node) b
      close a b e (inl m) = still b (g.closed a b m e)
      close a b e (inr same) = inr (Contains-append_right rest (ends_of back node) b (subst (λ (j : ℕ). Contains (ends_of back j) b) (sym same) e))

      rooted : (k : ℕ) → (IsMarked first k → ⊥) → (k ≡ node) ⊎ (k ≡ node → ⊥) → IsMarked marks k ⊎ (node ≡ k) → get_or (set roots node root) k 0 ≡ root
      rooted k other (inl same) m = ap (λ (j : ℕ). get_or (set roots node root) j 0) same ∙ get_or-set_same roots node root 0 (omega (arith, within, g.size_roots))
      rooted k other (inr ne) (inl m) = get_or-set_other roots node k root 0 ne ∙ g.new k m other
      rooted k other (inr ne) (inr same) = absurd (ne (sym same))

pub gather_ends : (back : List (List ℕ)) (root : ℕ) (first : List Bool) (begun : List ℕ) (marks : List Bool) (roots waiting : List ℕ) → waiting ≡ [] → Gathering back root first begun marks roots waiting → Gathers back root first begun marks roots
gather_ends back root first begun marks roots waiting none g =
    record {
      size_marks = g.size_marks;
      size_roots = g.size_roots;
      marked = λ k. (g.sound k, λ w. back_to k w);
      kept = g.old;
      found = g.new;
    }
  where
    only : (b : ℕ) → IsMarked marks b ⊎ Contains waiting b → IsMarked marks b
    only b (inl m) = m
    only b (inr c) = absurd (none_among b (subst (λ (l : List ℕ). Contains l b) none c))

    along : (n b : ℕ) → Chain back n root b → IsMarked marks b
    along zero b same = subst (λ (j : ℕ). IsMarked marks j) same (only root g.start)
    along (suc n) b (c, chain, last) = only b (g.closed c b (along n c chain) last)

    back_to : (k : ℕ) → IsMarked first k ⊎ LeadsTo back root k → IsMarked marks k
    back_to k (inl m) = g.kept k m
    back_to k (inr w) = along w.0 k w.1

-- ---- all searches, from the last place of the list on

pub record Rooted (back : List (List ℕ)) (order : List ℕ) (from : ℕ) (marks : List Bool) (roots : List ℕ) : Type 0 where
  pub within : from ≤ length order
  pub size_marks : length marks ≡ length back
  pub size_roots : length roots ≡ length back
  pub marked : (k : ℕ) → IsMarked marks k ↔ ((m : ℕ) × (from ≤ m) × (m < length order) × LeadsTo back (get_or order m 0) k)
  pub rooted : (k : ℕ) → IsMarked marks k → (at : ℕ) × IsRootAt back order k (get_or roots k 0) at

pub roots_begin : (back : List (List ℕ)) (order : List ℕ) (from : ℕ) (marks : List Bool) (roots : List ℕ) → from ≡ length order → length marks ≡ length back → length roots ≡ length back → ((k : ℕ) → get_or marks k false ≡ false) → Rooted back order from marks roots
roots_begin back order from marks roots e size_marks size_roots none =
    record {
      within = omega arith;
      size_marks = size_marks;
      size_roots = size_roots;
      marked = λ k. (λ m. absurd (both_ways (get_or marks k false) (none k) m), λ w. absurd (let low = w.1 in let high = w.2 in omega arith));
      rooted = λ k m. absurd (both_ways (get_or marks k false) (none k) m);
    }

pub roots_closed : (back : List (List ℕ)) (order : List ℕ) (from : ℕ) (marks : List Bool) (roots : List ℕ) → Rooted back order from marks roots → (a b : ℕ) → IsMarked marks a → Contains (ends_of back a) b → IsMarked marks b
roots_closed back order from marks roots r a b m e = let w = (r.marked a).0 m in (r.marked b).1 (w.0, w.1, w.2, leads_along back (get_or order w.0 0) a b w.3 e)

pub roots_more : (back : List (List ℕ)) (order : List ℕ) (from place : ℕ) (marks marks' : List Bool) (roots roots' : List ℕ) (root : ℕ) → place + 1 ≡ from → root ≡ get_or order place 0
    → Gathers back root marks roots marks' roots' → Rooted back order from marks roots → Rooted back order place marks' roots'
roots_more back order from place marks marks' roots roots' root e is g r =
    record {
      within = omega (arith, r.within);
      size_marks = g.size_marks;
      size_roots = g.size_roots;
      marked = λ k. (λ m. there k ((g.marked k).0 m), λ w. from_there k w.0 w.1 w.2 w.3 (cases_eq w.0 place));
      rooted = λ k m. root_of k m (cases_Bool (get_or marks k false));
    }
  where
    there : (k : ℕ) → IsMarked marks k ⊎ LeadsTo back root k → (m : ℕ) × (place ≤ m) × (m < length order) × LeadsTo back (get_or order m 0) k
    there k (inl m) = let w = (r.marked k).0 m in (w.0, omega (arith, w.1), w.2, w.3)
    there k (inr w) = (place, omega arith, omega (arith, r.within), subst (λ (x : ℕ). LeadsTo back x k) is w)

    from_there : (k m : ℕ) → place ≤ m → m < length order → LeadsTo back (get_or order m 0) k → (m ≡ place) ⊎ (m ≡ place → ⊥) → IsMarked marks' k
    from_there k m low high w (inl same) = (g.marked k).1 (inr (subst (λ (x : ℕ). LeadsTo back x k) (ap (λ (j : ℕ). get_or order j 0) same ∙ sym is) w))
    from_there k m low high w (inr ne) = (g.marked k).1 (inl ((r.marked k).1 (m, omega (arith, ne), high, w)))

    reached : (k : ℕ) → get_or marks k false ≡ false → IsMarked marks k ⊎ LeadsTo back root k → LeadsTo back root k
    reached k unmarked (inl m) = absurd (both_ways (get_or marks k false) unmarked m)
    reached k unmarked (inr w) = w

    latest : (k m : ℕ) → get_or marks k false ≡ false → m < length order → LeadsTo back (get_or order m 0) k → (m < place + 1) ⊎ (place + 1 ≤ m) → m ≤ place
    latest k m unmarked high w (inl h) = omega arith
    latest k m unmarked high w (inr h) = absurd (both_ways (get_or marks k false) unmarked ((r.marked k).1 (m, omega arith, high, w)))

    root_of : (k : ℕ) → IsMarked marks' k → (get_or marks k false ≡ true) ⊎ (get_or marks k false ≡ false) → (at : ℕ) × IsRootAt back order k (get_or roots' k 0) at
    root_of k m (inl was) = let w = r.rooted k was in (w.0, subst (λ (x : ℕ). IsRootAt back order k x w.0) (sym (g.kept k was)) w.1)
    root_of k m (inr unmarked) =
        let found : get_or roots' k 0 ≡ root = g.found k m (both_ways (get_or marks k false) unmarked) in (
          place,
          subst (λ (x : ℕ). IsRootAt back order k x place) (sym found)
              (record {
                inside = omega (arith, r.within);
                is = is;
                leads = reached k unmarked ((g.marked k).0 m);
                last = λ j high w. latest k j unmarked high w (cases_lt j (place + 1));
              }),
        )

pub roots_end : (back : List (List ℕ)) (order : List ℕ) (from : ℕ) (marks : List Bool) (roots : List ℕ) → from ≡ 0 → ((k : ℕ) → k < length back → Contains order k) → Rooted back order from marks roots → AreRoots back order roots
roots_end back order from marks roots e each r = record { size = r.size_roots; each = λ k h. r.rooted k (mark k (each k h)) }
  where
    mark : (k : ℕ) → Contains order k → IsMarked marks k
    mark k (m, inside, same) = (r.marked k).1 (m, omega arith, inside, (0, get_or_default order m 0 k inside ∙ same))
