-- Marks at nodes.
use Rattle.std.proofs.Common.{◌≡◌, ◌↔◌, ◌⊎◌, inl, inr, sym, ◌∙◌, ap, subst, ℕ, ◌+◌, ◌<◌, ◌≤◌, Bool, true, false, List, [], ◌∷◌, ◌++◌, length, get_or, set, take, drop, arith, append-nil, Contains}
use Rattle.std.proofs.lemmas.List.{get_or-set_same, get_or-set_other, get_or_past, take_more, take_all, drop_all}
use Rattle.std.proofs.lemmas.List.Elements.{Contains-append_left, Contains-push, Contains-push_cases}
use Rattle.std.proofs.lemmas.Bool.{cases_eq, cases_lt, both_ways}
use Rattle.net_graph.specs.Chains.{IsMarked, IsMarkedOr, IsNext, ends_of}

pub marked_within : (marks : List Bool) (k : ℕ) → IsMarked marks k → k < length marks
marked_within marks k m = at (cases_lt k (length marks))
  where
    at : (k < length marks) ⊎ (length marks ≤ k) → k < length marks
    at (inl h) = h
    at (inr h) = absurd (both_ways (get_or marks k false) (get_or_past marks k false h) m)

pub marked_kept : (marks : List Bool) (e k : ℕ) → IsMarked marks k → IsMarked (set marks e true) k
marked_kept marks e k m = at (cases_eq k e)
  where
    at : (k ≡ e) ⊎ (k ≡ e → ⊥) → IsMarked (set marks e true) k
    at (inl same) = subst (λ j. get_or (set marks e true) j false ≡ true) (sym same) (get_or-set_same marks e true false (subst (λ j. j < length marks) same (marked_within marks k m)))
    at (inr other) = get_or-set_other marks e k true false other ∙ m

pub marked_here : (marks : List Bool) (e : ℕ) → e < length marks → IsMarked (set marks e true) e
marked_here marks e h = get_or-set_same marks e true false h

pub marked_cases : (marks : List Bool) (e k : ℕ) → IsMarked (set marks e true) k → IsMarked marks k ⊎ (e ≡ k)
marked_cases marks e k m = at (cases_eq k e)
  where
    at : (k ≡ e) ⊎ (k ≡ e → ⊥) → IsMarked marks k ⊎ (e ≡ k)
    at (inl same) = inr (sym same)
    at (inr other) = inl (sym (get_or-set_other marks e k true false other) ∙ m)

-- one more element of a list
pub among_more : {X : Type 0} (xs : List X) (i : ℕ) (d k : X) → i < length xs → Contains (take i xs) k → Contains (take (i + 1) xs) k
among_more xs i d k h c = subst (λ l. Contains l k) (sym (take_more xs i d h)) (Contains-append_left (take i xs) (get_or xs i d ∷ []) k c)

pub among_last : {X : Type 0} (xs : List X) (i : ℕ) (d k : X) → i < length xs → get_or xs i d ≡ k → Contains (take (i + 1) xs) k
among_last xs i d k h e =
    subst (λ x. Contains (take (i + 1) xs) x) e (subst (λ l. Contains l (get_or xs i d)) (sym (take_more xs i d h)) (Contains-push (take i xs) (get_or xs i d)))

pub among_cases : {X : Type 0} (xs : List X) (i : ℕ) (d k : X) → i < length xs → Contains (take (i + 1) xs) k → Contains (take i xs) k ⊎ (get_or xs i d ≡ k)
among_cases xs i d k h c = Contains-push_cases (take i xs) (get_or xs i d) k (subst (λ l. Contains l k) (take_more xs i d h) c)

pub none_among : {X : Type 0} (k : X) → Contains [] k → ⊥
none_among k c = absurd (omega (arith, c.1))

-- one more end has its mark
pub mark_more : (first marks : List Bool) (ends : List ℕ) (i e : ℕ) → i < length ends → e ≡ get_or ends i e → e < length marks
    → ((k : ℕ) → IsMarked marks k ↔ IsMarkedOr first (take i ends) k) → (k : ℕ) → IsMarked (set marks e true) k ↔ IsMarkedOr first (take (i + 1) ends) k
mark_more first marks ends i e h is within so_far k = (λ m. there (marked_cases marks e k m), back)
  where
    there : IsMarked marks k ⊎ (e ≡ k) → IsMarkedOr first (take (i + 1) ends) k
    there (inl m) = on ((so_far k).0 m)
      where
        on : IsMarkedOr first (take i ends) k → IsMarkedOr first (take (i + 1) ends) k
        on (inl f) = inl f
        on (inr c) = inr (among_more ends i e k h c)
    there (inr same) = inr (among_last ends i e k h (sym is ∙ same))

    last : Contains (take i ends) k ⊎ (get_or ends i e ≡ k) → IsMarked (set marks e true) k
    last (inl c) = marked_kept marks e k ((so_far k).1 (inr c))
    last (inr same) = subst (λ j. get_or (set marks e true) j false ≡ true) (is ∙ same) (marked_here marks e within)

    back : IsMarkedOr first (take (i + 1) ends) k → IsMarked (set marks e true) k
    back (inl f) = marked_kept marks e k ((so_far k).1 (inl f))
    back (inr c) = last (among_cases ends i e k h c)

-- the marked ones below a number
pub below_kept : (marks : List Bool) (nodes : List ℕ) (i : ℕ) → get_or marks i false ≡ false → ((k : ℕ) → Contains nodes k ↔ ((k < i) × IsMarked marks k)) → (k : ℕ) → Contains nodes k ↔ ((k < i + 1) × IsMarked marks k)
below_kept marks nodes i none so_far k = (λ c. (omega (arith, ((so_far k).0 c).0), ((so_far k).0 c).1), λ m. (so_far k).1 (at m.0 m.1 (cases_eq k i), m.1))
  where
    at : k < i + 1 → IsMarked marks k → (k ≡ i) ⊎ (k ≡ i → ⊥) → k < i
    at h m (inl same) = absurd (both_ways (get_or marks i false) none (subst (λ j. get_or marks j false ≡ true) same m))
    at h m (inr other) = omega (arith, other)

pub below_more : (marks : List Bool) (nodes : List ℕ) (i : ℕ) → get_or marks i false ≡ true → ((k : ℕ) → Contains nodes k ↔ ((k < i) × IsMarked marks k)) → (k : ℕ) → Contains (nodes ++ i ∷ []) k ↔ ((k < i + 1) × IsMarked marks k)
below_more marks nodes i one so_far k = (λ c. there (Contains-push_cases nodes i k c), λ m. back m.0 m.1 (cases_eq k i))
  where
    there : Contains nodes k ⊎ (i ≡ k) → (k < i + 1) × IsMarked marks k
    there (inl c) = (omega (arith, ((so_far k).0 c).0), ((so_far k).0 c).1)
    there (inr same) = (omega arith, subst (λ j. get_or marks j false ≡ true) same one)

    back : k < i + 1 → IsMarked marks k → (k ≡ i) ⊎ (k ≡ i → ⊥) → Contains (nodes ++ i ∷ []) k
    back h m (inl same) = subst (λ j. Contains (nodes ++ i ∷ []) j) (sym same) (Contains-push nodes i)
    back h m (inr other) = Contains-append_left nodes (i ∷ []) k ((so_far k).1 (omega (arith, other), m))

-- what an edge from one of the first nodes leads to
abbrev pub IsNextBelow : List (List ℕ) → List Bool → ℕ → ℕ → Type 0
IsNextBelow graph marks i k = (s : ℕ) × (s < i) × IsMarked marks s × Contains (ends_of graph s) k

pub next_kept : (graph : List (List ℕ)) (marks next : List Bool) (i : ℕ) → get_or marks i false ≡ false → ((k : ℕ) → IsMarked next k ↔ IsNextBelow graph marks i k) → (k : ℕ) → IsMarked next k ↔ IsNextBelow graph marks (i + 1) k
next_kept graph marks next i none so_far k =
    (λ m. let w = (so_far k).0 m in (w.0, omega (arith, w.1), w.2, w.3), λ w. (so_far k).1 (w.0, at w.0 w.1 w.2 (cases_eq w.0 i), w.2, w.3))
  where
    at : (s : ℕ) → s < i + 1 → IsMarked marks s → (s ≡ i) ⊎ (s ≡ i → ⊥) → s < i
    at s h m (inl same) = absurd (both_ways (get_or marks i false) none (subst (λ j. get_or marks j false ≡ true) same m))
    at s h m (inr other) = omega (arith, other)

pub next_more : (graph : List (List ℕ)) (marks next after : List Bool) (i : ℕ) → get_or marks i false ≡ true
    → ((k : ℕ) → IsMarked next k ↔ IsNextBelow graph marks i k) → ((k : ℕ) → IsMarked after k ↔ IsMarkedOr next (ends_of graph i) k) → (k : ℕ) → IsMarked after k ↔ IsNextBelow graph marks (i + 1) k
next_more graph marks next after i one so_far step k = (λ m. there ((step k).0 m), λ w. back w.0 w.1 w.2 w.3 (cases_eq w.0 i))
  where
    there : IsMarkedOr next (ends_of graph i) k → IsNextBelow graph marks (i + 1) k
    there (inl m) = let w = (so_far k).0 m in (w.0, omega (arith, w.1), w.2, w.3)
    there (inr c) = (i, omega arith, one, c)

    back : (s : ℕ) → s < i + 1 → IsMarked marks s → Contains (ends_of graph s) k → (s ≡ i) ⊎ (s ≡ i → ⊥) → IsMarked after k
    back s h m c (inl same) = (step k).1 (inr (subst (λ j. Contains (ends_of graph j) k) same c))
    back s h m c (inr other) = (step k).1 (inl ((so_far k).1 (s, omega (arith, other), m, c)))

pub next_all : (graph : List (List ℕ)) (marks next : List Bool) (i : ℕ) → length marks ≤ i → ((k : ℕ) → IsMarked next k ↔ IsNextBelow graph marks i k) → (k : ℕ) → IsMarked next k ↔ IsNext graph marks k
next_all graph marks next i h so_far k =
    (λ m. let w = (so_far k).0 m in (w.0, w.2, w.3), λ w. (so_far k).1 (w.0, omega (arith, marked_within marks w.0 w.1), w.1, w.2))

-- a list that is written back whole
pub written_back : {X : Type 0} (n : ℕ) (new old : List X) → length new ≡ length old → length old ≡ n → take n (new ++ drop (length new) old) ≡ new
written_back n new old same size = ap (take n) (ap (λ l. new ++ l) (drop_all (length new) old (omega arith)) ∙ append-nil new) ∙ take_all n new (omega arith)
