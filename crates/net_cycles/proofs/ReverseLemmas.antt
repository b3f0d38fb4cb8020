-- Edges that are turned round.
use Rattle.std.proofs.Common.{◌≡◌, ◌↔◌, ◌⊎◌, inl, inr, refl, sym, ◌∙◌, ap, ap₂, subst, ℕ, zero, suc, ◌+◌, ◌<◌, ◌≤◌, List, [], ◌∷◌, ◌++◌, length, get_or, set, map, take, replicate, All, arith, Contains}
use Rattle.std.proofs.lemmas.Bool.{cases_eq, cases_lt}
use Rattle.std.proofs.lemmas.List.{get_or-map, get_or-set_other, get_or-set_same, get_or-replicate, get_or_past, length-replicate, length-set, map-set}
use Rattle.std.proofs.lemmas.List.Elements.{All-from_get_or, Contains-append_left, Contains-get_or, Contains-push, Contains-push_cases}
use Rattle.net_graph.specs.Chains.{Chain, IsGraph, LeadsTo, ends_of}
use Rattle.net_graph.proofs.MarkLemmas.{among_cases, among_last, among_more, none_among}
use Rattle.net_cycles.specs.Reversed.{Adds, IsReversed}
use Rattle.net_cycles.proofs.StackLemmas.{leads_by, leads_on}

-- a list of a table of lists that is changed
pub list_set : {V : Type 0} (f : V → List ℕ) (lists : List V) (now : List (List ℕ)) (k : ℕ) (v : V) (ns : List ℕ) → map f lists ≡ now → f v ≡ ns → map f (set lists k v) ≡ set now k ns
list_set f lists now k v ns is e = map-set f lists k v ∙ ap₂ (λ l x. set l k x) is e

pub list_at : {V : Type 0} (f : V → List ℕ) (lists : List V) (now : List (List ℕ)) (k : ℕ) (x : V) → map f lists ≡ now → k < length lists → x ≡ get_or lists k x → f x ≡ get_or now k []
list_at f lists now k x is h e = ap f e ∙ (sym (get_or-map f lists k x [] h) ∙ ap (λ l. get_or l k []) is)

-- ---- the edges of one node

pub adds_none : (node : ℕ) (lists : List (List ℕ)) → Adds node [] lists lists
adds_none node lists = record { size = refl; edges = λ a b. (inl, λ c. at a b c) }
  where
    at : (a b : ℕ) → Contains (ends_of lists b) a ⊎ ((a ≡ node) × Contains [] b) → Contains (ends_of lists b) a
    at a b (inl c) = c
    at a b (inr c) = absurd (none_among b c.1)

pub adds_more : (node : ℕ) (ends : List ℕ) (i end : ℕ) (first before after : List (List ℕ)) → i < length ends → end ≡ get_or ends i end → end < length before → after ≡ set before end (get_or before end [] ++ node ∷ [])
    → Adds node (take i ends) first before → Adds node (take (i + 1) ends) first after
adds_more node ends i end first before after h is within now adds =
    subst (Adds node (take (i + 1) ends) first) (sym now)
    (record {
      size = length-set before end (get_or before end [] ++ node ∷ []) ∙ adds.size;
      edges = λ a b. (λ c. there a b (cases_eq b end) c, λ c. back a b (cases_eq b end) c);
    })
  where
    here : ends_of (set before end (get_or before end [] ++ node ∷ [])) end ≡ get_or before end [] ++ node ∷ []
    here = get_or-set_same before end (get_or before end [] ++ node ∷ []) [] within

    elsewhere : (b : ℕ) → (b ≡ end → ⊥) → ends_of (set before end (get_or before end [] ++ node ∷ [])) b ≡ ends_of before b
    elsewhere b ne = get_or-set_other before end b (get_or before end [] ++ node ∷ []) [] ne

    wider : (a b : ℕ) → Contains (ends_of first b) a ⊎ ((a ≡ node) × Contains (take i ends) b) → Contains (ends_of first b) a ⊎ ((a ≡ node) × Contains (take (i + 1) ends) b)
    wider a b (inl c) = inl c
    wider a b (inr c) = inr (c.0, among_more ends i end b h c.1)

    last : (a b : ℕ) → b ≡ end → Contains (ends_of before end) a ⊎ (node ≡ a) → Contains (ends_of first b) a ⊎ ((a ≡ node) × Contains (take (i + 1) ends) b)
    last a b e (inl c) = wider a b ((adds.edges a b).0 (subst (λ (j : ℕ). Contains (ends_of before j) a) (sym e) c))
    last a b e (inr same) = inr (sym same, among_last ends i end b h (sym is ∙ sym e))

    there : (a b : ℕ) → (b ≡ end) ⊎ (b ≡ end → ⊥) → Contains (ends_of (set before end (get_or before end [] ++ node ∷ [])) b) a → Contains (ends_of first b) a ⊎ ((a ≡ node) × Contains (take (i + 1) ends) b)
    there a b (inl e) c =
        last a b e (Contains-push_cases (get_or before end []) node a (subst (λ (l : List ℕ). Contains l a) here (subst (λ (j : ℕ). Contains (ends_of (set before end (get_or before end [] ++ node ∷ [])) j) a) e c)))
    there a b (inr ne) c = wider a b ((adds.edges a b).0 (subst (λ (l : List ℕ). Contains l a) (elsewhere b ne) c))

    grown : (a b : ℕ) → (b ≡ end) ⊎ (b ≡ end → ⊥) → Contains (ends_of before b) a → Contains (ends_of (set before end (get_or before end [] ++ node ∷ [])) b) a
    grown a b (inl e) c =
        subst (λ (j : ℕ). Contains (ends_of (set before end (get_or before end [] ++ node ∷ [])) j) a) (sym e)
        (subst (λ (l : List ℕ). Contains l a) (sym here) (Contains-append_left (get_or before end []) (node ∷ []) a (subst (λ (j : ℕ). Contains (ends_of before j) a) e c)))
    grown a b (inr ne) c = subst (λ (l : List ℕ). Contains l a) (sym (elsewhere b ne)) c

    new : (a b : ℕ) → (b ≡ end) ⊎ (b ≡ end → ⊥) → a ≡ node → Contains (take i ends) b ⊎ (get_or ends i end ≡ b) → Contains (ends_of (set before end (get_or before end [] ++ node ∷ [])) b) a
    new a b w e (inl c) = grown a b w ((adds.edges a b).1 (inr (e, c)))
    new a b w e (inr same) =
        subst (λ (j : ℕ). Contains (ends_of (set before end (get_or before end [] ++ node ∷ [])) j) a) (is ∙ same)
        (subst (λ (l : List ℕ). Contains l a) (sym here) (subst (λ (x : ℕ). Contains (get_or before end [] ++ node ∷ []) x) (sym e) (Contains-push (get_or before end []) node)))

    back : (a b : ℕ) → (b ≡ end) ⊎ (b ≡ end → ⊥) → Contains (ends_of first b) a ⊎ ((a ≡ node) × Contains (take (i + 1) ends) b) → Contains (ends_of (set before end (get_or before end [] ++ node ∷ [])) b) a
    back a b w (inl c) = grown a b w ((adds.edges a b).1 (inl c))
    back a b w (inr c) = new a b w c.0 (among_cases ends i end b h c.1)

-- ---- the edges of the first nodes

pub record IsReversedBelow (graph lists : List (List ℕ)) (n : ℕ) : Type 0 where
  pub size : length lists ≡ length graph
  pub edges : (a b : ℕ) → Contains (ends_of lists b) a ↔ ((a < n) × Contains (ends_of graph a) b)

pub reverse_begins : (graph lists : List (List ℕ)) (n : ℕ) → lists ≡ replicate n [] → n ≡ length graph → IsReversedBelow graph lists 0
reverse_begins graph lists n is size =
    subst (λ (l : List (List ℕ)). IsReversedBelow graph l 0) (sym is)
    (record { size = length-replicate n [] ∙ size; edges = λ a b. (λ c. absurd (empty a b c), λ c. absurd (let below = c.0 in omega arith)) })
  where
    empty_at : (a b : ℕ) → (b < n) ⊎ (n ≤ b) → Contains (ends_of (replicate n []) b) a → ⊥
    empty_at a b (inl h) c = none_among a (subst (λ (l : List ℕ). Contains l a) (get_or-replicate n b [] [] h) c)
    empty_at a b (inr h) c = none_among a (subst (λ (l : List ℕ). Contains l a) (get_or_past (replicate n []) b [] (omega (arith, h, length-replicate {A = List ℕ} n []))) c)

    empty : (a b : ℕ) → Contains (ends_of (replicate n []) b) a → ⊥
    empty a b c = empty_at a b (cases_lt b n) c

pub reverse_more : (graph lists after : List (List ℕ)) (n : ℕ) (row : List ℕ) → row ≡ ends_of graph n → Adds n row lists after → IsReversedBelow graph lists n → IsReversedBelow graph after (n + 1)
reverse_more graph lists after n row is adds r = record { size = adds.size ∙ r.size; edges = λ a b. (λ c. there a b ((adds.edges a b).0 c), λ c. back a b c.0 c.1 (cases_eq a n)) }
  where
    there : (a b : ℕ) → Contains (ends_of lists b) a ⊎ ((a ≡ n) × Contains row b) → (a < n + 1) × Contains (ends_of graph a) b
    there a b (inl c) = let w = (r.edges a b).0 c in (omega (arith, w.0), w.1)
    there a b (inr c) = let e = c.0 in (omega arith, subst (λ (j : ℕ). Contains (ends_of graph j) b) (sym e) (subst (λ (l : List ℕ). Contains l b) is c.1))

    back : (a b : ℕ) → a < n + 1 → Contains (ends_of graph a) b → (a ≡ n) ⊎ (a ≡ n → ⊥) → Contains (ends_of after b) a
    back a b h c (inl e) = (adds.edges a b).1 (inr (e, subst (λ (l : List ℕ). Contains l b) (sym is) (subst (λ (j : ℕ). Contains (ends_of graph j) b) e c)))
    back a b h c (inr ne) = (adds.edges a b).1 (inl ((r.edges a b).1 (omega (arith, ne), c)))

pub edge_within : (graph : List (List ℕ)) (a b : ℕ) → Contains (ends_of graph a) b → a < length graph
edge_within graph a b c = at (cases_lt a (length graph))
  where
    at : (a < length graph) ⊎ (length graph ≤ a) → a < length graph
    at (inl h) = h
    at (inr h) = absurd (none_among b (subst (λ (l : List ℕ). Contains l b) (get_or_past graph a [] h) c))

pub reverse_ends : (graph lists : List (List ℕ)) (n : ℕ) → length graph ≤ n → IsReversedBelow graph lists n → IsReversed graph lists
reverse_ends graph lists n h r = record { size = r.size; edges = λ a b. (λ c. ((r.edges a b).0 c).1, λ c. (r.edges a b).1 (omega (arith, h, edge_within graph a b c), c)) }

pub reversed_is_graph : (graph back : List (List ℕ)) → IsReversed graph back → IsGraph back
reversed_is_graph graph back r =
    All-from_get_or (λ ends. All (λ k. k < length back) ends) back []
    (λ b h. All-from_get_or (λ k. k < length back) (ends_of back b) 0 (λ i inside. within b (get_or (ends_of back b) i 0) (Contains-get_or (ends_of back b) i 0 inside)))
  where
    within : (b a : ℕ) → Contains (ends_of back b) a → a < length back
    within b a c = omega (arith, r.size, edge_within graph a b ((r.edges a b).0 c))

-- ---- chains that are turned round

chain_reversed : (g h : List (List ℕ)) → ((a b : ℕ) → Contains (ends_of g a) b → Contains (ends_of h b) a) → (n a b : ℕ) → Chain g n a b → LeadsTo h b a
chain_reversed g h turn zero a b same = (0, sym same)
chain_reversed g h turn (suc n) a b (c, chain, last) = leads_on h b c a (leads_by h b c (turn c b last)) (chain_reversed g h turn n a c chain)

pub to_back : (graph back : List (List ℕ)) → IsReversed graph back → (a b : ℕ) → LeadsTo graph a b → LeadsTo back b a
to_back graph back r a b (n, chain) = chain_reversed graph back (λ x y c. (r.edges x y).1 c) n a b chain

pub from_back : (graph back : List (List ℕ)) → IsReversed graph back → (a b : ℕ) → LeadsTo back a b → LeadsTo graph b a
from_back graph back r a b (n, chain) = chain_reversed back graph (λ x y c. (r.edges y x).0 c) n a b chain
