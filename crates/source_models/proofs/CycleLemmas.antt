-- Ordered nodes are on no cycle, and a walk over nodes that are left over finds one.
use Rattle.std.proofs.Common.{◌≡◌, ◌==◌, ◌⊎◌, inl, inr, refl, sym, ◌∙◌, ap, ap₂, subst, ℕ, zero, suc, ◌+◌, ◌<◌, ◌≤◌, Bool, true, false, cond, List, [], ◌∷◌, ◌++◌, length, get_or, take, drop, count_by, find, Some, slice_get, All, Contains, arith}
use Rattle.std.specs.List.{AllByRecursion, flat_map}
use Rattle.std.proofs.Math.Seq.{get_or-append_seam}
use Rattle.std.proofs.lemmas.Bool.{cases_Bool, cases_lt, cond-false, cond-true}
use Rattle.std.proofs.lemmas.List.{get_or_append_left, get_or_default, length_push}
use Rattle.std.proofs.lemmas.List.Elements.{All-from_get_or, All-take, Contains-get_or, recursion_from_All}
use Rattle.std.proofs.lemmas.List.Sums.{sum_by-take-drop}
use Rattle.std.proofs.lemmas.Option.{get_or_from_slice_get, slice_get-get_or, slice_get_within}
use Rattle.net_graph.specs.Chains.{Chain, IsGraph, IsMarked, ends_of}
use Rattle.net_graph.proofs.MarkLemmas.{marked_within, none_among}
use Rattle.net_order.specs.Order.{AreDriven, IsKnown, IsLeftOver, IsOrder, OthersAreLeft}
use Rattle.net_order.specs.Walks.{FollowsAlong, FollowsTo, IsWalkedLoop}
use Rattle.net_order.proofs.OrderLemmas.{contained_counts}
use Rattle.net_cycles.specs.Cycles.{IsOnCycle, IsFirstOnCycle as IsFirst}
use Rattle.net_cycles.proofs.FinishLemmas.{end_within}
use Rattle.net_cycles.proofs.ReverseLemmas.{edge_within}
use Rattle.source_models.specs.Cycles.{IsClosed, IsEndsFirst, IsFirstOnCycle, IsPart, Settles}

-- ---- the first elements of a list, by their places

pub in_take : {X : Type 0} (xs : List X) (k : ℕ) (x : X) → Contains (take k xs) x → (p : ℕ) × (p < k) × (slice_get xs p ≡ Some x)
in_take xs zero x (p, inside, e) = absurd (omega arith)
in_take [] (suc k) x (p, inside, e) = absurd (omega arith)
in_take (y ∷ ys) (suc k) x (zero, inside, e) = (0, omega arith, ap (λ z. Some z) e)
in_take (y ∷ ys) (suc k) x (suc p, inside, e) = let r = in_take ys k x (p, omega arith, e) in (suc r.0, omega (arith, r.1), r.2)

pub to_take : {X : Type 0} (xs : List X) (k p : ℕ) (x : X) → p < k → slice_get xs p ≡ Some x → Contains (take k xs) x
to_take [] k p x h e = cc e
to_take (y ∷ ys) zero p x h e = absurd (omega arith)
to_take (y ∷ ys) (suc k) zero x h e = let same : y ≡ x = cc e in (0, omega arith, same)
to_take (y ∷ ys) (suc k) (suc p) x h e = let r = to_take ys k p x (omega arith) e in (suc r.0, omega (arith, r.1), r.2)

pub place_of : {X : Type 0} (xs : List X) (x : X) → Contains xs x → (p : ℕ) × (slice_get xs p ≡ Some x)
place_of xs x (p, inside, e) = (p, slice_get-get_or xs p x inside ∙ ap (λ z. Some z) e)

pub at_place : {X : Type 0} (xs : List X) (p : ℕ) (x : X) → slice_get xs p ≡ Some x → Contains xs x
at_place xs p x e = (p, slice_get_within xs p x e, get_or_from_slice_get xs p x x e)

-- ---- an order in which each stands behind its ends

module _ (graph : List (List ℕ)) (order : List ℕ) (earlier : (k i j : ℕ) → slice_get order k ≡ Some i → Contains (ends_of graph i) j → Contains (take k order) j) where
  chain_before : (n k i j : ℕ) → slice_get order k ≡ Some i → Chain graph (suc n) i j → Contains (take k order) j
  chain_before zero k i j at (c, same, last) = earlier k i j at (subst (λ (x : ℕ). Contains (ends_of graph x) j) (sym same) last)
  chain_before (suc n) k i j at (c, chain, last) =
      let b = in_take order k c (chain_before n k i c at chain) in
      let d = in_take order b.0 j (earlier b.0 c j b.2 last) in
      to_take order k d.0 j (omega (arith, b.1, d.1)) d.2

  pub on_no_cycle : ((i : ℕ) → count_by (λ k. k == i) order ≤ 1) → (i : ℕ) → Contains order i → IsOnCycle graph i → ⊥
  on_no_cycle once i c (n, chain) =
      let at = place_of order i c in
      let front = contained_counts (take at.0 order) i (chain_before n at.0 i i at.1 chain) in
      let back = contained_counts (drop at.0 order) i (behind order at.0 i at.1) in
      let both = sum_by-take-drop (λ k. cond (k == i) 1 0) order at.0 in
      absurd (omega (arith, front, back, both, once i))
    where
      behind : (xs : List ℕ) (p x : ℕ) → slice_get xs p ≡ Some x → Contains (drop p xs) x
      behind [] p x e = cc e
      behind (y ∷ ys) zero x e = let same : y ≡ x = cc e in (0, omega arith, same)
      behind (y ∷ ys) (suc p) x e = behind ys p x e

-- ---- chains

with_step : (graph : List (List ℕ)) (n a c b : ℕ) → Contains (ends_of graph a) c → Chain graph n c b → Chain graph (suc n) a b
with_step graph zero a c b e same = (a, refl, subst (λ (x : ℕ). Contains (ends_of graph a) x) same e)
with_step graph (suc n) a c b e (d, chain, last) = (d, with_step graph n a c d e chain, last)

found_in : (p : ℕ → Bool) (xs : List ℕ) (k : ℕ) → find p xs ≡ Some k → Contains xs k × (p k ≡ true)
found_in p [] k e = absurd (cc e)
found_in p (x ∷ xs) k e = by_case (p x) refl e (found_in p xs k)
  where
    by_case : (b : Bool) → p x ≡ b → cond b (Some x) (find p xs) ≡ Some k → (find p xs ≡ Some k → Contains xs k × (p k ≡ true)) → Contains (x ∷ xs) k × (p k ≡ true)
    by_case true h e rest = let same : x ≡ k = cc e in ((0, omega arith, same), subst (λ (j : ℕ). p j ≡ true) same h)
    by_case false h e rest = let r = rest e in ((suc r.0.0, omega (arith, r.0.1), r.0.2), r.1)

-- ---- walks in which each node is its own item

module _ (graph : List (List ℕ)) (driver : List ℕ) (left : List Bool) (own : (i : ℕ) → IsMarked left i → get_or driver i 0 ≡ i) where
  follows : (n k : ℕ) → FollowsTo graph driver left n k → Contains (ends_of graph (get_or driver n 0)) k × IsMarked left k
  follows n k f = found_in (λ j. get_or left j false) (ends_of graph (get_or driver n 0)) k f

  edge : (n k : ℕ) → IsMarked left n → FollowsTo graph driver left n k → Contains (ends_of graph n) k
  edge n k m f = subst (λ (i : ℕ). Contains (ends_of graph i) k) (own n m) (follows n k f).0

  marked_end : (n : ℕ) (rest : List ℕ) (end : ℕ) → FollowsAlong graph driver left (n ∷ rest) end → IsMarked left end
  marked_end n [] end f = (follows n end f).1
  marked_end n (k ∷ rest) end f = marked_end k rest end f.1

  along : (n : ℕ) (rest : List ℕ) (end : ℕ) → IsMarked left n → FollowsAlong graph driver left (n ∷ rest) end → (len : ℕ) × Chain graph (suc len) n end
  along n [] end m f = (0, (n, refl, edge n end m f))
  along n (k ∷ rest) end m f =
      let r = along k rest end (follows n k f.0).1 f.1 in
      (suc r.0, with_step graph (suc r.0) n k end (edge n k m f.0) r.1)

  behind_front : (front : List ℕ) (n : ℕ) (rest : List ℕ) (end : ℕ) → FollowsAlong graph driver left (front ++ n ∷ rest) end → FollowsAlong graph driver left (n ∷ rest) end
  behind_front [] n rest end f = f
  behind_front (a ∷ []) n rest end f = f.1
  behind_front (a ∷ b ∷ front) n rest end f = behind_front (b ∷ front) n rest end f.1

  pub walked_cycle : (nets : List ℕ) → IsWalkedLoop graph driver left nets → (k : ℕ) × IsMarked left k × IsOnCycle graph k
  walked_cycle nets w =
      let s = w.walked in
      let all : FollowsAlong graph driver left (s.front ++ s.first ∷ s.others) s.first
      = subst (λ (l : List ℕ). FollowsAlong graph driver left (s.front ++ l) s.first) s.cycle s.walks in
      let here = behind_front s.front s.first s.others s.first all in
      let m = marked_end s.first s.others s.first here in
      (s.first, m, along s.first s.others s.first m here)

-- ---- items that each drive the net of their own number

-- each row is the node alone
pub record AreOwn (nodes : ℕ) (rows : List (List ℕ)) : Type 0 where
  pub size : length rows ≡ nodes
  pub own : (i : ℕ) → i < nodes → ends_of rows i ≡ i ∷ []

module _ (graph rows : List (List ℕ)) (marks none : List Bool) (are : AreOwn (length graph) rows) (size : length marks ≡ length graph) where
  own_row : (i : ℕ) → IsMarked marks i → ends_of rows i ≡ i ∷ []
  own_row i m = are.own i (omega (arith, marked_within marks i m, size))

  drives_one : (i n : ℕ) → IsMarked marks i → Contains (ends_of rows i) n → i ≡ n
  drives_one i n m c = one (subst (λ (l : List ℕ). Contains l n) (own_row i m) c)
    where
      one : Contains (i ∷ []) n → i ≡ n
      one (zero, inside, e) = e
      one (suc k, inside, e) = absurd (omega arith)

  drives_itself : (i : ℕ) → IsMarked marks i → Contains (ends_of rows i) i
  drives_itself i m = subst (λ (l : List ℕ). Contains l i) (sym (own_row i m)) (0, omega arith, refl)

  driven_by : (xs : List ℕ) → AllByRecursion (λ i. IsMarked marks i) xs → flat_map (ends_of rows) xs ≡ xs
  driven_by [] a = refl
  driven_by (x ∷ xs) a = ap₂ (λ (f l : List ℕ). f ++ l) (own_row x a.0) (driven_by xs a.1)

  module _ (order : List ℕ) (left : List Bool) (is : IsOrder graph rows marks none order) where
    marked_order : All (λ i. IsMarked marks i) order
    marked_order = All-from_get_or (λ i. IsMarked marks i) order 0 (λ k h. is.items (get_or order k 0) (k, h, get_or_default order k (get_or order k 0) 0 h))

    known_before : (k n : ℕ) → ((n : ℕ) → IsMarked none n → ⊥) → IsKnown rows none (take k order) n → Contains (take k order) n
    known_before k n free (inl m) = absurd (free n m)
    known_before k n free (inr c) =
        subst (λ (l : List ℕ). Contains l n) (driven_by (take k order) (recursion_from_All (λ i. IsMarked marks i) (take k order) (All-take (λ i. IsMarked marks i) k order marked_order))) c

    pub settles : ((n : ℕ) → IsMarked none n → ⊥) → IsClosed graph marks
        → (AreDriven graph rows marks none → (n : ℕ) → IsMarked left n → IsLeftOver graph rows marks left n) → OthersAreLeft rows marks left order → Settles graph marks order left
    settles free closed left_over others_left =
        let driven : AreDriven graph rows marks none = λ i n m c. let h = closed i n m c in inr (n, h, drives_itself n h) in
        record {
          items = is.items;
          once = is.once;
          earlier = λ k i j at c.
              let h = slice_get_within order k i at in
              let here = get_or_from_slice_get order k i 0 at in
              known_before k j free (is.known k h j (subst (λ (x : ℕ). Contains (ends_of graph x) j) (sym here) c));
          left_marked = λ i m. let w = left_over driven i m in subst (λ (x : ℕ). IsMarked marks x) (drives_one w.0 i w.1 w.2) w.1;
          goes_on = λ i m. let w = left_over driven i m in subst (λ (x : ℕ). (k : ℕ) × Contains (ends_of graph x) k × IsMarked left k) (drives_one w.0 i w.1 w.2) w.3;
          others = λ i m. either i m (others_left i m);
        }
      where
        either : (i : ℕ) → IsMarked marks i → Contains order i ⊎ ((n : ℕ) → Contains (ends_of rows i) n → IsMarked left n) → Contains order i ⊎ IsMarked left i
        either i m (inl c) = inl c
        either i m (inr f) = inr (f i (drives_itself i m))

-- ---- what is told

pub all_ordered : (graph : List (List ℕ)) (marks left : List Bool) (order : List ℕ) → Settles graph marks order left → ((i : ℕ) → IsMarked left i → ⊥) → IsEndsFirst graph marks order
all_ordered graph marks left order s none =
    record {
      items = λ i. (s.items i, λ m. there i (s.others i m));
      once = s.once;
      earlier = s.earlier;
    }
  where
    there : (i : ℕ) → Contains order i ⊎ IsMarked left i → Contains order i
    there i (inl c) = c
    there i (inr m) = absurd (none i m)

-- ---- the edges of the marked nodes alone

pub part_begins : (graph : List (List ℕ)) (marks : List Bool) (part : List (List ℕ)) → part ≡ [] → IsPart graph marks 0 part
part_begins graph marks part none = record { size = ap length none; rows = λ i h. absurd (omega arith) }

pub part_more : (graph : List (List ℕ)) (marks : List Bool) (nodes : ℕ) (part after : List (List ℕ)) (row : List ℕ) (b : Bool) → after ≡ part ++ row ∷ [] → row ≡ cond b (ends_of graph nodes) [] → b ≡ get_or marks nodes false
    → IsPart graph marks nodes part → IsPart graph marks (nodes + 1) after
part_more graph marks nodes part after row b now is mark p =
    subst (IsPart graph marks (nodes + 1)) (sym now)
    (record { size = omega (arith, length_push part row, p.size); rows = λ i h. at i h (cases_lt i nodes) })
  where
    at : (i : ℕ) → i < nodes + 1 → (i < nodes) ⊎ (nodes ≤ i) → ends_of (part ++ row ∷ []) i ≡ cond (get_or marks i false) (ends_of graph i) []
    at i h (inl early) = get_or_append_left part (row ∷ []) [] i (omega (arith, early, p.size)) ∙ p.rows i early
    at i h (inr late) =
        let here : i ≡ length part = omega (arith, p.size) in
        let same : nodes ≡ i = omega arith in
        ap (λ (j : ℕ). ends_of (part ++ row ∷ []) j) here
        ∙ (get_or-append_seam part row [] [] ∙ (is ∙ (ap (λ (c : Bool). cond c (ends_of graph nodes) []) mark ∙ ap (λ (j : ℕ). cond (get_or marks j false) (ends_of graph j) []) same)))

module _ (graph part : List (List ℕ)) (marks : List Bool) (is : IsGraph graph) (size : length marks ≡ length graph) (closed : IsClosed graph marks) (p : IsPart graph marks (length graph) part) where
  whole_row : (i : ℕ) → IsMarked marks i → ends_of part i ≡ ends_of graph i
  whole_row i m = p.rows i (omega (arith, marked_within marks i m, size)) ∙ cond-true (get_or marks i false) (ends_of graph i) [] m

  part_edge : (i j : ℕ) → Contains (ends_of part i) j → IsMarked marks i × Contains (ends_of graph i) j
  part_edge i j c = at (cases_Bool (get_or marks i false))
    where
      within : i < length graph
      within = omega (arith, edge_within part i j c, p.size)

      at : (get_or marks i false ≡ true) ⊎ (get_or marks i false ≡ false) → IsMarked marks i × Contains (ends_of graph i) j
      at (inl m) = (m, subst (λ (l : List ℕ). Contains l j) (whole_row i m) c)
      at (inr none) = absurd (none_among j (subst (λ (l : List ℕ). Contains l j) (p.rows i within ∙ cond-false (get_or marks i false) (ends_of graph i) [] none) c))

  chain_of_part : (n a b : ℕ) → Chain part n a b → Chain graph n a b
  chain_of_part zero a b same = same
  chain_of_part (suc n) a b (c, chain, last) = (c, chain_of_part n a c chain, (part_edge c b last).1)

  chain_in_part : (n a b : ℕ) → IsMarked marks a → Chain graph n a b → Chain part n a b × IsMarked marks b
  chain_in_part zero a b m same = (same, subst (λ (x : ℕ). IsMarked marks x) same m)
  chain_in_part (suc n) a b m (c, chain, last) =
      let r = chain_in_part n a c m chain in
      ((c, r.0, subst (λ (l : List ℕ). Contains l b) (sym (whole_row c r.1)) last), closed c b r.1 last)

  in_part : (i : ℕ) → IsMarked marks i → IsOnCycle graph i → IsOnCycle part i
  in_part i m (n, chain) = (n, (chain_in_part (suc n) i i m chain).0)

  of_part : (i : ℕ) → IsOnCycle part i → IsMarked marks i × IsOnCycle graph i
  of_part i (n, (c, chain, last)) = let e = part_edge c i last in (closed c i e.0 e.1, (n, chain_of_part (suc n) i i (c, chain, last)))

  pub part_is_graph : IsGraph part
  part_is_graph =
      All-from_get_or (λ ends. All (λ k. k < length part) ends) part []
      (λ i h. All-from_get_or (λ k. k < length part) (ends_of part i) 0 (λ k inside. within i (get_or (ends_of part i) k 0) (Contains-get_or (ends_of part i) k 0 inside)))
    where
      within : (i j : ℕ) → Contains (ends_of part i) j → j < length part
      within i j c = let e = part_edge i j c in omega (arith, p.size, end_within graph is i j (edge_within graph i j e.1) e.1)

  pub first_of_part : (i : ℕ) → IsFirst part i → IsFirstOnCycle graph marks i
  first_of_part i f =
      let w = of_part i f.on_cycle in
      record { marked = w.0; on_cycle = w.1; none_before = λ k h m c. f.none_before k h (in_part k m c) }

  pub some_in_part : (k : ℕ) × IsMarked marks k × IsOnCycle graph k → ((i : ℕ) → IsOnCycle part i → ⊥) → ⊥
  some_in_part (k, m, c) none = none k (in_part k m c)
