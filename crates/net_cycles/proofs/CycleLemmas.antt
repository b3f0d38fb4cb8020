-- An edge is part of a cycle where both its nodes have one root.
use Rattle.std.proofs.Common.{◌≡◌, ◌==◌, ◌⊎◌, inl, inr, refl, sym, ◌∙◌, ap, subst, ℕ, zero, suc, ◌+◌, ◌<◌, ◌≤◌, Bool, cond, List, [], ◌∷◌, length, get_or, take, count_by, All, Option, Some, None, arith, Contains}
use Rattle.std.specs.Option.{IfNone, IfSome}
use Rattle.std.proofs.lemmas.Bool.{cases_eq, cases_lt, eq-eqb}
use Rattle.std.proofs.lemmas.List.{get_or_default}
use Rattle.std.proofs.lemmas.List.Elements.{All-from_get_or, Contains-get_or}
use Rattle.std.proofs.lemmas.List.Sums.{count_by_more_yes, sum_by-take-le}
use Rattle.net_graph.specs.Chains.{Chain, IsGraph, LeadsTo, ends_of}
use Rattle.net_graph.proofs.ChainLemmas.{chain-append, chain-split}
use Rattle.net_order.proofs.OrderLemmas.{contained_counts}
use Rattle.net_cycles.specs.Cycles.{IsFirstOnCycle, IsOnCycle}
use Rattle.net_cycles.specs.Finished.{IsFinished}
use Rattle.net_cycles.specs.Reversed.{IsReversed}
use Rattle.net_cycles.specs.Roots.{AreRoots, HasRootedEdge, IsFirstRooted, IsRootAt}
use Rattle.net_cycles.proofs.FinishLemmas.{end_within}
use Rattle.net_cycles.proofs.ReverseLemmas.{edge_within, from_back, to_back}
use Rattle.net_cycles.proofs.StackLemmas.{first_in, leads_along, leads_by, leads_on, next_in}

-- ---- the first elements of a list, by their places

in_front : (xs : List ℕ) (k i : ℕ) → i < k → i < length xs → Contains (take k xs) (get_or xs i 0)
in_front xs zero i below inside = absurd (omega arith)
in_front [] (suc k) i below inside = absurd (omega arith)
in_front (x ∷ xs) (suc k) zero below inside = first_in x (take k xs)
in_front (x ∷ xs) (suc k) (suc i) below inside = next_in x (take k xs) (get_or xs i 0) (in_front xs k i (omega arith) (omega arith))

from_front : (xs : List ℕ) (k x : ℕ) → Contains (take k xs) x → (i : ℕ) × (i < k) × (i < length xs) × (get_or xs i 0 ≡ x)
from_front xs zero x (p, inside, e) = absurd (omega arith)
from_front [] (suc k) x (p, inside, e) = absurd (omega arith)
from_front (y ∷ ys) (suc k) x (zero, inside, e) = (0, omega arith, omega arith, e)
from_front (y ∷ ys) (suc k) x (suc p, inside, e) = let r = from_front ys k x (p, omega arith, e) in (suc r.0, omega (arith, r.1), omega (arith, r.2), r.3)

-- ---- a list of nodes as a search leaves them

module _ (graph : List (List ℕ)) (order : List ℕ) (is : IsGraph graph) (f : IsFinished graph order) where
  place : (k : ℕ) → k < length graph → (p : ℕ) × (p < length order) × (get_or order p 0 ≡ k)
  place k h = let c = f.each k h in (c.0, c.1, get_or_default order c.0 0 k c.1 ∙ c.2)

  distinct : (i j : ℕ) → i < j → j < length order → get_or order i 0 ≡ get_or order j 0 → ⊥
  distinct i j below inside same =
      let k : ℕ = get_or order j 0 in
      let p : ℕ → Bool = λ x. x == k in
      let early : Contains (take j order) k = subst (λ (x : ℕ). Contains (take j order) x) same (in_front order j i below (omega arith)) in
      let one : 1 ≤ count_by p (take j order) = contained_counts (take j order) k early in
      let more : count_by p (take (j + 1) order) ≡ count_by p (take j order) + 1 = count_by_more_yes p order j 0 inside (eq-eqb k k refl) in
      let all : count_by p (take (j + 1) order) ≤ count_by p order = (let g : ℕ → ℕ = λ x. cond (p x) 1 0 in sum_by-take-le g order (j + 1)) in
      let most : count_by p order ≤ 1 = f.once k in
      absurd (omega arith)

  -- A chain from the node at a place stays up to there, or comes to a later place whose node leads back.
  abbrev Leaves : ℕ → ℕ → Type 0
  Leaves i b = (p : ℕ) × (i < p) × (p < length order) × LeadsTo graph (get_or order i 0) (get_or order p 0) × LeadsTo graph (get_or order p 0) b × LeadsTo graph (get_or order p 0) (get_or order i 0)

  at_place : (i b c : ℕ) → i < length order → (p : ℕ) × (p < length order) × (get_or order p 0 ≡ b) → LeadsTo graph (get_or order i 0) b → Contains (take (i + 1) order) c → Contains (ends_of graph c) b → Contains (take (i + 1) order) b ⊎ Leaves i b
  at_place i b c inside (p, h, same) lead from e = split (cases_lt p (i + 1)) (f.leads i inside c b from e)
    where
      split : (p < i + 1) ⊎ (i + 1 ≤ p) → Contains (take (i + 1) order) b ⊎ LeadsTo graph b (get_or order i 0) → Contains (take (i + 1) order) b ⊎ Leaves i b
      split (inl early) w = inl (subst (λ (x : ℕ). Contains (take (i + 1) order) x) same (in_front order (i + 1) p early h))
      split (inr late) (inl c) = inl c
      split (inr late) (inr w) =
          inr (
            p,
            omega arith,
            h,
            subst (λ (x : ℕ). LeadsTo graph (get_or order i 0) x) (sym same) lead,
            (0, same),
            subst (λ (x : ℕ). LeadsTo graph x (get_or order i 0)) (sym same) w,
          )

  goes_on : (i b c : ℕ) → i < length order → b < length graph → LeadsTo graph (get_or order i 0) b → Contains (ends_of graph c) b → Contains (take (i + 1) order) c ⊎ Leaves i c → Contains (take (i + 1) order) b ⊎ Leaves i b
  goes_on i b c inside h lead e (inl from) = at_place i b c inside (place b h) lead from e
  goes_on i b c inside h lead e (inr (p, later, within, to, on, back)) = inr (p, later, within, to, leads_along graph (get_or order p 0) c b on e, back)

  leaves : (i : ℕ) → i < length order → (n b : ℕ) → Chain graph n (get_or order i 0) b → Contains (take (i + 1) order) b ⊎ Leaves i b
  leaves i inside zero b same = inl (subst (λ (x : ℕ). Contains (take (i + 1) order) x) same (in_front order (i + 1) i (omega arith) inside))
  leaves i inside (suc n) b (c, chain, last) =
      goes_on i b c inside (end_within graph is c b (edge_within graph c b last) last) (suc n, (c, chain, last)) last (leaves i inside n c chain)

  abbrev IsLastFrom : ℕ → ℕ → Type 0
  IsLastFrom i j = (m : ℕ) → m < length order → LeadsTo graph (get_or order i 0) (get_or order m 0) → m ≤ j

  -- The last place to which a node leads is one of a node that leads back.
  leads_back : (d i j : ℕ) → j ≤ i + d → i < length order → j < length order → LeadsTo graph (get_or order i 0) (get_or order j 0) → IsLastFrom i j → LeadsTo graph (get_or order j 0) (get_or order i 0)
  leads_back zero i j near inside within lead last =
      let low : i ≤ j = last i inside (0, refl) in
      let same : i ≡ j = omega arith in
      (0, ap (λ (x : ℕ). get_or order x 0) (sym same))
  leads_back (suc d) i j near inside within lead last = split (cases_eq i j) (leaves i inside lead.0 (get_or order j 0) lead.1) (λ p. leads_back d p j)
    where
      again : Leaves i (get_or order j 0)
          → ((p : ℕ) → j ≤ p + d → p < length order → j < length order → LeadsTo graph (get_or order p 0) (get_or order j 0) → IsLastFrom p j → LeadsTo graph (get_or order j 0) (get_or order p 0))
          → LeadsTo graph (get_or order j 0) (get_or order i 0)
      again (p, later, h, to, on, back) step =
          leads_on graph (get_or order j 0) (get_or order p 0) (get_or order i 0)
          (step p (omega arith) h within on (λ m high w. last m high (leads_on graph (get_or order i 0) (get_or order p 0) (get_or order m 0) to w)))
          back

      split : (i ≡ j) ⊎ (i ≡ j → ⊥) → Contains (take (i + 1) order) (get_or order j 0) ⊎ Leaves i (get_or order j 0)
          → ((p : ℕ) → j ≤ p + d → p < length order → j < length order → LeadsTo graph (get_or order p 0) (get_or order j 0) → IsLastFrom p j → LeadsTo graph (get_or order j 0) (get_or order p 0))
          → LeadsTo graph (get_or order j 0) (get_or order i 0)
      split (inl same) w step = (0, ap (λ (x : ℕ). get_or order x 0) (sym same))
      split (inr ne) (inl c) step = let w = from_front order (i + 1) (get_or order j 0) c in absurd (let lo : i ≤ j = last i inside (0, refl) in let early = w.1 in distinct w.0 j (omega (arith, ne, lo, early)) within w.3)
      split (inr ne) (inr l) step = again l step

  -- ---- roots

  module _ (back : List (List ℕ)) (roots : List ℕ) (r : IsReversed graph back) (are : AreRoots back order roots) where
    root_at : (k : ℕ) → k < length graph → (at : ℕ) × IsRootAt back order k (get_or roots k 0) at
    root_at k h = are.each k (omega (arith, h, r.size))

    root_leads : (k : ℕ) → k < length graph → LeadsTo graph (get_or roots k 0) k
    root_leads k h = at (root_at k h) (place k h)
      where
        at : (at : ℕ) × IsRootAt back order k (get_or roots k 0) at → (p : ℕ) × (p < length order) × (get_or order p 0 ≡ k) → LeadsTo graph (get_or roots k 0) k
        at (j, w) (p, inside, same) =
            let to : LeadsTo graph (get_or order p 0) (get_or order j 0)
            = subst (λ (x : ℕ). LeadsTo graph x (get_or order j 0)) (sym same) (subst (λ (x : ℕ). LeadsTo graph k x) w.is (from_back graph back r (get_or roots k 0) k w.leads)) in
            let found : LeadsTo graph (get_or order j 0) (get_or order p 0)
            = leads_back j p j (omega arith) inside w.inside to
            (λ m high x. w.last m high (to_back graph back r k (get_or order m 0) (subst (λ (y : ℕ). LeadsTo graph y (get_or order m 0)) same x))) in
            subst (λ (x : ℕ). LeadsTo graph x k) (sym w.is) (subst (λ (x : ℕ). LeadsTo graph (get_or order j 0) x) same found)

    to_root : (k : ℕ) → k < length graph → LeadsTo graph k (get_or roots k 0)
    to_root k h = let w = root_at k h in from_back graph back r (get_or roots k 0) k w.1.leads

    same_root_back : (a b : ℕ) → a < length graph → b < length graph → get_or roots b 0 ≡ get_or roots a 0 → LeadsTo graph b a
    same_root_back a b ha hb same = leads_on graph b (get_or roots a 0) a (subst (λ (x : ℕ). LeadsTo graph b x) same (to_root b hb)) (root_leads a ha)

    earlier : (a b i j : ℕ) → LeadsTo graph a b → IsRootAt back order a (get_or roots a 0) i → IsRootAt back order b (get_or roots b 0) j → j ≤ i
    earlier a b i j lead x y =
        x.last j y.inside
        (to_back graph back r a (get_or order j 0) (leads_on graph a b (get_or order j 0) lead (subst (λ (z : ℕ). LeadsTo graph b z) y.is (from_back graph back r (get_or roots b 0) b y.leads))))

    back_same_root : (a b : ℕ) → a < length graph → b < length graph → LeadsTo graph a b → LeadsTo graph b a → get_or roots b 0 ≡ get_or roots a 0
    back_same_root a b ha hb to fro =
        let x = root_at a ha in
        let y = root_at b hb in
        let one : y.0 ≤ x.0 = earlier a b x.0 y.0 to x.1 y.1 in
        let two : x.0 ≤ y.0 = earlier b a y.0 x.0 fro y.1 x.1 in
        let same : y.0 ≡ x.0 = omega arith in
        y.1.is ∙ (ap (λ (p : ℕ). get_or order p 0) same ∙ sym x.1.is)

    pub rooted_is_cycle : (a : ℕ) → HasRootedEdge graph roots a → IsOnCycle graph a
    rooted_is_cycle a (b, e, same) =
        let ha : a < length graph = edge_within graph a b e in
        let hb : b < length graph = end_within graph is a b ha e in
        let w : LeadsTo graph b a = same_root_back a b ha hb same in
        let whole : 1 + w.0 ≡ suc w.0 = omega arith in
        (w.0, subst (λ (n : ℕ). Chain graph n a a) whole (chain-append graph 1 w.0 a b a (a, refl, e) w.1))

    pub cycle_is_rooted : (a : ℕ) → IsOnCycle graph a → HasRootedEdge graph roots a
    cycle_is_rooted a (n, chain) =
        let whole : suc n ≡ 1 + n = omega arith in
        let parts = chain-split graph 1 n a a (subst (λ (m : ℕ). Chain graph m a a) whole chain) in
        found parts.0 parts.1 (n, parts.2)
      where
        found : (b : ℕ) → Chain graph 1 a b → LeadsTo graph b a → HasRootedEdge graph roots a
        found b (c, same, last) w =
            let e : Contains (ends_of graph a) b = subst (λ (x : ℕ). Contains (ends_of graph x) b) (sym same) last in
            let ha : a < length graph = edge_within graph a b e in
            let hb : b < length graph = end_within graph is a b ha e in
            (b, e, back_same_root a b ha hb (leads_by graph a b e) w)

    pub first_is_first : (a : ℕ) → IsFirstRooted graph roots a → IsFirstOnCycle graph a
    first_is_first a w = record { on_cycle = rooted_is_cycle a w.rooted; none_before = λ k h c. w.none_before k h (cycle_is_rooted k c) }

    pub none_is_none : ((a : ℕ) → a < length graph → HasRootedEdge graph roots a → ⊥) → (a : ℕ) → IsOnCycle graph a → ⊥
    none_is_none none a c = let w = cycle_is_rooted a c in none a (edge_within graph a w.0 w.1) w

-- ---- what is told

pub order_nodes : (graph back : List (List ℕ)) (order seen : List ℕ) → seen ≡ order → IsFinished graph order → IsReversed graph back → All (λ k. k < length back) seen
order_nodes graph back order seen same f r =
    subst (All (λ k. k < length back)) (sym same)
    (All-from_get_or (λ k. k < length back) order 0 (λ i h. omega (arith, r.size, f.within (get_or order i 0) (Contains-get_or order i 0 h))))

pub order_each : (graph back : List (List ℕ)) (order seen : List ℕ) → seen ≡ order → IsFinished graph order → IsReversed graph back → (k : ℕ) → k < length back → Contains seen k
order_each graph back order seen same f r k h = subst (λ (l : List ℕ). Contains l k) (sym same) (f.each k (omega (arith, h, r.size)))

pub none_told : (told : Option ℕ) (P Q : Type 0) → (P → Q) → IfNone told P → IfNone told Q
none_told None P Q f p = f p
none_told (Some k) P Q f p = tt

pub some_told : (told : Option ℕ) (P Q : ℕ → Type 0) → ((k : ℕ) → P k → Q k) → IfSome told P → IfSome told Q
some_told None P Q f p = tt
some_told (Some k) P Q f p = f k p
