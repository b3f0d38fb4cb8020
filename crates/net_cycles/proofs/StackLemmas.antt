-- The stack of a depth-first search.
use Rattle.std.proofs.Common.{◌≡◌, ◌⊎◌, ◌==◌, ◌&&◌, inl, inr, refl, sym, ◌∙◌, ap, subst, ℕ, zero, suc, ◌+◌, Bool, true, false, List, [], ◌∷◌, ◌++◌, map, ◌≤◌, arith, IsTrue, Contains}
use Rattle.std.specs.List.{sum_by}
use Rattle.std.proofs.lemmas.List.Elements.{Contains-append_left, Contains-append_right, Contains-append_cases, Contains-push, Contains-push_cases}
use Rattle.std.proofs.lemmas.List.Sums.{sum_by-append, sum_by-cons, sum_by_push}
use Rattle.std.proofs.lemmas.Bool.{and_parts, cases_Bool, eqb-true}
use Rattle.net_graph.specs.Chains.{IsMarked, LeadsTo, ends_of}
use Rattle.net_graph.proofs.ChainLemmas.{chain-append}
use Rattle.net_graph.proofs.MarkLemmas.{none_among}
use Rattle.net_order.proofs.OrderLemmas.{bit_of}
use Rattle.net_cycles.specs.Visits.{opened, opening, to_enter}
use Rattle.net_cycles.specs.declared.finish.Visit.{Visit}

pub leads_on : (graph : List (List ℕ)) (a b c : ℕ) → LeadsTo graph a b → LeadsTo graph b c → LeadsTo graph a c
leads_on graph a b c x y = (x.0 + y.0, chain-append graph x.0 y.0 a b c x.1 y.1)

pub leads_along : (graph : List (List ℕ)) (a b c : ℕ) → LeadsTo graph a b → Contains (ends_of graph b) c → LeadsTo graph a c
leads_along graph a b c x e = (suc x.0, (b, x.1, e))

pub leads_by : (graph : List (List ℕ)) (a b : ℕ) → Contains (ends_of graph a) b → LeadsTo graph a b
leads_by graph a b e = (1, (a, refl, e))

-- What stands above an open node is led to by it, and each of its ends has been entered or stands there.
pub record Covers (graph : List (List ℕ)) (marks : List Bool) (v : ℕ) (above : List Visit) : Type 0 where
  pub reaches : (t : Visit) → Contains above t → LeadsTo graph v t.node
  pub ends : (b : ℕ) → Contains (ends_of graph v) b → IsMarked marks b ⊎ ((t : Visit) × Contains above t × (t.node ≡ b))

abbrev pub Stands : List (List ℕ) → List Bool → List Visit → Type 0
Stands graph marks [] = Unit {0}
Stands graph marks (s ∷ above) = (IsTrue s.is_open → Covers graph marks s.node above) × Stands graph marks above

pub next_in : {X : Type 0} (x : X) (xs : List X) (k : X) → Contains xs k → Contains (x ∷ xs) k
next_in x xs k c = Contains-append_right (x ∷ []) xs k c

pub first_in : {X : Type 0} (x : X) (xs : List X) → Contains (x ∷ xs) x
first_in x xs = (0, omega arith, refl)

pub none_open : (graph : List (List ℕ)) (marks : List Bool) (xs : List Visit) → ((t : Visit) → Contains xs t → t.is_open ≡ false) → Stands graph marks xs
none_open graph marks [] h = tt
none_open graph marks (x ∷ xs) h = (λ o. absurd (let shut = h x (first_in x xs) in cc), none_open graph marks xs (λ t c. h t (next_in x xs t c)))

pub entered : (es : List ℕ) (t : Visit) → Contains (map to_enter es) t → (t ≡ to_enter t.node) × Contains es t.node
entered [] t c = absurd (none_among t c)
entered (e ∷ es) t (zero, inside, same) = (sym same ∙ ap (λ (u : Visit). to_enter u.node) same, subst (λ (u : Visit). Contains (e ∷ es) u.node) same (first_in e es))
entered (e ∷ es) t (suc k, inside, same) = let r = entered es t (k, omega arith, same) in (r.0, next_in e es t.node r.1)

pub enters : (es : List ℕ) (e : ℕ) → Contains es e → Contains (map to_enter es) (to_enter e)
enters [] e c = absurd (none_among e c)
enters (x ∷ es) e (zero, inside, same) = subst (λ (j : ℕ). Contains (map to_enter (x ∷ es)) (to_enter j)) same (first_in (to_enter x) (map to_enter es))
enters (x ∷ es) e (suc k, inside, same) = next_in (to_enter x) (map to_enter es) (to_enter e) (enters es e (k, omega arith, same))

entered_shut : (es : List ℕ) (t : Visit) → Contains (map to_enter es) t → t.is_open ≡ false
entered_shut es t c = ap (λ (u : Visit). u.is_open) (entered es t c).0

pub opening_stands : (graph : List (List ℕ)) (marks : List Bool) (v : ℕ) → Stands graph marks (opening graph v)
opening_stands graph marks v = (
  λ o.
      record {
        reaches = λ t c. leads_by graph v t.node (entered (ends_of graph v) t c).1;
        ends = λ b e. inr (to_enter b, enters (ends_of graph v) b e, refl);
      },
  none_open graph marks (map to_enter (ends_of graph v)) (entered_shut (ends_of graph v)),
)

pub opening_reached : (graph : List (List ℕ)) (v : ℕ) (t : Visit) → Contains (opening graph v) t → LeadsTo graph v t.node
opening_reached graph v t (zero, inside, same) = subst (λ (u : Visit). LeadsTo graph v u.node) same (0, refl)
opening_reached graph v t (suc k, inside, same) = leads_by graph v t.node (entered (ends_of graph v) t (k, omega arith, same)).1

-- The top is taken off, and what it leads to is put there.
module _ (graph : List (List ℕ)) (marks marks' : List Bool) (t : Visit) (more : List Visit) (kept : (k : ℕ) → IsMarked marks k → IsMarked marks' k) (here : IsMarked marks' t.node)
    (reached : (u : Visit) → Contains more u → LeadsTo graph t.node u.node) (new : Stands graph marks' more) where
  pub top_changed : (xs : List Visit) → Stands graph marks (xs ++ t ∷ []) → Stands graph marks' (xs ++ more)
  top_changed [] st = new
  top_changed (s ∷ xs) (h, rest) = (λ o. covers (h o), top_changed xs rest)
    where
      covers : Covers graph marks s.node (xs ++ t ∷ []) → Covers graph marks' s.node (xs ++ more)
      covers c = record { reaches = λ u m. reach u (Contains-append_cases xs more u m); ends = λ b e. end b (c.ends b e) }
        where
          reach : (u : Visit) → Contains xs u ⊎ Contains more u → LeadsTo graph s.node u.node
          reach u (inl m) = c.reaches u (Contains-append_left xs (t ∷ []) u m)
          reach u (inr m) = leads_on graph s.node t.node u.node (c.reaches t (Contains-push xs t)) (reached u m)

          below : (b : ℕ) (u : Visit) → u.node ≡ b → Contains xs u ⊎ (t ≡ u) → IsMarked marks' b ⊎ ((w : Visit) × Contains (xs ++ more) w × (w.node ≡ b))
          below b u same (inl m) = inr (u, Contains-append_left xs more u m, same)
          below b u same (inr is) = inl (subst (λ (j : ℕ). IsMarked marks' j) (ap (λ (w : Visit). w.node) is ∙ same) here)

          end : (b : ℕ) → IsMarked marks b ⊎ ((u : Visit) × Contains (xs ++ t ∷ []) u × (u.node ≡ b)) → IsMarked marks' b ⊎ ((w : Visit) × Contains (xs ++ more) w × (w.node ≡ b))
          end b (inl m) = inl (kept b m)
          end b (inr (u, m, same)) = below b u same (Contains-push_cases xs t u m)

-- An open node leads to the top.
pub leads_to_top : (graph : List (List ℕ)) (marks : List Bool) (xs : List Visit) (t s : Visit) → Stands graph marks (xs ++ t ∷ []) → Contains xs s → IsTrue s.is_open → LeadsTo graph s.node t.node
leads_to_top graph marks [] t s st c o = absurd (none_among s c)
leads_to_top graph marks (x ∷ xs) t s (h, rest) (zero, inside, same) o =
    let c : Covers graph marks x.node (xs ++ t ∷ []) = h (subst (λ (u : Visit). IsTrue u.is_open) (sym same) o) in
    subst (λ (u : Visit). LeadsTo graph u.node t.node) same (c.reaches t (Contains-push xs t))
leads_to_top graph marks (x ∷ xs) t s (h, rest) (suc k, inside, same) o = leads_to_top graph marks xs t s rest (k, omega arith, same) o

-- All ends of an open node at the top have been entered.
pub top_done : (graph : List (List ℕ)) (marks : List Bool) (xs : List Visit) (t : Visit) → Stands graph marks (xs ++ t ∷ []) → IsTrue t.is_open → (b : ℕ) → Contains (ends_of graph t.node) b → IsMarked marks b
top_done graph marks [] t (h, rest) o b e = at ((h o).ends b e)
  where
    at : IsMarked marks b ⊎ ((u : Visit) × Contains [] u × (u.node ≡ b)) → IsMarked marks b
    at (inl m) = m
    at (inr (u, c, same)) = absurd (none_among u c)
top_done graph marks (x ∷ xs) t (h, rest) o b e = top_done graph marks xs t rest o b e

-- ---- how often a node is open

abbrev pub open_bit : ℕ → Visit → ℕ
open_bit k s = bit_of (s.is_open && (s.node == k))

abbrev pub times_open : ℕ → List Visit → ℕ
times_open k stack = sum_by (open_bit k) stack

shut_bit : (k : ℕ) (s : Visit) → s.is_open ≡ false → open_bit k s ≡ 0
shut_bit k s shut = ap (λ (b : Bool). bit_of (b && (s.node == k))) shut

pub none_times : (k : ℕ) (xs : List Visit) → ((t : Visit) → Contains xs t → t.is_open ≡ false) → times_open k xs ≡ 0
none_times k [] h = refl
none_times k (x ∷ xs) h = omega (arith, sum_by-cons (open_bit k) x xs, shut_bit k x (h x (first_in x xs)), none_times k xs (λ t c. h t (next_in x xs t c)))

pub opening_times : (graph : List (List ℕ)) (v k : ℕ) → times_open k (opening graph v) ≡ bit_of (v == k)
opening_times graph v k =
    let one : times_open k (opening graph v) ≡ bit_of (v == k) + times_open k (map to_enter (ends_of graph v)) = sum_by-cons (open_bit k) (opened v) (map to_enter (ends_of graph v)) in
    omega (arith, one, none_times k (map to_enter (ends_of graph v)) (entered_shut (ends_of graph v)))

pub shut_times : (k : ℕ) (xs : List Visit) (t : Visit) → t.is_open ≡ false → times_open k (xs ++ t ∷ []) ≡ times_open k xs
shut_times k xs t shut = omega (arith, sum_by_push (open_bit k) xs t, shut_bit k t shut)

pub open_times : (k : ℕ) (xs : List Visit) (t : Visit) → t.is_open ≡ true → times_open k (xs ++ t ∷ []) ≡ times_open k xs + bit_of (t.node == k)
open_times k xs t o = sum_by_push (open_bit k) xs t ∙ ap (λ (b : Bool). times_open k xs + bit_of (b && (t.node == k))) o

pub more_times : (k : ℕ) (xs ys : List Visit) → times_open k (xs ++ ys) ≡ times_open k xs + times_open k ys
more_times k xs ys = sum_by-append (open_bit k) xs ys

-- where it is open
abbrev IsOpenIn : List Visit → ℕ → Type 0
IsOpenIn xs k = (s : Visit) × Contains xs s × IsTrue s.is_open × (s.node ≡ k)

open_cases : (x : Visit) (xs : List Visit) (k : ℕ) → ((x.is_open && (x.node == k)) ≡ true) ⊎ ((x.is_open && (x.node == k)) ≡ false) → (open_bit k x ≡ 0 → IsOpenIn xs k) → IsOpenIn (x ∷ xs) k
open_cases x xs k (inl here) rest = let both = and_parts x.is_open (x.node == k) here in (x, first_in x xs, both.0, eqb-true x.node k both.1)
open_cases x xs k (inr not_here) rest = let r = rest (ap (λ (b : Bool). bit_of b) not_here) in (r.0, next_in x xs r.0 r.1, r.2, r.3)

pub is_open_somewhere : (xs : List Visit) (k : ℕ) → 1 ≤ times_open k xs → (s : Visit) × Contains xs s × IsTrue s.is_open × (s.node ≡ k)
is_open_somewhere [] k h = absurd (omega arith)
is_open_somewhere (x ∷ xs) k h =
    let whole : times_open k (x ∷ xs) ≡ open_bit k x + times_open k xs = sum_by-cons (open_bit k) x xs in
    open_cases x xs k (cases_Bool (x.is_open && (x.node == k))) (λ none. is_open_somewhere xs k (omega (arith, h, whole, none)))
