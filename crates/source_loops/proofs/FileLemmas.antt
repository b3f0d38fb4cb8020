-- The models of a file, as far as they are settled.
use Rattle.std.proofs.Common.{◌≡◌, ◌⊎◌, inl, inr, refl, sym, ◌∙◌, ap, subst, ℕ, zero, suc, ◌+◌, ◌<◌, ◌≤◌, Bool, true, false, List, [], ◌∷◌, ◌++◌, length, get_or, take, Some, slice_get, IsTrue, arith, length-append}
use Rattle.std.specs.List.{AllByRecursion}
use Rattle.std.proofs.lemmas.Option.{slice_get_within}
use Rattle.netlist_spec.specs.Netlist.{Name, Model, File}
use Rattle.netlist_spec.specs.Covers.{Library}
use Rattle.netlist_spec.specs.Sound.{HasOneDriverEach, IsLoop, IsUsed}
use Rattle.netlist_spec.specs.SoundFaults.{IsFirstUsed, IsWalkedLoop}
use Rattle.source_laws.proofs.Order.{no_loop}
use Rattle.source_nets.specs.Survey.{AreUsedMarks}
use Rattle.source_tests.proofs.FirstLemmas.{FindsNothing, one_more, found_at, used_among}
use Rattle.source_loops.specs.Orders.{statements_at, IsModelOrder, AreOrders}
use Rattle.source_loops.proofs.NumberLemmas.{at_place}

pushed_cases : {A : Type 0} (xs : List A) (x y : A) (i : ℕ) → slice_get (xs ++ x ∷ []) i ≡ Some y → (slice_get xs i ≡ Some y) ⊎ ((i ≡ length xs) × (x ≡ y))
pushed_cases [] x y zero e = let same : x ≡ y = cc e in inr (refl, same)
pushed_cases [] x y (suc i) e = cc e
pushed_cases (z ∷ xs) x y zero e = inl e
pushed_cases {A = A} (z ∷ xs) x y (suc i) e = at (pushed_cases xs x y i e)
  where
    at : (slice_get xs i ≡ Some y) ⊎ ((i ≡ length xs) × (x ≡ y)) → (slice_get xs i ≡ Some y) ⊎ ((suc i ≡ suc (length xs)) × (x ≡ y))
    at (inl h) = inl h
    at (inr h) = inr (ap suc h.0, h.1)

pub record OrdersSoFar (file : File) (library : Library) (used : List Bool) (place : ℕ) (orders : List (List ℕ)) : Type 0 where
  pub size : length orders ≡ place
  pub order : (i : ℕ) (m : Model) (order : List ℕ) → slice_get file.models i ≡ Some m → slice_get orders i ≡ Some order → IsTrue (get_or used i false) → IsModelOrder file library m order
  pub unused : (i : ℕ) (order : List ℕ) → slice_get orders i ≡ Some order → get_or used i false ≡ false → order ≡ []
  pub none_before : AllByRecursion (FindsNothing file (λ m ns. IsWalkedLoop file library m ns)) (take place file.models)

some_at : {A : Type 0} (xs : List A) (i : ℕ) → i < length xs → (x : A) × (slice_get xs i ≡ Some x)
some_at [] i h = absurd (omega (arith, h))
some_at (x ∷ xs) zero h = (x, refl)
some_at (x ∷ xs) (suc i) h = some_at xs i (omega (arith, h))

module _ (file : File) (library : Library) (used : List Bool) where
  abbrev Walks : Model → List Name → Type 0
  Walks m ns = IsWalkedLoop file library m ns

  pub so_far_none : OrdersSoFar file library used 0 []
  so_far_none = record { size = refl; order = λ i m order at there. cc there; unused = λ i order there. cc there; none_before = tt }

  module _ (marks : AreUsedMarks file used) (one : (m : Model) → IsUsed file m → HasOneDriverEach file library m) where
    -- a model with an order has no loop
    ordered_has_none : (m : Model) (order : List ℕ) → IsUsed file m → IsModelOrder file library m order → ((ns : List Name) → IsLoop file library m ns → ⊥) × ((ns : List Name) → IsWalkedLoop file library m ns → ⊥)
    ordered_has_none m order u o =
        let none = no_loop file library m (one m u) (statements_at m order) o.ordered o.others in
        (none.0, λ ns w. none.1 w.start w.is_start.unsettled)

    pub so_far_more : (place : ℕ) (orders : List (List ℕ)) (new : List ℕ) → place < length file.models → ((m : Model) → slice_get file.models place ≡ Some m → IsTrue (get_or used place false) → IsModelOrder file library m new)
        → (get_or used place false ≡ false → new ≡ []) → OrdersSoFar file library used place orders → OrdersSoFar file library used (place + 1) (orders ++ new ∷ [])
    so_far_more place orders new inside is_order is_none s =
        record {
          size = length-append orders (new ∷ []) ∙ ap (λ n. n + 1) s.size;
          order = λ i m order at there u. ordered i m order at u (pushed_cases orders new order i there);
          unused = λ i order there u. no_places i order u (pushed_cases orders new order i there);
          none_before = one_more file Walks place here.0 here.1 (λ u. (ordered_has_none here.0 new u (is_order here.0 here.1 ((marks.marked place here.0 here.1).1 u))).1) s.none_before;
        }
      where
        here : (m : Model) × (slice_get file.models place ≡ Some m)
        here = some_at file.models place inside

        ordered : (i : ℕ) (m : Model) (order : List ℕ) → slice_get file.models i ≡ Some m → IsTrue (get_or used i false) → (slice_get orders i ≡ Some order) ⊎ ((i ≡ length orders) × (new ≡ order)) → IsModelOrder file library m order
        ordered i m order at u (inl there) = s.order i m order at there u
        ordered i m order at u (inr last) =
            let same : i ≡ place = last.0 ∙ s.size in
            subst (IsModelOrder file library m) last.1 (is_order m (subst (λ j. slice_get file.models j ≡ Some m) same at) (subst (λ j. get_or used j false ≡ true) same u))

        no_places : (i : ℕ) (order : List ℕ) → get_or used i false ≡ false → (slice_get orders i ≡ Some order) ⊎ ((i ≡ length orders) × (new ≡ order)) → order ≡ []
        no_places i order u (inl there) = s.unused i order there u
        no_places i order u (inr last) = sym last.1 ∙ is_none (subst (λ j. get_or used j false ≡ false) (last.0 ∙ s.size) u)

    pub are_orders : (place : ℕ) (orders : List (List ℕ)) → length used ≤ place → place ≤ length used → OrdersSoFar file library used place orders → AreOrders file library used orders
    are_orders place orders low high s = record { size = omega (arith, s.size, low, high, marks.each); order = s.order; unused = s.unused }

    pub none_has_loop : (place : ℕ) (orders : List (List ℕ)) → length used ≤ place → OrdersSoFar file library used place orders → (m : Model) → IsUsed file m → (ns : List Name) → IsLoop file library m ns → ⊥
    none_has_loop place orders low s m u =
        let r = at_place file.models m (used_among file m u) in
        let marked = (marks.marked r.0 m r.1).1 u in
        let o = some_at orders r.0 (omega (arith, slice_get_within file.models r.0 m r.1, marks.each, low, s.size)) in
        (ordered_has_none m o.0 u (s.order r.0 m o.0 r.1 o.1 marked)).0

    pub first_loop : (place : ℕ) (orders : List (List ℕ)) (ns : List Name) → place < length used → IsTrue (get_or used place false) → ((m : Model) → slice_get file.models place ≡ Some m → IsWalkedLoop file library m ns) → OrdersSoFar file library used place orders → IsFirstUsed file Walks ns
    first_loop place orders ns inside marked walked s =
        let here = some_at file.models place (omega (arith, inside, marks.each)) in
        found_at file Walks place here.0 ns here.1 s.none_before ((marks.marked place here.0 here.1).0 marked) (walked here.0 here.1)

pub true_unless : (b : Bool) → (b ≡ false → ⊥) → IsTrue b
true_unless true h = refl
true_unless false h = absurd (h refl)
