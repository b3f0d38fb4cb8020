-- Which statement drives each net, by number and by name.
use Rattle.std.proofs.Common.{◌≡◌, ◌⊎◌, inl, inr, refl, sym, ◌∙◌, ap, subst, ℕ, zero, suc, ◌+◌, ◌<◌, ◌≤◌, Bool, true, false, List, [], ◌∷◌, ◌++◌, length, map, take, get_or, set, replicate, Some, slice_get, IsTrue, Contains, arith}
use Rattle.std.specs.List.{flat_map}
use Rattle.std.proofs.lemmas.Bool.{cases_eq, both_ways}
use Rattle.std.proofs.lemmas.List.{length-set, length-replicate, get_or-replicate, get_or_default, get_or-set_same, get_or-set_other, take_more, map-append}
use Rattle.std.proofs.lemmas.List.Elements.{Contains-append_left, Contains-push, Contains-push_cases}
use Rattle.std.proofs.lemmas.Option.{slice_get_within}
use Rattle.netlist_spec.specs.Netlist.{Name, stands_in, are_distinct, Located, Model, File}
use Rattle.netlist_spec.specs.Covers.{Library}
use Rattle.netlist_spec.specs.Sound.{combines, drives, HasOneDriverEach}
use Rattle.netlist_spec.proofs.Occurrences.{occ, occ_append, stands_occ}
use Rattle.imp_text.specs.declared.names.NameId.{NameId}
use Rattle.net_graph.specs.Chains.{IsMarked, ends_of}
use Rattle.net_graph.proofs.MarkLemmas.{none_among}
use Rattle.net_order.specs.Order.{AreNets}
use Rattle.source_laws.proofs.Lists.{Among, stands, standing}
use Rattle.source_laws.proofs.Drivers.{occurs, drives_once}
use Rattle.source_loops.specs.Nets.{name_of, numbers_of}
use Rattle.source_loops.specs.Drivers.{AreDrivers, Puts}
use Rattle.source_loops.proofs.NumberLemmas.{place_among, same_there, marked_place, marked_at, row_of, nets_within, named, named_back}

-- ---- putting a place

pub puts_none : (place : ℕ) (old : List ℕ) → Puts [] place old old
puts_none place old = record { size = refl; each = λ n. inr (λ c. none_among n c, refl) }

numbers_more : (nets : List NameId) (i : ℕ) (d : NameId) → i < length nets → numbers_of (take (i + 1) nets) ≡ numbers_of (take i nets) ++ (get_or nets i d).0 ∷ []
numbers_more nets i d h = ap numbers_of (take_more nets i d h) ∙ map-append (λ (id : NameId). id.0) (take i nets) (get_or nets i d ∷ [])

pub puts_more : (nets : List NameId) (place : ℕ) (old mid : List ℕ) (i : ℕ) (id : NameId) → i < length nets → (get_or nets i id).0 < length mid → Puts (take i nets) place old mid → Puts (take (i + 1) nets) place old (set mid (get_or nets i id).0 place)
puts_more nets place old mid i none h within p = record { size = length-set mid id.0 place ∙ p.size; each = λ n. at n (cases_eq n id.0) (p.each n) }
  where
    id : NameId
    id = get_or nets i none

    more : numbers_of (take (i + 1) nets) ≡ numbers_of (take i nets) ++ id.0 ∷ []
    more = numbers_more nets i none h

    at : (n : ℕ) → (n ≡ id.0) ⊎ (n ≡ id.0 → ⊥) → (Contains (numbers_of (take i nets)) n × (get_or mid n 0 ≡ place)) ⊎ ((Contains (numbers_of (take i nets)) n → ⊥) × (get_or mid n 0 ≡ get_or old n 0))
        → (Contains (numbers_of (take (i + 1) nets)) n × (get_or (set mid id.0 place) n 0 ≡ place)) ⊎ ((Contains (numbers_of (take (i + 1) nets)) n → ⊥) × (get_or (set mid id.0 place) n 0 ≡ get_or old n 0))
    at n (inl e) was =
        inl (
          subst (λ l. Contains l n) (sym more) (subst (Contains (numbers_of (take i nets) ++ id.0 ∷ [])) (sym e) (Contains-push (numbers_of (take i nets)) id.0)),
          ap (λ j. get_or (set mid id.0 place) j 0) e ∙ get_or-set_same mid id.0 place 0 within,
        )
    at n (inr other) (inl was) =
        inl (subst (λ l. Contains l n) (sym more) (Contains-append_left (numbers_of (take i nets)) (id.0 ∷ []) n was.0), get_or-set_other mid id.0 n place 0 other ∙ was.1)
    at n (inr other) (inr was) = inr (λ c. neither (Contains-push_cases (numbers_of (take i nets)) id.0 n (subst (λ l. Contains l n) more c)), get_or-set_other mid id.0 n place 0 other ∙ was.1)
      where
        neither : Contains (numbers_of (take i nets)) n ⊎ (id.0 ≡ n) → ⊥
        neither (inl c) = was.0 c
        neither (inr e) = other (sym e)

-- ---- as far as the statements have been gone through

abbrev pub Drives : (rows : List (List ℕ)) (flags : List Bool) → ℕ → ℕ → Type 0
Drives rows flags n i = IsMarked flags i × Contains (ends_of rows i) n

-- Each net has the place of one of the first statements that drives it, or `total` where none does.
pub record AreSoFar (rows : List (List ℕ)) (flags : List Bool) (size total place : ℕ) (drivers : List ℕ) : Type 0 where
  pub each : length drivers ≡ size
  pub found : (n : ℕ) → n < size → (get_or drivers n 0 ≡ total) ⊎ ((get_or drivers n 0 < place) × Drives rows flags n (get_or drivers n 0))
  pub all : (n i : ℕ) → i < place → Drives rows flags n i → get_or drivers n 0 < place

pub so_far_none : (rows : List (List ℕ)) (flags : List Bool) (size total : ℕ) (drivers : List ℕ) → drivers ≡ replicate size total → AreSoFar rows flags size total 0 drivers
so_far_none rows flags size total drivers e =
    record {
      each = ap length e ∙ length-replicate size total;
      found = λ n h. inl (ap (λ l. get_or l n 0) e ∙ get_or-replicate size n total 0 h);
      all = λ n i h d. absurd (omega (arith, h));
    }

pub so_far_more : (rows : List (List ℕ)) (flags : List Bool) (size total place : ℕ) (old new : List ℕ) (nets : List NameId) → IsMarked flags place → ends_of rows place ≡ numbers_of nets → Puts nets place old new → AreSoFar rows flags size total place old → AreSoFar rows flags size total (place + 1) new
so_far_more rows flags size total place old new nets marked is p s = record { each = p.size ∙ s.each; found = λ n h. found n (p.each n) (s.found n h); all = λ n i h d. all n i h d (p.each n) (cases_eq i place) }
  where
    found : (n : ℕ) → (Contains (numbers_of nets) n × (get_or new n 0 ≡ place)) ⊎ ((Contains (numbers_of nets) n → ⊥) × (get_or new n 0 ≡ get_or old n 0))
        → (get_or old n 0 ≡ total) ⊎ ((get_or old n 0 < place) × Drives rows flags n (get_or old n 0)) → (get_or new n 0 ≡ total) ⊎ ((get_or new n 0 < place + 1) × Drives rows flags n (get_or new n 0))
    found n (inl put) was = inr (omega (arith, put.1), subst (Drives rows flags n) (sym put.1) (marked, subst (λ l. Contains l n) (sym is) put.0))
    found n (inr kept) (inl none) = inl (kept.1 ∙ none)
    found n (inr kept) (inr was) = inr (omega (arith, kept.1, was.0), subst (Drives rows flags n) (sym kept.1) was.1)

    all : (n i : ℕ) → i < place + 1 → Drives rows flags n i → (Contains (numbers_of nets) n × (get_or new n 0 ≡ place)) ⊎ ((Contains (numbers_of nets) n → ⊥) × (get_or new n 0 ≡ get_or old n 0))
        → (i ≡ place) ⊎ (i ≡ place → ⊥) → get_or new n 0 < place + 1
    all n i h d (inl put) c = omega (arith, put.1)
    all n i h d (inr kept) (inl e) = absurd (kept.0 (subst (λ l. Contains l n) is (subst (λ j. Contains (ends_of rows j) n) e d.1)))
    all n i h d (inr kept) (inr other) = omega (arith, kept.1, s.all n i (omega (arith, h, other)) d)

pub so_far_skip : (rows : List (List ℕ)) (flags : List Bool) (size total place : ℕ) (drivers : List ℕ) → get_or flags place false ≡ false → AreSoFar rows flags size total place drivers → AreSoFar rows flags size total (place + 1) drivers
so_far_skip rows flags size total place drivers none s = record { each = s.each; found = λ n h. found n (s.found n h); all = λ n i h d. all n i h d (cases_eq i place) }
  where
    found : (n : ℕ) → (get_or drivers n 0 ≡ total) ⊎ ((get_or drivers n 0 < place) × Drives rows flags n (get_or drivers n 0)) → (get_or drivers n 0 ≡ total) ⊎ ((get_or drivers n 0 < place + 1) × Drives rows flags n (get_or drivers n 0))
    found n (inl e) = inl e
    found n (inr was) = inr (omega (arith, was.0), was.1)

    all : (n i : ℕ) → i < place + 1 → Drives rows flags n i → (i ≡ place) ⊎ (i ≡ place → ⊥) → get_or drivers n 0 < place + 1
    all n i h d (inl e) = absurd (both_ways (get_or flags place false) none (subst (IsMarked flags) e d.0))
    all n i h d (inr other) = omega (arith, s.all n i (omega (arith, h, other)) d)

-- ---- one driver each

-- where a name occurs once at most, one place has it
one_place : (n : Name) {A : Type 0} (f : A → List Name) (xs : List A) → occ n (flat_map f xs) ≤ 1 → (i j : ℕ) (x y : A) → slice_get xs i ≡ Some x → slice_get xs j ≡ Some y → 1 ≤ occ n (f x) → 1 ≤ occ n (f y) → i ≡ j
one_place n f [] o i j x y at_x at_y a b = cc at_x
one_place n f (z ∷ zs) o zero zero x y at_x at_y a b = refl
one_place n {A = A} f (z ∷ zs) o zero (suc j) x y at_x at_y a b =
    let all : occ n (f z ++ flat_map f zs) ≡ occ n (f z) + occ n (flat_map f zs) = occ_append n (f z) (flat_map f zs) in
    let same : z ≡ x = cc at_x in
    let first : 1 ≤ occ n (f z) = subst (λ (w : A). 1 ≤ occ n (f w)) (sym same) a in
    let second = occurs n f zs y (place_among zs j y at_y) b in
    absurd (omega arith)
one_place n {A = A} f (z ∷ zs) o (suc i) zero x y at_x at_y a b =
    let all : occ n (f z ++ flat_map f zs) ≡ occ n (f z) + occ n (flat_map f zs) = occ_append n (f z) (flat_map f zs) in
    let same : z ≡ y = cc at_y in
    let first : 1 ≤ occ n (f z) = subst (λ (w : A). 1 ≤ occ n (f w)) (sym same) b in
    let second = occurs n f zs x (place_among zs i x at_x) a in
    absurd (omega arith)
one_place n f (z ∷ zs) o (suc i) (suc j) x y at_x at_y a b =
    let all : occ n (f z ++ flat_map f zs) ≡ occ n (f z) + occ n (flat_map f zs) = occ_append n (f z) (flat_map f zs) in
    ap suc (one_place n f zs (omega arith) i j x y at_x at_y a b)

module _ (file : File) (library : Library) (m : Model) (one : HasOneDriverEach file library m) where
  same_place : (n : Name) (i j : ℕ) (s t : Located) → slice_get m.statements i ≡ Some s → slice_get m.statements j ≡ Some t → stands_in n (drives file library s.what) ≡ true → stands_in n (drives file library t.what) ≡ true → i ≡ j
  same_place n i j s t at_s at_t a b =
      one_place n (λ (s : Located). drives file library s.what) m.statements (drives_once file library m one n) i j s t at_s at_t (stands_occ n (drives file library s.what) a) (stands_occ n (drives file library t.what) b)

  pub are_drivers : (rows : List (List ℕ)) (place : ℕ) (drivers : List ℕ) → IsTrue (are_distinct m.names) → map (map (name_of m.names)) rows ≡ map (λ s. drives file library s.what) m.statements → AreNets (length m.names) rows → length m.statements ≤ place
      → place ≤ length m.statements → AreSoFar rows (map (λ s. combines s.what) m.statements) (length m.names) (length m.statements) place drivers → AreDrivers file library m drivers
  are_drivers rows place drivers distinct is nets full whole s = record { each = s.each; within = inside; exact = λ n i t h at. (λ e. there n i t h at e (s.found n h), λ d. back n i t h at d (s.found n h)) }
    where
      flags : List Bool
      flags = map (λ (s : Located). combines s.what) m.statements

      inside : (k d : ℕ) → k < length drivers → get_or drivers k d ≤ length m.statements
      inside k d h = by (s.found k (omega (arith, h, s.each)))
        where
          by : (get_or drivers k 0 ≡ length m.statements) ⊎ ((get_or drivers k 0 < place) × Drives rows flags k (get_or drivers k 0)) → get_or drivers k d ≤ length m.statements
          by (inl e) = omega (arith, e, get_or_default drivers k 0 d h)
          by (inr w) = omega (arith, w.0, whole, get_or_default drivers k 0 d h)

      -- an item that drives a net, by name
      driving : (n i : ℕ) → Drives rows flags n i → (t : Located) × (slice_get m.statements i ≡ Some t) × (combines t.what ≡ true) × (stands_in (name_of m.names n) (drives file library t.what) ≡ true)
      driving n i d =
          let r = marked_place (λ (s : Located). combines s.what) m.statements i d.0 in
          let e = row_of (map (name_of m.names)) (λ (s : Located). drives file library s.what) rows m.statements i r.0 is r.1 in
          (r.0, r.1, r.2, stands (name_of m.names n) (drives file library r.0.what) (subst (Among (name_of m.names n)) e (named m.names (ends_of rows i) n d.1)))

      there : (n i : ℕ) (t : Located) → n < length m.names → slice_get m.statements i ≡ Some t → get_or drivers n 0 ≡ i → (get_or drivers n 0 ≡ length m.statements) ⊎ ((get_or drivers n 0 < place) × Drives rows flags n (get_or drivers n 0))
          → (combines t.what ≡ true) × (stands_in (name_of m.names n) (drives file library t.what) ≡ true)
      there n i t h at e (inl none) = absurd (omega (arith, slice_get_within m.statements i t at, e, none))
      there n i t h at e (inr w) =
          let r = driving n i (subst (Drives rows flags n) e w.1) in
          let same = same_there m.statements i r.0 t r.1 at in
          (ap (λ (l : Located). combines l.what) (sym same) ∙ r.2, ap (λ (l : Located). stands_in (name_of m.names n) (drives file library l.what)) (sym same) ∙ r.3)

      back : (n i : ℕ) (t : Located) → n < length m.names → slice_get m.statements i ≡ Some t → (combines t.what ≡ true) × (stands_in (name_of m.names n) (drives file library t.what) ≡ true)
          → (get_or drivers n 0 ≡ length m.statements) ⊎ ((get_or drivers n 0 < place) × Drives rows flags n (get_or drivers n 0)) → get_or drivers n 0 ≡ i
      back n i t h at d (inl none) =
          let e = row_of (map (name_of m.names)) (λ (s : Located). drives file library s.what) rows m.statements i t is at in
          let c = named_back m.names distinct (ends_of rows i) n (λ j c. nets_within (length m.names) rows i j nets c) h (subst (Among (name_of m.names n)) (sym e) (standing (name_of m.names n) (drives file library t.what) d.1)) in
          absurd (omega (arith, none, whole, s.all n i (omega (arith, full, slice_get_within m.statements i t at)) (marked_at (λ (s : Located). combines s.what) m.statements i t at d.0, c)))
      back n i t h at d (inr w) =
          let r = driving n (get_or drivers n 0) w.1 in
          same_place (name_of m.names n) (get_or drivers n 0) i r.0 t r.1 at r.3 d.1
