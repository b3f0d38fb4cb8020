-- Sums of costs that are cut off, and what placed models cost.
use Rattle.std.proofs.Common.{◌≡◌, refl, sym, ◌∙◌, ap, subst, ℕ, zero, suc, ◌+◌, ◌<◌, List, [], ◌∷◌, length, map, take, get_or, set, ◌++◌, length-set, Some, slice_get, ◌⊎◌, inl, inr, arith, Contains}
use Rattle.std.specs.Prelude.{sum, sum_by}
use Rattle.std.specs.List.{AllByRecursion, AllZip}
use Rattle.std.proofs.lemmas.Bool.{cases_eq}
use Rattle.std.proofs.lemmas.List.{map-append, take_more}
use Rattle.std.proofs.lemmas.Option.{slice_get-get_or}
use Rattle.std.proofs.lemmas.List.Sums.{sum_by-cons}
use Rattle.netlist_spec.specs.Netlist.{Bind, Statement, names, latch, subckt, Located, Model, File}
use Rattle.netlist_spec.specs.Covers.{Library}
use Rattle.netlist_spec.specs.Placed.{a_model, placed, model_or, nothing, linear_or_nothing}
use Rattle.netlist_spec.specs.Models.{first_model}
use Rattle.netlist_spec.specs.Size.{cost_of, cost_to_depth, linear_cost, main_cost, placed_cost}
use Rattle.netlist_spec.specs.Sound.{Places, IsUsed}
use Rattle.netlist_spec.specs.SoundFaults.{ContainsItself}
use Rattle.linear_layer.specs.declared.layer.NamedLinear.{NamedLinear as ReadLinear}
use Rattle.linear_layer.specs.Named.{named_linear_of}
use Rattle.source_laws.specs.Costs.{statements_of, PlacedModelsCost}
use Rattle.source_laws.proofs.Agree.{places}
use Rattle.source_laws.proofs.Lists.{Among, among, contained, among_either}
use Rattle.source_nets.specs.declared.types.Meaning.{Meaning}
use Rattle.source_nets.specs.declared.types.Meaning.TheVariants.{Cell, Nothing, Model as ModelAt, Table as TableAt, Linear as LinearAt}
use Rattle.source_nets.specs.Survey.{Means}
use Rattle.source_models.specs.Order.{IsPlacedFirst}
use Rattle.source_cost.specs.Costs.{cut, cut_costs, inner_cost, placed_inside, statements_in, IsCosted, AreCostsBelow, AreInnerCosts}

-- ---- sums

pub cut_sum : {X : Type 0} (f : X → ℕ) (xs : List X) → cut (sum (map (λ x. cut (f x)) xs)) ≡ cut (sum_by f xs)
cut_sum f [] = refl
cut_sum f (x ∷ xs) =
    let a = sum_by-cons (λ n. n) (cut (f x)) (map (λ x. cut (f x)) xs) in
    let b = sum_by-cons f x xs in
    let c = cut_sum f xs in
    omega arith

sum_of_map : {A B : Type 0} (f : B → ℕ) (g : A → B) (xs : List A) → sum_by f (map g xs) ≡ sum_by (λ x. f (g x)) xs
sum_of_map f g [] = refl
sum_of_map f g (x ∷ xs) =
    let a = sum_by-cons f (g x) (map g xs) in
    let b = sum_by-cons (λ x. f (g x)) x xs in
    let c = sum_of_map f g xs in
    omega arith

-- the costs of the statements of a model, and what they cost together
pub cut_total : (file : File) (library : Library) (m : Model) → cut (sum (cut_costs file library m.statements)) ≡ cut (inner_cost file library m)
cut_total file library m = cut_sum (λ (s : Located). cost_of file library s.what) m.statements ∙ ap cut (sym (sum_of_map (cost_of file library) (λ (s : Located). s.what) m.statements))

-- ---- places

pub within_at : {A : Type 0} (P : A → Type 0) (xs : List A) (i : ℕ) (d : A) → AllByRecursion P xs → i < length xs → P (get_or xs i d)
within_at P [] i d a h = absurd (omega arith)
within_at P (x ∷ xs) zero d a h = a.0
within_at P (x ∷ xs) (suc i) d a h = within_at P xs i d a.1 (omega arith)

pub zip_mapped_at : {A B C : Type 0} (R : B → C → Type 0) (f : A → B) (xs : List A) (ys : List C) (i : ℕ) (x : A) (y : C) → AllZip R (map f xs) ys → i < length xs → x ≡ get_or xs i x → y ≡ get_or ys i y → R (f x) y
zip_mapped_at R f [] ys i x y all h is_x is_y = absurd (omega arith)
zip_mapped_at R f (a ∷ xs) [] i x y all h is_x is_y = absurd all
zip_mapped_at R f (a ∷ xs) (b ∷ ys) zero x y all h is_x is_y = subst (λ z. R (f z) y) (sym is_x) (subst (R (f a)) (sym is_y) all.0)
zip_mapped_at R f (a ∷ xs) (b ∷ ys) (suc i) x y all h is_x is_y = zip_mapped_at R f xs ys i x y all.1 (omega arith) is_x is_y

pub mapped_place : {A B : Type 0} (f : A → B) (xs : List A) (i : ℕ) (x : A) → i < length xs → x ≡ get_or xs i x → slice_get (map f xs) i ≡ Some (f x)
mapped_place f [] i x h is = absurd (omega arith)
mapped_place f (a ∷ xs) zero x h is = ap (λ z. Some (f z)) (sym is)
mapped_place f (a ∷ xs) (suc i) x h is = mapped_place f xs i x (omega arith) is

pub mapped_more : {X : Type 0} (f : X → ℕ) (xs : List X) (i : ℕ) (x : X) (before after : List ℕ) (n : ℕ) → i < length xs → x ≡ get_or xs i x
    → before ≡ map f (take i xs) → after ≡ before ++ n ∷ [] → n ≡ f x → after ≡ map f (take (i + 1) xs)
mapped_more f xs i x before after n h is e one same =
    one ∙ ap (λ ns. ns ++ n ∷ []) e ∙ ap (λ (k : ℕ). map f (take i xs) ++ k ∷ []) (same ∙ ap f is) ∙ sym (ap (map f) (take_more xs i x h) ∙ map-append f (take i xs) (get_or xs i x ∷ []))

-- ---- linear layers

pub linear_at : (linears : List ReadLinear) (k : ℕ) (inside : List Statement → ℕ) (binds : List Bind) → k < length linears
    → placed_cost inside (linear_or_nothing (slice_get (map named_linear_of linears) k)) binds ≡ get_or (map (λ (l : ReadLinear). linear_cost l.layer) linears) k 0
linear_at [] k inside binds h = absurd (omega arith)
linear_at (l ∷ ls) zero inside binds h = refl
linear_at (l ∷ ls) (suc k) inside binds h = linear_at ls k inside binds (omega arith)

-- ---- placed models

module _ (file : File) (library : Library) (law : (m : Model) (name : List ℕ) (binds : List Bind) (k : Model) → PlacedModelsCost file library m name binds k) (never : (k : Model) → IsUsed file k → ContainsItself file library k → ⊥) (m : Model) (used : IsUsed file m) (inner : List ℕ) (known : (j : ℕ) (c : Model) → slice_get file.models j ≡ Some c → Places file m c → slice_get inner j ≡ Some (cut (inner_cost file library c))) where
  -- where a model is placed, its statements cost what they cost elsewhere
  same_inside : (name : List ℕ) (binds : List Bind) (c : Model) → Among (subckt name binds) (statements_of m) → placed file library name ≡ a_model c → inner_cost file library c ≡ placed_inside file library c
  same_inside name binds c h is =
      let here : cost_of file library (subckt name binds) ≡ 1 + length binds + placed_inside file library c = ap (λ p. placed_cost (cost_to_depth file library (length file.models)) p binds) is in
      let there = law m name binds c never used (contained (statements_of m) (subckt name binds) h) is in
      omega arith

  costed_at : (s : Statement) (found : Meaning) → Among s (statements_of m) → Means file library s found → IsCosted file library inner found
  costed_at (names ins out cover) found h e = subst (IsCosted file library inner) (sym e) tt
  costed_at (latch d q clocking init) found h e = subst (IsCosted file library inner) (sym e) tt
  costed_at (subckt name binds) Cell h e = tt
  costed_at (subckt name binds) Nothing h e = tt
  costed_at (subckt name binds) (TableAt k) h e = tt
  costed_at (subckt name binds) (LinearAt k) h e = tt
  costed_at (subckt name binds) (ModelAt k) h e = λ c at.
      let is : placed file library name ≡ a_model c = sym e.0 ∙ ap (λ o. model_or o nothing) at in
      known k c at (places file library m c name (subckt name binds) h (inl refl) is) ∙ ap (λ n. Some (cut n)) (same_inside name binds c h is)

  pub costed_each : (ss : List Located) (ms : List Meaning) → ((s : Located) → Among s ss → Among s.what (statements_of m)) → AllZip (λ s found. Means file library s.what found) ss ms → AllByRecursion (IsCosted file library inner) ms
  costed_each [] [] among all = tt
  costed_each [] (found ∷ ms) among all = absurd all
  costed_each (s ∷ ss) [] among all = tt
  costed_each (s ∷ ss) (found ∷ ms) among all = (costed_at s.what found (among s (inl refl)) all.0, costed_each ss ms (λ t h. among t (inr h)) all.1)

-- ---- one more model

other_place : (xs : List ℕ) (i j v : ℕ) → (j ≡ i → ⊥) → slice_get (set xs i v) j ≡ slice_get xs j
other_place [] i j v h = refl
other_place (x ∷ xs) zero zero v h = absurd (h refl)
other_place (x ∷ xs) zero (suc j) v h = refl
other_place (x ∷ xs) (suc i) zero v h = refl
other_place (x ∷ xs) (suc i) (suc j) v h = other_place xs i j v (λ e. h (ap suc e))

same_place : (xs : List ℕ) (i v : ℕ) → i < length xs → slice_get (set xs i v) i ≡ Some v
same_place [] i v h = absurd (omega arith)
same_place (x ∷ xs) zero v h = refl
same_place (x ∷ xs) (suc i) v h = same_place xs i v (omega arith)

pub one_more : (file : File) (library : Library) (order inner : List ℕ) (k v : ℕ) → k < length order → get_or order k 0 < length file.models
    → ((m : Model) → slice_get file.models (get_or order k 0) ≡ Some m → v ≡ cut (inner_cost file library m))
    → AreInnerCosts file library (take k order) inner → AreInnerCosts file library (take (k + 1) order) (set inner (get_or order k 0) v)
one_more file library order inner k v within in_file right before =
    record {
      each = length-set inner i v ∙ before.each;
      costs = λ j c in_order at. at_place j c at in_order (cases_eq j i);
    }
  where
    i : ℕ
    i = get_or order k 0

    at_place : (j : ℕ) (c : Model) → slice_get file.models j ≡ Some c → Contains (take (k + 1) order) j → (j ≡ i) ⊎ (j ≡ i → ⊥) → slice_get (set inner i v) j ≡ Some (cut (inner_cost file library c))
    at_place j c at in_order (inl e) =
        subst (λ n. slice_get (set inner i v) n ≡ Some (cut (inner_cost file library c))) (sym e)
        (same_place inner i v (omega (arith, before.each)) ∙ ap (λ n. Some n) (right c (ap (slice_get file.models) (sym e) ∙ at)))
    at_place j c at in_order (inr other) =
        other_place inner i j v other
        ∙ before.costs j c (contained (take k order) j (earlier (among_either (take k order) (i ∷ []) j (among (take k order ++ i ∷ []) j (subst (λ xs. Contains xs j) (take_more order k 0 within) in_order))))) at
      where
        earlier : Among j (take k order) ⊎ Among j (i ∷ []) → Among j (take k order)
        earlier (inl a) = a
        earlier (inr (inl e)) = absurd (other (sym e))
        earlier (inr (inr n)) = absurd n

-- what a model of the order places stands before it
pub below_order : (file : File) (library : Library) (order inner same : List ℕ) (k : ℕ) → IsPlacedFirst file order → k < length order → AreInnerCosts file library (take k order) inner → same ≡ inner
    → AreCostsBelow file library (get_or order k 0) same
below_order file library order inner same k is within before e =
    record {
      each = ap length e ∙ before.each;
      costs = λ j m c at_m at_c places.
          ap (λ (ns : List ℕ). slice_get ns j) e ∙ before.costs j c (is.earlier k (get_or order k 0) j m c (slice_get-get_or order k 0 within) at_m at_c places) at_c;
    }

-- ---- the main model

first_place : (ms : List Model) → slice_get ms 0 ≡ first_model ms
first_place [] = refl
first_place (m ∷ ms) = refl

pub first_is_used : (file : File) (m : Model) → slice_get file.models 0 ≡ Some m → IsUsed file m
first_is_used file m at = (m, sym (first_place file.models) ∙ at, 0, refl)

-- what the main model places is used, and so stands in the order
pub below_first : (file : File) (library : Library) (order inner same : List ℕ) → IsPlacedFirst file order → AreInnerCosts file library order inner → same ≡ inner → AreCostsBelow file library 0 same
below_first file library order inner same is all e =
    record {
      each = ap length e ∙ all.each;
      costs = λ j m c at_m at_c places.
          let used : IsUsed file c = (m, sym (first_place file.models) ∙ at_m, 1, (m, refl, places)) in
          ap (λ (ns : List ℕ). slice_get ns j) e ∙ all.costs j c (is.each j c at_c used) at_c;
    }

pub main_each : (file : File) (library : Library) (ms : List Model) (costs : List ℕ) → 0 < length ms → ((m : Model) → slice_get ms 0 ≡ Some m → costs ≡ cut_costs file library m.statements)
    → costs ≡ cut_costs file library (statements_in (first_model ms))
main_each file library [] costs h each = absurd (omega arith)
main_each file library (m ∷ ms) costs h each = each m refl

pub main_total : (file : File) (library : Library) (ms : List Model) (costs : List ℕ) → 0 < length ms → ((m : Model) → slice_get ms 0 ≡ Some m → costs ≡ cut_costs file library m.statements)
    → cut (sum costs) ≡ cut (main_cost file library (first_model ms))
main_total file library [] costs h each = absurd (omega arith)
main_total file library (m ∷ ms) costs h each = ap (λ (ns : List ℕ). cut (sum ns)) (each m refl) ∙ cut_sum (λ (s : Located). cost_of file library s.what) m.statements
