-- Files of two models that are refused.
use Rattle.std.proofs.Common.{◌≡◌, refl, sym, ap, subst, ℕ, zero, suc, ◌<◌, ◌⊎◌, inl, inr, List, [], ◌∷◌, get_or, codes, Bool, true, false, ◌||◌, Some, None, arith, lit<}
use Rattle.std.specs.Prelude.{IsTrue}
use Rattle.std.specs.List.{AllByRecursion}
use Rattle.std.specs.Cmp.Lexicographic.{bytes_decides}
use Rattle.netlist_spec.specs.Netlist.{Name, Statement, subckt, Model, File, same_name, stands_in}
use Rattle.netlist_spec.specs.Covers.{empty_library}
use Rattle.netlist_spec.specs.Placed.{find_model}
use Rattle.netlist_spec.specs.Sound.{Chain, Places, IsMain, ReadsFor, IsLoop, drives}
use Rattle.netlist_spec.specs.SoundFaults.{SoundFault, twice, no_such_model, bad_port, recursion, latch_inside, too_deep, undriven, bad_clocking, loop, reserved, too_large, rank, IsFirstUsed, Finds, IsRefusedWith, LeadsTo, IsUnsettled, IsFirstUnsettled, twice_in, no_such_model_in, bad_port_in, ContainsItself, HasLatchInside, IsTooDeep, undriven_in, clocking_in}
use Rattle.spec_examples.specs.Examples.{first_of_ring, second_of_ring, ring_of_models, around_model, through_model, around_file, bound}
use Rattle.netlist_spec.proofs.OneValue.{All_back}

-- What no model of a file has, the first used one hasn't.
pub used_nowhere : {A : Type 0} (file : File) (finds : Model → A → Type 0) (a : A) → AllByRecursion (λ m. finds m a → ⊥) file.models → IsFirstUsed file finds a → ⊥
used_nowhere file finds a none u =
    let P : Model → Type 0 = λ m. finds m a → ⊥ in
    (All_back P u.before (u.model ∷ u.after) (subst (AllByRecursion P) u.split none)).0 u.here

pub nothing : {A : Type 0} (a : A) → None ≡ Some a → ⊥
nothing a e = cc e

-- ---- a ring of models

to_second : Places ring_of_models first_of_ring second_of_ring
to_second = (codes "s", refl, refl)

to_first : Places ring_of_models second_of_ring first_of_ring
to_first = (codes "m", refl, refl)

nothing_before_ring : (other : SoundFault) → rank other < 4 → Finds ring_of_models empty_library other → ⊥
nothing_before_ring (twice n) h f = used_nowhere ring_of_models (λ m a. twice_in ring_of_models empty_library m ≡ Some a) n (nothing n, (nothing n, tt)) f
nothing_before_ring (no_such_model n) h f = used_nowhere ring_of_models (λ m a. no_such_model_in ring_of_models empty_library m ≡ Some a) n (nothing n, (nothing n, tt)) f
nothing_before_ring (bad_port n p) h f =
    used_nowhere ring_of_models (λ m (a : Name × Name). bad_port_in ring_of_models empty_library m ≡ Some a) (n, p) (nothing (n, p), (nothing (n, p), tt)) f
nothing_before_ring (recursion n) h f = omega arith
nothing_before_ring (latch_inside n) h f = omega arith
nothing_before_ring (too_deep n) h f = omega arith
nothing_before_ring (undriven n) h f = omega arith
nothing_before_ring (bad_clocking n) h f = omega arith
nothing_before_ring (loop ns) h f = omega arith
nothing_before_ring (reserved n) h f = omega arith
nothing_before_ring (too_large what) h f = omega arith

pub ring_of_models_is_refused : IsRefusedWith ring_of_models empty_library (recursion (codes "m"))
ring_of_models_is_refused =
    record {
      found = record {
        before = [];
        model = first_of_ring;
        after = second_of_ring ∷ [];
        split = refl;
        used = (first_of_ring, refl, 0, refl);
        here = ((1, (second_of_ring, (first_of_ring, refl, to_second), to_first)), refl);
        none_before = tt;
      };
      first = nothing_before_ring;
    }

-- ---- a net that is an input and an output of a placed model

abbrev the_placement : Statement
the_placement = subckt (codes "s") (bound (codes "p") (codes "a") ∷ bound (codes "q") (codes "y") ∷ [])

either : (b : Bool) → (b || false) ≡ true → b ≡ true
either true e = refl
either false e = e

pub one_name : (n k : Name) → IsTrue (stands_in n (k ∷ [])) → n ≡ k
one_name n k h = (bytes_decides n k).0 (either _ h)

placed_model : (k : Model) → Places around_file around_model k → through_model ≡ k
placed_model k p =
    let is_s = one_name p.0 (codes "s") p.1 in
    let e : Some through_model ≡ Some k = subst (λ n. find_model (around_model ∷ through_model ∷ []) n ≡ Some k) is_s p.2 in
    cc e

places_none : (k : Model) → Places around_file through_model k → ⊥
places_none k p = cc p.1

abbrev OneStep : ℕ → Model → Type 0
OneStep n k = ((n ≡ 0) × (around_model ≡ k)) ⊎ ((n ≡ 1) × (through_model ≡ k))

one_step : (n : ℕ) (k : Model) → Chain around_file n around_model k → OneStep n k
one_step zero k c = inl (refl, c)
one_step (suc n) k c =
    elim (one_step n c.0 c.1) [
      | inl h ↦ inr (ap suc h.0, placed_model k (subst (λ m. Places around_file m k) (sym h.1) c.2))
      | inr h ↦ absurd (places_none k (subst (λ m. Places around_file m k) (sym h.1) c.2))
    ]

differ_by_name : (a b : Model) → same_name a.name b.name ≡ false → a ≡ b → ⊥
differ_by_name a b f e = not_itself b.name (subst (λ m. same_name m.name b.name ≡ false) e f)
  where
    not_itself : (n : Name) → same_name n n ≡ false → ⊥
    not_itself n h = let t : same_name n n ≡ true = (bytes_decides n n).1 refl in cc (h, t)

no_way_back : ContainsItself around_file empty_library around_model → ⊥
no_way_back c =
    elim (one_step (suc c.0) around_model c.1) [
      | inl h ↦ absurd (cc h.0)
      | inr h ↦ differ_by_name through_model around_model refl h.1
    ]

no_inner_step : (n : ℕ) (k : Model) → Chain around_file n through_model k → through_model ≡ k
no_inner_step zero k c = c
no_inner_step (suc n) k c = absurd (places_none k (subst (λ m. Places around_file m k) (sym (no_inner_step n c.0 c.1)) c.2))

no_inner_ring : ContainsItself around_file empty_library through_model → ⊥
no_inner_ring c = places_none through_model (subst (λ m. Places around_file m through_model) (sym (no_inner_step c.0 c.1.0 c.1.1)) c.1.2)

main_is : (m : Model) → IsMain around_file m → around_model ≡ m
main_is m e = cc

shallow : (m : Model) → IsTooDeep around_file empty_library m → ⊥
shallow m d =
    let c = subst (λ top. Chain around_file d.2 top m) (sym (main_is d.0 d.1)) d.4 in
    let deep = d.3 in
    elim (one_step d.2 m c) [
      | inl h ↦ let e = h.0 in absurd (omega arith)
      | inr h ↦ let e = h.0 in absurd (omega arith)
    ]

no_latch_inside : (a b : Name) → HasLatchInside around_file empty_library through_model × (a ≡ b) → ⊥
no_latch_inside a b h = cc h.0.1

nothing_before_loop : (other : SoundFault) → rank other < 9 → Finds around_file empty_library other → ⊥
nothing_before_loop (twice n) h f = used_nowhere around_file (λ m a. twice_in around_file empty_library m ≡ Some a) n (nothing n, (nothing n, tt)) f
nothing_before_loop (no_such_model n) h f = used_nowhere around_file (λ m a. no_such_model_in around_file empty_library m ≡ Some a) n (nothing n, (nothing n, tt)) f
nothing_before_loop (bad_port n p) h f =
    used_nowhere around_file (λ m (a : Name × Name). bad_port_in around_file empty_library m ≡ Some a) (n, p) (nothing (n, p), (nothing (n, p), tt)) f
nothing_before_loop (recursion n) h f =
    used_nowhere around_file (λ m a. ContainsItself around_file empty_library m × (a ≡ m.name)) n ((λ k. no_way_back k.0), ((λ k. no_inner_ring k.0), tt)) f
nothing_before_loop (latch_inside n) h f =
    used_nowhere around_file (λ m a. HasLatchInside around_file empty_library m × (a ≡ m.name)) n ((λ k. k.0.0 refl), ((λ k. no_latch_inside n (codes "s") k), tt)) f
nothing_before_loop (too_deep n) h f =
    used_nowhere around_file (λ m a. IsTooDeep around_file empty_library m × (a ≡ m.name)) n ((λ k. shallow around_model k.0), ((λ k. shallow through_model k.0), tt)) f
nothing_before_loop (undriven n) h f = used_nowhere around_file (λ m a. undriven_in around_file empty_library m ≡ Some a) n (nothing n, (nothing n, tt)) f
nothing_before_loop (bad_clocking n) h f = nothing n (subst (λ m. clocking_in around_file empty_library m ≡ Some n) (sym (main_is f.0 f.1)) f.2)
nothing_before_loop (loop ns) h f = omega arith
nothing_before_loop (reserved n) h f = omega arith
nothing_before_loop (too_large what) h f = omega arith

-- the only net that is driven within the main model is y, so the input a is settled
driven_is_y : (n k : Name) → ReadsFor around_file empty_library around_model n k → n ≡ codes "y"
driven_is_y n k r = go r.1.0 r.0 r.1.1 r.1.2 r.3
  where
    go : (i : ℕ) (s : Statement) → i < 1 → get_or (the_placement ∷ []) i s ≡ s → IsTrue (stands_in n (drives around_file empty_library s)) → n ≡ codes "y"
    go zero s h e d = one_name n (codes "y") (subst (λ x. IsTrue (stands_in n (drives around_file empty_library x))) (sym e) d)
    go (suc i) s h e d = absurd (omega arith)

a_is_not_y : codes "a" ≡ codes "y" → ⊥
a_is_not_y e = no_true (ap (λ w. same_name w (codes "y")) e)
  where
    no_true : false ≡ true → ⊥
    no_true e = cc

a_reads : (k : Name) → ReadsFor around_file empty_library around_model (codes "a") k → ⊥
a_reads k r = a_is_not_y (driven_is_y (codes "a") k r)

no_loop_at_a : (others : List Name) → IsLoop around_file empty_library around_model (codes "a" ∷ others) → ⊥
no_loop_at_a [] l = a_reads (codes "a") l
no_loop_at_a (k ∷ ks) l = a_reads k l.0

a_is_settled : IsUnsettled around_file empty_library around_model (codes "a") → ⊥
a_is_settled u = go u.way u.entry u.leads u.enters
  where
    go : (way : List Name) (entry : Name) → LeadsTo around_file empty_library around_model (codes "a") way entry → IsLoop around_file empty_library around_model (entry ∷ u.others) → ⊥
    go [] entry h l = no_loop_at_a u.others (subst (λ n. IsLoop around_file empty_library around_model (n ∷ u.others)) (sym h) l)
    go (k ∷ ks) entry h l = a_reads k h.0

y_reads_y : ReadsFor around_file empty_library around_model (codes "y") (codes "y")
y_reads_y = (the_placement, (0, lit< tt, refl), refl, refl, refl)

y_is_first : IsFirstUnsettled around_file empty_library around_model (codes "a" ∷ codes "y" ∷ []) (codes "y")
y_is_first =
    record {
      before = codes "a" ∷ [];
      after = [];
      split = refl;
      unsettled = record { way = []; entry = codes "y"; others = []; leads = refl; enters = y_reads_y };
      settled_before = (a_is_settled, tt);
    }

pub around_is_refused : IsRefusedWith around_file empty_library (loop (codes "y" ∷ []))
around_is_refused =
    record {
      found = record {
        before = [];
        model = around_model;
        after = through_model ∷ [];
        split = refl;
        used = (around_model, refl, 0, refl);
        here = record {
          start = codes "y";
          is_start = y_is_first;
          front = [];
          first = codes "y";
          others = [];
          cycle = refl;
          begins = refl;
          walks = record { driver = the_placement; stands = (0, lit< tt, refl); reads_on = refl; of_net = refl; next = y_is_first };
          once = refl;
        };
        none_before = tt;
      };
      first = nothing_before_loop;
    }
