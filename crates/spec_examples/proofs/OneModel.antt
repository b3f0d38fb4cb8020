-- Files of one model that are refused.
use Rattle.std.proofs.Common.{◌≡◌, refl, sym, ◌∙◌, subst, ℕ, suc, get_or, ◌<◌, ◌≤◌, List, [], ◌∷◌, codes, Option, Some, None, arith, lit≤}
use Rattle.std.specs.List.{flat_map}
use Rattle.netlist_spec.specs.Netlist.{Name, Model, File}
use Rattle.netlist_spec.specs.Covers.{empty_library}
use Rattle.netlist_spec.specs.Sound.{placed_names, Chain, ReadsFor, IsLoop}
use Rattle.netlist_spec.specs.SoundFaults.{SoundFault, twice, no_such_model, bad_port, recursion, latch_inside, too_deep, undriven, bad_clocking, loop, reserved, too_large, rank, IsFirstUsed, Finds, IsRefusedWith, IsWalkedLoop, twice_in, no_such_model_in, bad_port_in, ContainsItself, HasLatchInside, IsTooDeep, undriven_in, clocking_in}
use Rattle.spec_examples.specs.Examples.{driven_twice, not_driven, two_edges, clock_is_read, guard_is_named}
use Rattle.spec_examples.proofs.Single.{one_model, only_chain, main_is}
use Rattle.spec_examples.proofs.TwoModels.{used_nowhere, nothing}

module _ (m : Model) (alone : flat_map (λ s. placed_names s.what) m.statements ≡ []) where
  abbrev the_file : File
  the_file = one_model m alone

  not_at_all : {A : Type 0} (finds : Model → A → Type 0) (a : A) → (finds m a → ⊥) → IsFirstUsed the_file finds a → ⊥
  not_at_all finds a h f = used_nowhere the_file finds a (h, tt) f

  is_none : {A : Type 0} (o : Option A) (a : A) → o ≡ None → o ≡ Some a → ⊥
  is_none o a e f = nothing a (sym e ∙ f)

  -- what is told first, if the tests of lower rank find nothing
  none_earlier : (r : ℕ) → r ≤ 10
      → (1 < r → twice_in the_file empty_library m ≡ None) → (2 < r → no_such_model_in the_file empty_library m ≡ None) → (3 < r → bad_port_in the_file empty_library m ≡ None)
      → (7 < r → undriven_in the_file empty_library m ≡ None) → (8 < r → clocking_in the_file empty_library m ≡ None)
      → (9 < r → (ns : List Name) → IsWalkedLoop the_file empty_library m ns → ⊥)
      → (other : SoundFault) → rank other < r → Finds the_file empty_library other → ⊥
  none_earlier r k e1 e2 e3 e7 e8 e9 (twice n) h f = not_at_all (λ m a. twice_in the_file empty_library m ≡ Some a) n (is_none _ n (e1 h)) f
  none_earlier r k e1 e2 e3 e7 e8 e9 (no_such_model n) h f = not_at_all (λ m a. no_such_model_in the_file empty_library m ≡ Some a) n (is_none _ n (e2 h)) f
  none_earlier r k e1 e2 e3 e7 e8 e9 (bad_port n p) h f = not_at_all (λ m (a : Name × Name). bad_port_in the_file empty_library m ≡ Some a) (n, p) (is_none _ (n, p) (e3 h)) f
  none_earlier r k e1 e2 e3 e7 e8 e9 (recursion n) h f =
      not_at_all (λ m a. ContainsItself the_file empty_library m × (a ≡ m.name)) n (λ c. let e = (only_chain m alone (suc c.0.0) m c.0.1).0 in omega arith) f
  none_earlier r k e1 e2 e3 e7 e8 e9 (latch_inside n) h f = not_at_all (λ m a. HasLatchInside the_file empty_library m × (a ≡ m.name)) n (λ c. c.0.0 refl) f
  none_earlier r k e1 e2 e3 e7 e8 e9 (too_deep n) h f =
      not_at_all (λ m a. IsTooDeep the_file empty_library m × (a ≡ m.name)) n (λ c. flat_only c.0) f
    where
      flat_only : IsTooDeep the_file empty_library m → ⊥
      flat_only d =
          let e = (only_chain m alone d.2 m (subst (λ top. Chain the_file d.2 top m) (sym (main_is m alone d.0 d.1)) d.4)).0 in
          let deep = d.3 in
          omega arith
  none_earlier r k e1 e2 e3 e7 e8 e9 (undriven n) h f = not_at_all (λ m a. undriven_in the_file empty_library m ≡ Some a) n (is_none _ n (e7 h)) f
  none_earlier r k e1 e2 e3 e7 e8 e9 (bad_clocking n) h f =
      is_none (clocking_in the_file empty_library m) n (e8 h) (subst (λ m. clocking_in the_file empty_library m ≡ Some n) (sym (main_is m alone f.0 f.1)) f.2)
  none_earlier r k e1 e2 e3 e7 e8 e9 (loop ns) h f = not_at_all (λ m a. IsWalkedLoop the_file empty_library m a) ns (e9 h ns) f
  none_earlier r k e1 e2 e3 e7 e8 e9 (reserved n) h f = omega arith
  none_earlier r k e1 e2 e3 e7 e8 e9 (too_large what) h f = omega arith

  -- the only model is used, and is the first
  here : {A : Type 0} (finds : Model → A → Type 0) (a : A) → finds m a → IsFirstUsed the_file finds a
  here finds a h = record { before = []; model = m; after = []; split = refl; used = (m, refl, 0, refl); here = h; none_before = tt }

abbrev only : File → Model
only file = get_or file.models 0 (record { name = []; line = 0; names = []; inputs = []; outputs = []; clocks = []; statements = [] })

pub twice_is_refused : IsRefusedWith driven_twice empty_library (twice (codes "y"))
twice_is_refused =
    record {
      found = here (only driven_twice) refl (λ m a. twice_in driven_twice empty_library m ≡ Some a) (codes "y") refl;
      first = none_earlier (only driven_twice) refl 1 (lit≤ tt) (λ h. absurd (omega arith)) (λ h. absurd (omega arith)) (λ h. absurd (omega arith)) (λ h. absurd (omega arith)) (λ h. absurd (omega arith)) (λ h. absurd (omega arith));
    }

pub undriven_is_refused : IsRefusedWith not_driven empty_library (undriven (codes "y"))
undriven_is_refused =
    record {
      found = here (only not_driven) refl (λ m a. undriven_in not_driven empty_library m ≡ Some a) (codes "y") refl;
      first = none_earlier (only not_driven) refl 7 (lit≤ tt) (λ h. refl) (λ h. refl) (λ h. refl) (λ h. absurd (omega arith)) (λ h. absurd (omega arith)) (λ h. absurd (omega arith));
    }

pub edges_are_refused : IsRefusedWith two_edges empty_library (bad_clocking (codes "b"))
edges_are_refused =
    record {
      found = (only two_edges, refl, refl);
      first = none_earlier (only two_edges) refl 8 (lit≤ tt) (λ h. refl) (λ h. refl) (λ h. refl) (λ h. refl) (λ h. absurd (omega arith)) (λ h. absurd (omega arith));
    }

pub read_clock_is_refused : IsRefusedWith clock_is_read empty_library (bad_clocking (codes "c"))
read_clock_is_refused =
    record {
      found = (only clock_is_read, refl, refl);
      first = none_earlier (only clock_is_read) refl 8 (lit≤ tt) (λ h. refl) (λ h. refl) (λ h. refl) (λ h. refl) (λ h. absurd (omega arith)) (λ h. absurd (omega arith));
    }

-- a model without statements has no loop
nothing_reads : (n k : Name) → ReadsFor guard_is_named empty_library (only guard_is_named) n k → ⊥
nothing_reads n k r = let h = r.1.1 in absurd (omega arith)

no_loop : (n : Name) (ns : List Name) → IsLoop guard_is_named empty_library (only guard_is_named) (n ∷ ns) → ⊥
no_loop n [] l = nothing_reads n n l
no_loop n (k ∷ ks) l = nothing_reads n k l.0

pub guard_name_is_refused : IsRefusedWith guard_is_named empty_library (reserved (codes "guard:x"))
guard_name_is_refused =
    record {
      found = (only guard_is_named, refl, refl);
      first = none_earlier (only guard_is_named) refl 10 (lit≤ tt) (λ h. refl) (λ h. refl) (λ h. refl) (λ h. refl) (λ h. refl) (λ h ns w. no_loop w.is_start.unsettled.entry w.is_start.unsettled.others w.is_start.unsettled.enters);
    }
