-- A file has at most one refusal.
use Rattle.std.proofs.Common.{◌≡◌, refl, sym, ◌∙◌, ap, subst, ℕ, ◌<◌, ◌⊎◌, inl, inr, Option, Some, None, arith}
use Rattle.netlist_spec.specs.Netlist.{Name, Model, File}
use Rattle.netlist_spec.specs.Covers.{Library}
use Rattle.netlist_spec.specs.Sound.{IsMain, IsUsed, HasOneDriverEach}
use Rattle.netlist_spec.specs.SoundFaults.{SoundFault, twice, no_such_model, bad_port, recursion, latch_inside, too_deep, undriven, bad_clocking, loop, reserved, too_large, rank, twice_in, no_such_model_in, bad_port_in, ContainsItself, HasLatchInside, IsTooDeep, undriven_in, clocking_in, IsWalkedLoop, reserved_in, too_large_in, Finds, IsRefusedWith}
use Rattle.source_laws.proofs.Tests.{one_driver_each}
use Rattle.refusal_laws.proofs.FirstFound.{same_found, none_used}
use Rattle.refusal_laws.proofs.Walk.{one_walked_loop}

one_answer : {A : Type 0} (o : Option A) (a b : A) → o ≡ Some a → o ≡ Some b → a ≡ b
one_answer o a b e f = let both : Some a ≡ Some b = sym e ∙ f in cc both

-- what is found in the main model
in_main : {A : Type 0} (file : File) (answer : Model → Option A) (a b : A) (m k : Model) → IsMain file m → IsMain file k → answer m ≡ Some a → answer k ≡ Some b → a ≡ b
in_main file answer a b m k f g e h =
    let same : m ≡ k = (let both : Some m ≡ Some k = sym f ∙ g in cc both) in
    one_answer (answer k) a b (subst (λ x. answer x ≡ Some a) same e) h

none_is : {A : Type 0} (o : Option A) → ((a : A) → o ≡ Some a → ⊥) → o ≡ None
none_is None f = refl
none_is (Some a) f = absurd (f a refl)

module _ (file : File) (library : Library) where
  -- what an answer of each model tells
  by_answer : {A : Type 0} (answer : Model → Option A) (m : Model) (a b : A) → IsUsed file m → answer m ≡ Some a → answer m ≡ Some b → a ≡ b
  by_answer answer m a b used e f = one_answer (answer m) a b e f

  by_name : (P : Model → Type 0) (m : Model) (a b : Name) → IsUsed file m → P m × (a ≡ m.name) → P m × (b ≡ m.name) → a ≡ b
  by_name P m a b used e f = e.1 ∙ sym f.1

  pub one_each : ((n : Name) → Finds file library (twice n) → ⊥) → (m : Model) → IsUsed file m → HasOneDriverEach file library m
  one_each none m used =
      one_driver_each file library m (none_is (twice_in file library m) (none_used file (λ m a. twice_in file library m ≡ Some a) none m used))

  -- faults of one rank
  of_rank : (f g : SoundFault) → rank f ≡ rank g → (8 < rank f → (n : Name) → Finds file library (twice n) → ⊥) → Finds file library f → Finds file library g → f ≡ g
  of_rank (twice n) (twice k) e none a b = ap twice (same_found file (λ m a. twice_in file library m ≡ Some a) n k (by_answer (twice_in file library)) a b)
  of_rank (twice n) g e none a b = cc e
  of_rank (no_such_model n) (no_such_model k) e none a b = ap no_such_model (same_found file (λ m a. no_such_model_in file library m ≡ Some a) n k (by_answer (no_such_model_in file library)) a b)
  of_rank (no_such_model n) g e none a b = cc e
  of_rank (bad_port n f) (bad_port k h) e none a b =
      let same = same_found file (λ m (a : Name × Name). bad_port_in file library m ≡ Some a) (n, f) (k, h) (by_answer (bad_port_in file library)) a b in
      ap (λ (p : Name × Name). bad_port p.0 p.1) same
  of_rank (bad_port n f) g e none a b = cc e
  of_rank (recursion n) (recursion k) e none a b = ap recursion (same_found file (λ m a. ContainsItself file library m × (a ≡ m.name)) n k (by_name (ContainsItself file library)) a b)
  of_rank (recursion n) g e none a b = cc e
  of_rank (latch_inside n) (latch_inside k) e none a b = ap latch_inside (same_found file (λ m a. HasLatchInside file library m × (a ≡ m.name)) n k (by_name (HasLatchInside file library)) a b)
  of_rank (latch_inside n) g e none a b = cc e
  of_rank (too_deep n) (too_deep k) e none a b = ap too_deep (same_found file (λ m a. IsTooDeep file library m × (a ≡ m.name)) n k (by_name (IsTooDeep file library)) a b)
  of_rank (too_deep n) g e none a b = cc e
  of_rank (undriven n) (undriven k) e none a b = ap undriven (same_found file (λ m a. undriven_in file library m ≡ Some a) n k (by_answer (undriven_in file library)) a b)
  of_rank (undriven n) g e none a b = cc e
  of_rank (bad_clocking n) (bad_clocking k) e none a b = ap bad_clocking (in_main file (clocking_in file library) n k a.0 b.0 a.1 b.1 a.2 b.2)
  of_rank (bad_clocking n) g e none a b = cc e
  of_rank (loop ns) (loop ks) e none a b =
      ap loop (same_found file (λ m a. IsWalkedLoop file library m a) ns ks (λ m x y used v w. one_walked_loop file library m (one_each (none (omega arith)) m used) x y v w) a b)
  of_rank (loop ns) g e none a b = cc e
  of_rank (reserved n) (reserved k) e none a b = ap reserved (in_main file (reserved_in file library) n k a.0 b.0 a.1 b.1 a.2 b.2)
  of_rank (reserved n) g e none a b = cc e
  of_rank (too_large n) (too_large k) e none a b = ap too_large (in_main file (too_large_in file library) n k a.0 b.0 a.1 b.1 a.2 b.2)
  of_rank (too_large n) g e none a b = cc e

  in_order : (a b : ℕ) → (a < b) ⊎ ((a ≡ b) ⊎ (b < a))
  in_order a b = grind arith

  pub one_refusal : (f g : SoundFault) → IsRefusedWith file library f → IsRefusedWith file library g → f ≡ g
  one_refusal f g v w = by_case (in_order (rank f) (rank g))
    where
      by_case : (rank f < rank g) ⊎ ((rank f ≡ rank g) ⊎ (rank g < rank f)) → f ≡ g
      by_case (inl h) = absurd (w.first f h v.found)
      by_case (inr (inl e)) = of_rank f g e (λ late n. v.first (twice n) (omega arith)) v.found w.found
      by_case (inr (inr h)) = absurd (v.first g h w.found)
