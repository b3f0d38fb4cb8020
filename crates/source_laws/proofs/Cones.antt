-- Cones, their members and their costs.
use Rattle.std.proofs.Common.{◌≡◌, refl, sym, ◌∙◌, ap, ap₂, subst, ℕ, zero, suc, List, [], ◌∷◌, map, Bool, true, false, ◌⊎◌, inl, inr, Some, Contains}
use Rattle.std.specs.Prelude.{IsTrue, ◌↔◌, slice_get}
use Rattle.netlist_spec.specs.Netlist.{Name, stands_in, Statement, Model, File}
use Rattle.netlist_spec.specs.Covers.{Library}
use Rattle.netlist_spec.specs.Models.{latch_outputs}
use Rattle.netlist_spec.specs.Size.{cost_of}
use Rattle.netlist_spec.specs.Sound.{drives, reads, HasOneDriverEach, ReadsFor}
use Rattle.netlist_spec.specs.Cones.{marked_sum, AreMarked, IsReached, itself, behind, IsInCone, ConeCostOf, RestsOnLatch}
use Rattle.source_laws.specs.Settling.{given_nets}
use Rattle.source_laws.specs.Costs.{statements_of, IsInConeBehind, RestsBehind, IsDriver}
use Rattle.source_laws.proofs.Lists.{Among, among, standing}
use Rattle.source_laws.proofs.Drivers.{one_driver, latch_is_not_combined, given_is_not_driven, given_read_nothing}

-- ---- marks

same_mark : (a b : Bool) (P : Type 0) → IsTrue a ↔ P → IsTrue b ↔ P → a ≡ b
same_mark true true P f g = refl
same_mark true false P f g = let e : false ≡ true = g.1 (f.0 refl) in cc e
same_mark false true P f g = let e : false ≡ true = f.1 (g.0 refl) in cc e
same_mark false false P f g = refl

pub one_marking : {A : Type 0} (P : A → Type 0) (xs : List A) (bs cs : List Bool) → AreMarked P xs bs → AreMarked P xs cs → bs ≡ cs
one_marking P [] [] [] f g = refl
one_marking P [] [] (c ∷ cs) f g = absurd g
one_marking P [] (b ∷ bs) cs f g = absurd f
one_marking P (x ∷ xs) [] cs f g = absurd f
one_marking P (x ∷ xs) (b ∷ bs) [] f g = absurd g
one_marking P (x ∷ xs) (b ∷ bs) (c ∷ cs) f g = ap₂ (λ (y : Bool) (ys : List Bool). y ∷ ys) (same_mark b c (P x) f.0 g.0) (one_marking P xs bs cs f.1 g.1)

pub one_cost : (file : File) (library : Library) (m : Model) (x : Name) (a b : ℕ) → ConeCostOf file library m x a → ConeCostOf file library m x b → a ≡ b
one_cost file library m x a b (bs, is_bs, sum_bs) (cs, is_cs, sum_cs) =
    sum_bs ∙ (ap (marked_sum (cost_of file library) (map (λ s. s.what) m.statements)) (one_marking (IsInCone file library m x) (map (λ s. s.what) m.statements) bs cs is_bs is_cs) ∙ sym sum_cs)

-- ---- what is reached

module _ (file : File) (library : Library) (m : Model) where
  pub reached_on : {x y z : Name} → IsReached file library m x y → IsReached file library m y z → IsReached file library m x z
  reached_on a itself = a
  reached_on a (behind b r) = behind (reached_on a b) r

  -- a net that is reached is the net itself, or reached from one that its driver reads
  pub first_read : {x y : Name} → IsReached file library m x y → (x ≡ y) ⊎ ((k : Name) × ReadsFor file library m x k × IsReached file library m k y)
  first_read itself = inl refl
  first_read {x = x} (behind {n = n} {k = z} a r) =
      elim (first_read a) [
        | inl e ↦ inr (z, subst (λ w. ReadsFor file library m w z) (sym e) r, itself)
        | inr f ↦ inr (f.0, f.1, behind f.2 r)
      ]

  pub cone_on : (x k : Name) (t : Statement) → IsReached file library m x k → IsInCone file library m k t → IsInCone file library m x t
  cone_on x k t a (c, n, d, b) = (c, n, d, reached_on a b)

  module _ (one : HasOneDriverEach file library m) where
    only_driver : (s : Statement) (x : Name) → IsDriver file library m s x → (t : Statement) → Contains (statements_of m) t → IsTrue (stands_in x (drives file library t)) → s ≡ t
    only_driver s x d t in_t d_t =
        one_driver file library m one x s t (among (statements_of m) s d.stands) (among (statements_of m) t in_t) (standing x (drives file library s) d.drives) (standing x (drives file library t) d_t)

    reads_of_driver : (s : Statement) (x k : Name) → IsDriver file library m s x → ReadsFor file library m x k → IsTrue (stands_in k (reads file library s))
    reads_of_driver s x k d (t, in_t, c, d_t, r) = subst (λ w. IsTrue (stands_in k (reads file library w))) (sym (only_driver s x d t in_t d_t)) r

    driver_reads : (s : Statement) (x k : Name) → IsDriver file library m s x → IsTrue (stands_in k (reads file library s)) → ReadsFor file library m x k
    driver_reads s x k d r = (s, d.stands, d.combines, d.drives, r)

    cone_of_driver : (s : Statement) (x : Name) → IsDriver file library m s x → (t : Statement) → Contains (statements_of m) t → IsInCone file library m x t ↔ ((s ≡ t) ⊎ IsInConeBehind file library m s t)
    cone_of_driver s x d t in_t = (into, out)
      where
        into : IsInCone file library m x t → (s ≡ t) ⊎ IsInConeBehind file library m s t
        into (c, n, d_t, way) =
            elim (first_read way) [
              | inl e ↦ inl (only_driver s x d t in_t (subst (λ y. IsTrue (stands_in y (drives file library t))) (sym e) d_t))
              | inr f ↦ inr (f.0, reads_of_driver s x f.0 d f.1, (c, n, d_t, f.2))
            ]

        out : (s ≡ t) ⊎ IsInConeBehind file library m s t → IsInCone file library m x t
        out (inl e) = subst (IsInCone file library m x) e (d.combines, x, d.drives, itself)
        out (inr (k, r, inner)) = cone_on x k t (behind itself (driver_reads s x k d r)) inner

    rests_by_reads : (s : Statement) (x : Name) → IsDriver file library m s x → (i : ℕ) → RestsOnLatch file library m x i ↔ RestsBehind file library m s i
    rests_by_reads s x d i = (into, out)
      where
        at_latch : (ns : List Name) (i : ℕ) (q : Name) → slice_get ns i ≡ Some q → Among q ns
        at_latch [] i q e = cc e
        at_latch (n ∷ ns) zero q e = inl (let same : n ≡ q = cc e in same)
        at_latch (n ∷ ns) (suc i) q e = inr (at_latch ns i q e)

        into : RestsOnLatch file library m x i → RestsBehind file library m s i
        into (q, at, way) =
            elim (first_read way) [
              | inl e ↦ absurd (latch_is_not_combined file library m one x s (subst (λ y. Among y (latch_outputs m)) (sym e) (at_latch (latch_outputs m) i q at)) (among (statements_of m) s d.stands) d.combines (standing x (drives file library s) d.drives))
              | inr f ↦ (f.0, reads_of_driver s x f.0 d f.1, (q, at, f.2))
            ]

        out : RestsBehind file library m s i → RestsOnLatch file library m x i
        out (k, r, (q, at, way)) = (q, at, reached_on (behind itself (driver_reads s x k d r)) way)

    pub driver_and_reads : (s : Statement) (x : Name) → IsDriver file library m s x
        → ((t : Statement) → Contains (statements_of m) t → IsInCone file library m x t ↔ ((s ≡ t) ⊎ IsInConeBehind file library m s t)) × ((i : ℕ) → RestsOnLatch file library m x i ↔ RestsBehind file library m s i)
    driver_and_reads s x d = (cone_of_driver s x d, rests_by_reads s x d)

    pub given_has_no_cone : (x : Name) → IsTrue (stands_in x (given_nets m)) → (t : Statement) → Contains (statements_of m) t → IsInCone file library m x t → ⊥
    given_has_no_cone x given t in_t (c, n, d, way) =
        elim (first_read way) [
          | inl e ↦
              given_is_not_driven file library m one x t (standing x (given_nets m) given) (among (statements_of m) t in_t) c
              (standing x (drives file library t) (subst (λ y. IsTrue (stands_in y (drives file library t))) (sym e) d))
          | inr f ↦ given_read_nothing file library m one x f.0 (standing x (given_nets m) given) f.1
        ]
