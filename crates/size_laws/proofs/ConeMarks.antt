-- What a walk through a cone has marked is the cone.
use Rattle.std.proofs.Common.{◌≡◌, ap, subst, refl, ℕ, zero, suc, ◌⊎◌, inl, inr, Bool, true, List, [], ◌∷◌, length, Contains, Some, slice_get, arith}
use Rattle.std.specs.Prelude.{IsTrue, ◌↔◌}
use Rattle.netlist_spec.specs.Netlist.{Name, stands_in, Statement, Model, File}
use Rattle.netlist_spec.specs.Covers.{Library}
use Rattle.netlist_spec.specs.Sound.{combines, drives, reads}
use Rattle.netlist_spec.specs.Cones.{AreMarked, IsReached, itself, behind, IsInCone}
use Rattle.size_laws.specs.ConeMarks.{statements_of, IsWalked}
use Rattle.size_laws.proofs.Lists.{contains_at, at_contains}

-- marks that agree at each place
marks_at : {A : Type 0} (P : A → Type 0) (xs : List A) (marks : List Bool) → length marks ≡ length xs → ((i : ℕ) (x : A) → slice_get xs i ≡ Some x → slice_get marks i ≡ Some true → P x) → ((i : ℕ) (x : A) → slice_get xs i ≡ Some x → P x → slice_get marks i ≡ Some true) → AreMarked P xs marks
marks_at P [] [] e f g = tt
marks_at P [] (mark ∷ marks) e f g = absurd (omega arith)
marks_at P (x ∷ xs) [] e f g = absurd (omega arith)
marks_at P (x ∷ xs) (mark ∷ marks) e f g = (
  (λ h. f 0 x refl (ap (λ b. Some b) h), λ p. let same : Some mark ≡ Some true = g 0 x refl p in cc same),
  marks_at P xs marks (omega arith) (λ i y a b. f (suc i) y a b) (λ i y a p. g (suc i) y a p),
)

mark_each : {A : Type 0} (P : A → Type 0) (xs : List A) (marks : List Bool) → AreMarked P xs marks → length marks ≡ length xs
mark_each P [] [] a = refl
mark_each P [] (mark ∷ marks) a = absurd a
mark_each P (x ∷ xs) [] a = absurd a
mark_each P (x ∷ xs) (mark ∷ marks) a = ap suc (mark_each P xs marks a.1)

mark_says : {A : Type 0} (P : A → Type 0) (xs : List A) (marks : List Bool) → AreMarked P xs marks → (i : ℕ) (x : A) → slice_get xs i ≡ Some x → slice_get marks i ≡ Some true → P x
mark_says P [] [] a i x at marked = absurd (cc at)
mark_says P [] (mark ∷ marks) a i x at marked = absurd a
mark_says P (y ∷ xs) [] a i x at marked = absurd a
mark_says P (y ∷ xs) (mark ∷ marks) a zero x at marked =
    let same : Some y ≡ Some x = at in
    let e : y ≡ x = cc same in
    let f : mark ≡ true = cc marked in
    subst P e (a.0.0 f)
mark_says P (y ∷ xs) (mark ∷ marks) a (suc i) x at marked = mark_says P xs marks a.1 i x at marked

mark_there : {A : Type 0} (P : A → Type 0) (xs : List A) (marks : List Bool) → AreMarked P xs marks → (i : ℕ) (x : A) → slice_get xs i ≡ Some x → P x → slice_get marks i ≡ Some true
mark_there P [] [] a i x at p = absurd (cc at)
mark_there P [] (mark ∷ marks) a i x at p = absurd a
mark_there P (y ∷ xs) [] a i x at p = absurd a
mark_there P (y ∷ xs) (mark ∷ marks) a zero x at p =
    let e : x ≡ y = cc at in
    ap (λ b. Some b) (a.0.1 (subst P e p))
mark_there P (y ∷ xs) (mark ∷ marks) a (suc i) x at p = mark_there P xs marks a.1 i x at p

module _ (file : File) (library : Library) (m : Model) (x : Name) where
  module _ (marks : List Bool) (w : IsWalked file library m x marks) where
    -- a statement that drives a net that is reached is marked
    driver_marked : (n : Name) → IsReached file library m x n → (j : ℕ) (t : Statement) → slice_get (statements_of m) j ≡ Some t → IsTrue (combines t) → IsTrue (stands_in n (drives file library t)) → slice_get marks j ≡ Some true
    driver_marked n itself j t at c d = w.first j t at c d
    driver_marked n (behind {n = q} way (s, there, combines, drives, reads)) j t at c d =
        let (i, here) = at_contains (statements_of m) s there in
        w.behind i j s t n here (driver_marked q way i s here combines drives) reads at c d

    pub walked_marks : AreMarked (IsInCone file library m x) (statements_of m) marks
    walked_marks = marks_at (IsInCone file library m x) (statements_of m) marks w.each w.alone (λ j t at p. driver_marked p.1 p.3 j t at p.0 p.2)

  module _ (marks : List Bool) (are : AreMarked (IsInCone file library m x) (statements_of m) marks) where
    in_cone : (j : ℕ) (t : Statement) → slice_get (statements_of m) j ≡ Some t → slice_get marks j ≡ Some true → IsInCone file library m x t
    in_cone j t at marked = mark_says (IsInCone file library m x) (statements_of m) marks are j t at marked

    pub marks_walked : IsWalked file library m x marks
    marks_walked = record {
      each = mark_each (IsInCone file library m x) (statements_of m) marks are;
      alone = in_cone;
      first = λ i s at c d. mark_there (IsInCone file library m x) (statements_of m) marks are i s at (c, x, d, itself);
      behind = λ i j s t k here marked reads at c d.
          let (cs, n, ds, way) = in_cone i s here marked in
          mark_there (IsInCone file library m x) (statements_of m) marks are j t at (c, k, d, behind way (s, contains_at (statements_of m) i s here, cs, ds, reads));
    }

  -- a net is reached if it is the net itself, or is read by a statement of the cone
  pub reached_by_cone : (k : Name) → IsReached file library m x k ↔ ((x ≡ k) ⊎ ((s : Statement) × Contains (statements_of m) s × IsInCone file library m x s × IsTrue (stands_in k (reads file library s))))
  reached_by_cone k = (to k, from)
    where
      to : (k : Name) → IsReached file library m x k → (x ≡ k) ⊎ ((s : Statement) × Contains (statements_of m) s × IsInCone file library m x s × IsTrue (stands_in k (reads file library s)))
      to k itself = inl refl
      to k (behind {n = n} way (s, there, c, d, r)) = inr (s, there, (c, n, d, way), r)

      from : (x ≡ k) ⊎ ((s : Statement) × Contains (statements_of m) s × IsInCone file library m x s × IsTrue (stands_in k (reads file library s))) → IsReached file library m x k
      from (inl e) = subst (λ (n : Name). IsReached file library m x n) e itself
      from (inr (s, there, (c, n, d, way), r)) = behind way (s, there, c, d, r)
