-- The cones of a concrete netlist, by tests that compute.
use Rattle.std.proofs.Common.{◌≡◌, refl, sym, subst, ℕ, zero, suc, List, [], ◌∷◌, map, Bool, true, false, not, ◌&&◌, ◌||◌, ◌⊎◌, inl, inr, Contains, IsTrue}
use Rattle.std.specs.List.{list_all, list_any}
use Rattle.std.specs.Cmp.Lexicographic.{bytes_decides}
use Rattle.netlist_spec.specs.Netlist.{Name, same_name, stands_in, Statement, Model, File}
use Rattle.netlist_spec.specs.Covers.{Library}
use Rattle.netlist_spec.specs.Sound.{combines, drives, reads}
use Rattle.netlist_spec.specs.Cones.{AreMarked, IsReached, itself, behind, IsInCone}
use Rattle.netlist_spec.proofs.ListTests.{both, either, implies, any_element, any_from, all_at}

module _ (file : File) (library : Library) (m : Model) where
  abbrev statements_of : List Statement
  statements_of = map (λ s. s.what) m.statements

  -- the statement drives one of these nets within a cycle
  abbrev pub drives_some : List Name → Statement → Bool
  drives_some found s = combines s && list_any (λ n. stands_in n found) (drives file library s)

  -- nothing else is read behind these nets
  abbrev pub is_cone_closed : List Name → Bool
  is_cone_closed found = list_all (λ s. not (drives_some found s) || list_all (λ k. stands_in k found) (reads file library s)) (map (λ s. s.what) m.statements)

  -- a way of at most so many statements
  abbrev leads_back : ℕ → Name → Name → Bool
  leads_back zero x k = same_name x k
  leads_back (suc steps) x k =
      same_name x k
      || list_any (λ s. combines s && (stands_in k (reads file library s) && list_any (λ n. leads_back steps x n) (drives file library s))) (map (λ s. s.what) m.statements)

  abbrev pub are_reached : ℕ → Name → List Name → Bool
  are_reached steps x found = list_all (λ k. leads_back steps x k) found

  same_self : (n : Name) → same_name n n ≡ true
  same_self n = (bytes_decides n n).1 refl

  stands_at : (k : Name) (ns : List Name) → Contains ns k → stands_in k ns ≡ true
  stands_at k ns c = any_from (same_name k) ns k c (same_self k)

  at_name : (k : Name) (ns : List Name) → stands_in k ns ≡ true → Contains ns k
  at_name k ns h = let (j, c, e) = any_element (same_name k) ns h in subst (λ (n : Name). Contains ns n) (sym ((bytes_decides k j).0 e)) c

  both_true : (a : Bool) {b : Bool} → a ≡ true → b ≡ true → (a && b) ≡ true
  both_true true e f = f
  both_true false e f = cc e

  within : (x : Name) (found : List Name) → stands_in x found ≡ true → is_cone_closed found ≡ true → {k : Name} → IsReached file library m x k → stands_in k found ≡ true
  within x found start closed itself = start
  within x found start closed (behind {n = n} {k = k} way (s, in_list, c, d, r)) =
      all_at (λ k. stands_in k found) (reads file library s)
      (implies (drives_some found s) _ (all_at (λ s. not (drives_some found s) || list_all (λ k. stands_in k found) (reads file library s)) (map (λ s. s.what) m.statements) closed s in_list)
      (both_true (combines s) c (any_from (λ n. stands_in n found) (drives file library s) n (at_name n (drives file library s) d) (within x found start closed way))))
      k (at_name k (reads file library s) r)

  way_back : (steps : ℕ) (x k : Name) → leads_back steps x k ≡ true → IsReached file library m x k
  way_back zero x k h = subst (λ (n : Name). IsReached file library m x n) ((bytes_decides x k).0 h) itself
  way_back (suc steps) x k h = by_case (way_back steps x) (either (same_name x k) _ h)
    where
      by_case : ((n : Name) → leads_back steps x n ≡ true → IsReached file library m x n) → (same_name x k ≡ true) ⊎ (list_any (λ s. combines s && (stands_in k (reads file library s) && list_any (λ n. leads_back steps x n) (drives file library s))) (map (λ s. s.what) m.statements) ≡ true) → IsReached file library m x k
      by_case before (inl e) = subst (λ (n : Name). IsReached file library m x n) ((bytes_decides x k).0 e) itself
      by_case before (inr e) =
          let (s, in_list, f) = any_element (λ s. combines s && (stands_in k (reads file library s) && list_any (λ n. leads_back steps x n) (drives file library s))) (map (λ s. s.what) m.statements) e in
          let (c, rest) = both (combines s) _ f in
          let (r, some) = both (stands_in k (reads file library s)) _ rest in
          let (n, d, w) = any_element (λ n. leads_back steps x n) (drives file library s) some in
          behind (before n w) (s, in_list, c, stands_at n (drives file library s) d, r)

  -- The marks of a cone, where `found` are the nets that are reached.
  pub cone_marks : (steps : ℕ) (x : Name) (found : List Name) → stands_in x found ≡ true → is_cone_closed found ≡ true → are_reached steps x found ≡ true
      → (ss : List Statement) → AreMarked (IsInCone file library m x) ss (map (drives_some found) ss)
  cone_marks steps x found start closed back [] = tt
  cone_marks steps x found start closed back (s ∷ ss) = ((into, out), cone_marks steps x found start closed back ss)
    where
      into : IsTrue (drives_some found s) → IsInCone file library m x s
      into h =
          let (c, some) = both (combines s) _ h in
          let (n, d, f) = any_element (λ n. stands_in n found) (drives file library s) some in
          (c, n, stands_at n (drives file library s) d, way_back steps x n (all_at (λ k. leads_back steps x k) found back n (at_name n found f)))

      out : IsInCone file library m x s → IsTrue (drives_some found s)
      out (c, n, d, way) = both_true (combines s) c (any_from (λ n. stands_in n found) (drives file library s) n (at_name n (drives file library s) d) (within x found start closed way))
