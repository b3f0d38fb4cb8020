-- Where no net has two drivers, one statement drives it, and none that combines drives a given net.
use Rattle.std.proofs.Common.{◌≡◌, refl, sym, ◌∙◌, ap, subst, ◌+◌, ◌≤◌, List, [], ◌∷◌, ◌++◌, map, true, false, ◌⊎◌, inl, inr, arith}
use Rattle.std.specs.Prelude.{IsTrue, filter_map}
use Rattle.std.specs.List.{cons_option, flat_map}
use Rattle.netlist_spec.specs.Netlist.{Name, Statement, names, latch, subckt, Located, Model, File}
use Rattle.netlist_spec.specs.Reads.{first_appearances}
use Rattle.netlist_spec.specs.Covers.{Library}
use Rattle.netlist_spec.specs.Placed.{port_names}
use Rattle.netlist_spec.specs.Models.{Latch, as_latch, latch_outputs}
use Rattle.netlist_spec.specs.Sound.{combines, drives, driven_nets, HasOneDriverEach, ReadsFor}
use Rattle.netlist_spec.proofs.Occurrences.{occ, occ_append, stands_occ, distinct_occ, first_stands}
use Rattle.source_laws.specs.Settling.{given_nets}
use Rattle.source_laws.proofs.Lists.{Among, among, map_among, among_either, stands, standing}

module _ (n : Name) {A : Type 0} (f : A → List Name) where
  pub occurs : (xs : List A) (x : A) → Among x xs → 1 ≤ occ n (f x) → 1 ≤ occ n (flat_map f xs)
  occurs [] x h k = absurd h
  occurs (y ∷ ys) x (inl e) k =
      let a : occ n (f y ++ flat_map f ys) ≡ occ n (f y) + occ n (flat_map f ys) = occ_append n (f y) (flat_map f ys) in
      let b : 1 ≤ occ n (f y) = subst (λ z. 1 ≤ occ n (f z)) (sym e) k in
      omega arith
  occurs (y ∷ ys) x (inr h) k =
      let a : occ n (f y ++ flat_map f ys) ≡ occ n (f y) + occ n (flat_map f ys) = occ_append n (f y) (flat_map f ys) in
      let b = occurs ys x h k in
      omega arith

  -- where a name occurs once at most, one element has it
  one_has : (xs : List A) → occ n (flat_map f xs) ≤ 1 → (x y : A) → Among x xs → Among y xs → 1 ≤ occ n (f x) → 1 ≤ occ n (f y) → x ≡ y
  one_has [] o x y h k a b = absurd h
  one_has (z ∷ zs) o x y h k a b =
      let all : occ n (f z ++ flat_map f zs) ≡ occ n (f z) + occ n (flat_map f zs) = occ_append n (f z) (flat_map f zs) in
      by_case all (one_has zs) h k
    where
      by_case : occ n (f z ++ flat_map f zs) ≡ occ n (f z) + occ n (flat_map f zs)
          → (occ n (flat_map f zs) ≤ 1 → (x y : A) → Among x zs → Among y zs → 1 ≤ occ n (f x) → 1 ≤ occ n (f y) → x ≡ y)
          → (z ≡ x) ⊎ Among x zs → (z ≡ y) ⊎ Among y zs → x ≡ y
      by_case all later (inl d) (inl e) = sym d ∙ e
      by_case all later (inl d) (inr k) =
          let first : 1 ≤ occ n (f z) = subst (λ w. 1 ≤ occ n (f w)) (sym d) a in
          let second = occurs zs y k b in
          absurd (omega arith)
      by_case all later (inr h) (inl e) =
          let first : 1 ≤ occ n (f z) = subst (λ w. 1 ≤ occ n (f w)) (sym e) b in
          let second = occurs zs x h a in
          absurd (omega arith)
      by_case all later (inr h) (inr k) = later (omega arith) x y h k a b

-- a latch that has this output
pub record LatchOf (q : Name) (ss : List Statement) : Type 0 where
  pub what : Statement
  pub stands_there : Among what ss
  pub is_latch : combines what ≡ false
  pub has : (file : File) (library : Library) → Among q (drives file library what)

latch_later : (q : Name) (s : Statement) (ss : List Statement) → LatchOf q ss → LatchOf q (s ∷ ss)
latch_later q s ss f = record { what = f.what; stands_there = inr f.stands_there; is_latch = f.is_latch; has = f.has }

latch_here : (q : Name) (s : Statement) (latches : List Latch) (ss : List Statement) → (Among q (map (λ l. l.q) latches) → LatchOf q ss) → Among q (map (λ l. l.q) (cons_option (as_latch s) latches)) → LatchOf q (s ∷ ss)
latch_here q (names ins out cover) latches ss f h = latch_later q (names ins out cover) ss (f h)
latch_here q (latch d o clocking init) latches ss f (inl e) = record { what = latch d o clocking init; stands_there = inl refl; is_latch = refl; has = λ file library. inl e }
latch_here q (latch d o clocking init) latches ss f (inr h) = latch_later q (latch d o clocking init) ss (f h)
latch_here q (subckt name binds) latches ss f h = latch_later q (subckt name binds) ss (f h)

pub latch_of : (q : Name) (ss : List Located) → Among q (map (λ l. l.q) (filter_map (λ s. as_latch s.what) ss)) → LatchOf q (map (λ l. l.what) ss)
latch_of q [] h = absurd h
latch_of q (s ∷ ss) h = latch_here q s.what (filter_map (λ s. as_latch s.what) ss) (map (λ l. l.what) ss) (latch_of q ss) h

module _ (file : File) (library : Library) (m : Model) (one : HasOneDriverEach file library m) where
  occurs_once : (n : Name) → occ n (driven_nets file library m) ≤ 1
  occurs_once n = distinct_occ n (driven_nets file library m) one.drivers

  pub drives_once : (n : Name) → occ n (flat_map (λ s. drives file library s.what) m.statements) ≤ 1
  drives_once n =
      let a = occ_append n (first_appearances (port_names m.inputs ++ port_names m.clocks)) (flat_map (λ s. drives file library s.what) m.statements) in
      let b = occurs_once n in
      omega arith

  pub one_driver : (n : Name) (s t : Statement) → Among s (map (λ l. l.what) m.statements) → Among t (map (λ l. l.what) m.statements)
      → Among n (drives file library s) → Among n (drives file library t) → s ≡ t
  one_driver n s t in_s in_t d_s d_t =
      let (l, in_l, is_s) = map_among (λ (l : Located). l.what) m.statements s in_s in
      let (k, in_k, is_t) = map_among (λ (l : Located). l.what) m.statements t in_t in
      let l_has : 1 ≤ occ n (drives file library l.what) = stands_occ n (drives file library l.what) (stands n (drives file library l.what) (subst (λ w. Among n (drives file library w)) (sym is_s) d_s)) in
      let k_has : 1 ≤ occ n (drives file library k.what) = stands_occ n (drives file library k.what) (stands n (drives file library k.what) (subst (λ w. Among n (drives file library w)) (sym is_t) d_t)) in
      let same : l ≡ k = one_has n (λ (s : Located). drives file library s.what) m.statements (drives_once n) l k in_l in_k l_has k_has in
      sym is_s ∙ (ap (λ (l : Located). l.what) same ∙ is_t)

  pub port_is_not_driven : (n : Name) (s : Statement) → Among n (port_names m.inputs ++ port_names m.clocks) → Among s (map (λ l. l.what) m.statements) → Among n (drives file library s) → ⊥
  port_is_not_driven n s h in_s d =
      let (l, in_l, is_s) = map_among (λ (l : Located). l.what) m.statements s in_s in
      let port = stands_occ n _ (first_stands n (port_names m.inputs ++ port_names m.clocks) (stands n _ h)) in
      let has : 1 ≤ occ n (drives file library l.what) = stands_occ n (drives file library l.what) (stands n (drives file library l.what) (subst (λ w. Among n (drives file library w)) (sym is_s) d)) in
      let all = occurs n (λ (s : Located). drives file library s.what) m.statements l in_l has in
      let a = occ_append n (first_appearances (port_names m.inputs ++ port_names m.clocks)) (flat_map (λ s. drives file library s.what) m.statements) in
      let b = occurs_once n in
      absurd (omega arith)

  pub latch_is_not_combined : (n : Name) (s : Statement) → Among n (latch_outputs m) → Among s (map (λ l. l.what) m.statements) → IsTrue (combines s) → Among n (drives file library s) → ⊥
  latch_is_not_combined n s h in_s c d =
      let l = latch_of n m.statements h in
      let same : s ≡ l.what = one_driver n s l.what in_s l.stands_there d (l.has file library) in
      let e : combines s ≡ combines l.what = ap combines same in
      let f : true ≡ false = sym c ∙ (e ∙ l.is_latch) in
      cc f

  -- no statement that combines drives an input, a clock or a latch output
  pub given_is_not_driven : (n : Name) (s : Statement) → Among n (given_nets m) → Among s (map (λ l. l.what) m.statements) → IsTrue (combines s) → Among n (drives file library s) → ⊥
  given_is_not_driven n s h in_s c d =
      elim (among_either (port_names m.inputs ++ port_names m.clocks) (latch_outputs m) n h) [ inl p ↦ port_is_not_driven n s p in_s d | inr q ↦ latch_is_not_combined n s q in_s c d ]

  -- nothing is read for inputs, clocks and latch outputs
  pub given_read_nothing : (n k : Name) → Among n (given_nets m) → ReadsFor file library m n k → ⊥
  given_read_nothing n k h (s, in_s, c, d, r) = given_is_not_driven n s h (among (map (λ l. l.what) m.statements) s in_s) c (standing n (drives file library s) d)
