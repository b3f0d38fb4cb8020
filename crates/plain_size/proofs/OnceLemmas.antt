-- What stands in one place alone: the driver of a net, the latch that shows a net, and the word of a latch.
use Rattle.std.proofs.Common.{◌≡◌, refl, sym, ap, subst, ℕ, zero, suc, ◌+◌, ◌≤◌, Bool, true, false, cond, ◌||◌, List, [], ◌∷◌, ◌++◌, map, count_by, arith, Contains, Some, slice_get}
use Rattle.std.specs.Prelude.{IsTrue, filter_map, ◌==◌}
use Rattle.std.specs.List.{cons_option, flat_map}
use Rattle.std.proofs.lemmas.Bool.Decides.{nat_tests}
use Rattle.std.proofs.lemmas.List.Sums.{sum_by-cons, sum_by-append}
use Rattle.imp_text.proofs.NamesLemmas.{same_name_self}
use Rattle.netlist_spec.specs.Netlist.{Name, stands_in, Statement, names, latch, subckt, Located, Model, File}
use Rattle.netlist_spec.specs.Covers.{Library}
use Rattle.netlist_spec.specs.Models.{Latch, as_latch, latch_outputs}
use Rattle.netlist_spec.specs.Sound.{drives, HasOneDriverEach}
use Rattle.netlist_spec.proofs.Occurrences.{occ, occ_append, stands_occ}
use Rattle.guard_spec.specs.Words.{Words, all_numbers, IsPartition}
use Rattle.source_laws.proofs.Drivers.{drives_once}
use Rattle.size_laws.specs.ConeMarks.{statements_of}
use Rattle.plain_size.specs.Cones.{StandOnce}

module _ {A B : Type 0} (count : List B → ℕ) (adds : (xs ys : List B) → count (xs ++ ys) ≡ count xs + count ys) (f : A → List B) where
  at_counts : (xs : List A) (j : ℕ) (y : A) → slice_get xs j ≡ Some y → count (f y) ≤ count (flat_map f xs)
  at_counts [] j y at = absurd (cc at)
  at_counts (x ∷ xs) zero y at =
      let same : Some x ≡ Some y = at in
      let e : x ≡ y = cc same in
      let a : count (f x ++ flat_map f xs) ≡ count (f x) + count (flat_map f xs) = adds (f x) (flat_map f xs) in
      subst (λ (z : A). count (f z) ≤ count (f x ++ flat_map f xs)) e (omega arith)
  at_counts (x ∷ xs) (suc j) y at =
      let a : count (f x ++ flat_map f xs) ≡ count (f x) + count (flat_map f xs) = adds (f x) (flat_map f xs) in
      let b = at_counts xs j y at in
      omega arith

  -- two places that have it are one
  one_index : (xs : List A) → count (flat_map f xs) ≤ 1 → (i j : ℕ) (x y : A) → slice_get xs i ≡ Some x → slice_get xs j ≡ Some y → 1 ≤ count (f x) → 1 ≤ count (f y) → i ≡ j
  one_index [] few i j x y at also h k = absurd (cc at)
  one_index (z ∷ zs) few zero zero x y at also h k = refl
  one_index (z ∷ zs) few zero (suc j) x y at also h k =
      let same : Some z ≡ Some x = at in
      let e : z ≡ x = cc same in
      let first : 1 ≤ count (f z) = subst (λ (w : A). 1 ≤ count (f w)) (sym e) h in
      let a : count (f z ++ flat_map f zs) ≡ count (f z) + count (flat_map f zs) = adds (f z) (flat_map f zs) in
      let b = at_counts zs j y also in
      absurd (omega arith)
  one_index (z ∷ zs) few (suc i) zero x y at also h k =
      let same : Some z ≡ Some y = also in
      let e : z ≡ y = cc same in
      let first : 1 ≤ count (f z) = subst (λ (w : A). 1 ≤ count (f w)) (sym e) k in
      let a : count (f z ++ flat_map f zs) ≡ count (f z) + count (flat_map f zs) = adds (f z) (flat_map f zs) in
      let b = at_counts zs i x at in
      absurd (omega arith)
  one_index (z ∷ zs) few (suc i) (suc j) x y at also h k =
      let a : count (f z ++ flat_map f zs) ≡ count (f z) + count (flat_map f zs) = adds (f z) (flat_map f zs) in
      ap suc (one_index zs (omega arith) i j x y at also h k)

-- ---- words

-- how often a number stands in a word
abbrev times : ℕ → List ℕ → ℕ
times i word = count_by (λ j. j == i) word

has_number : (word : List ℕ) (i : ℕ) → Contains word i → 1 ≤ times i word
has_number [] i (k, h, e) = absurd (omega arith)
has_number (j ∷ word) i (zero, h, e) =
    let same : j ≡ i = e in
    let b : (j == i) ≡ true = grind (arith, nat_tests) in
    let c : cond {A = ℕ} (j == i) 1 0 ≡ 1 = ap (λ (b : Bool). cond {A = ℕ} b 1 0) b in
    let d : times i (j ∷ word) ≡ cond (j == i) 1 0 + times i word = sum_by-cons (λ (k : ℕ). cond (k == i) 1 0) j word in
    omega arith
has_number (j ∷ word) i (suc k, h, e) =
    let r = has_number word i (k, omega arith, e) in
    let d : times i (j ∷ word) ≡ cond (j == i) 1 0 + times i word = sum_by-cons (λ (k : ℕ). cond (k == i) 1 0) j word in
    omega arith

-- a latch has one word
pub words_once : (n k : ℕ) (words : Words) → IsPartition n k words → StandOnce n words
words_once n k words is i a b u v h at also c d =
    let one : times i (all_numbers words) ≡ 1 = is.each_once i h in
    one_index (times i) (sum_by-append (λ (j : ℕ). cond (j == i) 1 0)) (λ (w : List ℕ). w) words (omega arith) a b u v at also (has_number u i c) (has_number v i d)

-- ---- names

module _ (file : File) (library : Library) (m : Model) (one : HasOneDriverEach file library m) where
  -- the statement that drives a net
  driven_statements : (n : Name) (ss : List Located) → occ n (flat_map (drives file library) (map (λ (s : Located). s.what) ss)) ≡ occ n (flat_map (λ (s : Located). drives file library s.what) ss)
  driven_statements n [] = refl
  driven_statements n (s ∷ ss) =
      let a : occ n (drives file library s.what ++ flat_map (drives file library) (map (λ (s : Located). s.what) ss)) ≡ occ n (drives file library s.what) + occ n (flat_map (drives file library) (map (λ (s : Located). s.what) ss)) = occ_append n (drives file library s.what) (flat_map (drives file library) (map (λ (s : Located). s.what) ss)) in
      let b : occ n (drives file library s.what ++ flat_map (λ (s : Located). drives file library s.what) ss) ≡ occ n (drives file library s.what) + occ n (flat_map (λ (s : Located). drives file library s.what) ss) = occ_append n (drives file library s.what) (flat_map (λ (s : Located). drives file library s.what) ss) in
      let c = driven_statements n ss in
      omega arith

  pub one_driver_place : (n : Name) (i j : ℕ) (s t : Statement) → slice_get (statements_of m) i ≡ Some s → slice_get (statements_of m) j ≡ Some t → IsTrue (stands_in n (drives file library s)) → IsTrue (stands_in n (drives file library t)) → i ≡ j
  one_driver_place n i j s t at also h k =
      let few : occ n (flat_map (drives file library) (statements_of m)) ≤ 1 = (let a = driven_statements n m.statements in let b = drives_once file library m one n in omega arith) in
      one_index (occ n) (occ_append n) (drives file library) (statements_of m) few i j s t at also (stands_occ n (drives file library s) h) (stands_occ n (drives file library t) k)

  -- the latch that shows a net
  shown_less : (n : Name) (s : Statement) (ls : List Latch) (rest : List Name) → occ n (map (λ l. l.q) ls) ≤ occ n rest → occ n (map (λ l. l.q) (cons_option (as_latch s) ls)) ≤ occ n (drives file library s ++ rest)
  shown_less n (names ins out cover) ls rest h = let a = occ_append n (out ∷ []) rest in omega arith
  shown_less n (latch d q clocking init) ls rest h = omega arith
  shown_less n (subckt model binds) ls rest h = let a = occ_append n (drives file library (subckt model binds)) rest in omega arith

  shown_few : (n : Name) (ss : List Located) → occ n (map (λ l. l.q) (filter_map (λ s. as_latch s.what) ss)) ≤ occ n (flat_map (λ (s : Located). drives file library s.what) ss)
  shown_few n [] = omega arith
  shown_few n (s ∷ ss) = shown_less n s.what (filter_map (λ s. as_latch s.what) ss) (flat_map (λ (s : Located). drives file library s.what) ss) (shown_few n ss)

  singles : (n : Name) (ns : List Name) → occ n (flat_map (λ (k : Name). k ∷ []) ns) ≡ occ n ns
  singles n [] = refl
  singles n (k ∷ ns) = let a = singles n ns in omega arith

  itself_counts : (n : Name) → 1 ≤ occ n (n ∷ [])
  itself_counts n = stands_occ n (n ∷ []) (ap (λ (b : Bool). b || false) (same_name_self n))

  pub one_latch_place : (n : Name) (i j : ℕ) → slice_get (latch_outputs m) i ≡ Some n → slice_get (latch_outputs m) j ≡ Some n → i ≡ j
  one_latch_place n i j at also =
      let few : occ n (flat_map (λ (k : Name). k ∷ []) (latch_outputs m)) ≤ 1 = (let a = shown_few n m.statements in let b = drives_once file library m one n in let c = singles n (latch_outputs m) in omega arith) in
      one_index (occ n) (occ_append n) (λ (k : Name). k ∷ []) (latch_outputs m) few i j n n at also (itself_counts n) (itself_counts n)
