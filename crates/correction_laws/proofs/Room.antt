-- The correctors of needed words together take at most the size of the guard.
use Rattle.std.proofs.Common.{◌≡◌, refl, sym, ◌∙◌, ap, subst, ℕ, zero, suc, ◌+◌, ◌==◌, ◌<◌, ◌≤◌, ◌⊎◌, ◌≢◌, inl, inr, Bool, true, false, cond, List, [], ◌∷◌, ◌++◌, length, map, get_or, drop, slice_get, Some, sum_by, arith, Contains, ne_eqb}
use Rattle.std.specs.List.{AllZip, flat_map}
use Rattle.std.proofs.lemmas.Bool.{cases_eq}
use Rattle.std.proofs.lemmas.Option.{slice_get_within, same_Some}
use Rattle.std.proofs.lemmas.List.Sums.{sum_by-cons, sum_by-append}
use Rattle.netlist_spec.specs.Gates.{GateList, Machine}
use Rattle.guard_spec.specs.Codes.{Code, correct}
use Rattle.guard_spec.specs.Words.{Words, Layout, IsPartition}
use Rattle.netlist_spec.specs.Cones.{AreMarked, marked_sum}
use Rattle.guard_spec.specs.Plain.{AreNets, corrector_cost, word_cost, IsMachineSizeWith}
use Rattle.cone_split.proofs.Cells.{contains_cases, contains_head, contains_tail, at_contains}
use Rattle.containment.proofs.Counting.{number, number_counts, number_append}
use Rattle.correction_laws.specs.Few.{NetCost}
use Rattle.correction_laws.specs.Joined.{Corrector, AreCorrectors, NeedsWord}
use Rattle.correction_laws.specs.Room.{IsNeeded, AreNeeded}

-- ---- lists of marks

abbrev rest : List Bool → List Bool
rest ms = drop 1 ms

-- each mark stands in one of the lists
abbrev Covered : List Bool → List (List Bool) → Type 0
Covered bs mss = (i : ℕ) → get_or bs i false ≡ true → (ms : List Bool) × Contains mss ms × (get_or ms i false ≡ true)

module _ {A : Type 0} (f : A → ℕ) where
  abbrev heads : A → List Bool → ℕ
  heads w ms = cond (get_or ms 0 false) (f w) 0

  parts : (w : A) (ws : List A) (ms : List Bool) → marked_sum f (w ∷ ws) ms ≡ heads w ms + marked_sum f ws (rest ms)
  parts w ws [] = none ws
    where
      none : (ws : List A) → 0 ≡ 0 + marked_sum f ws []
      none [] = refl
      none (x ∷ ws) = refl
  parts w ws (m ∷ ms) = refl

  all_parts : (w : A) (ws : List A) (mss : List (List Bool)) → sum_by (λ ms. marked_sum f (w ∷ ws) ms) mss ≡ sum_by (heads w) mss + sum_by (λ ms. marked_sum f ws ms) (map rest mss)
  all_parts w ws [] = refl
  all_parts w ws (ms ∷ mss) =
      let a = sum_by-cons (λ ms. marked_sum f (w ∷ ws) ms) ms mss in
      let b = sum_by-cons (heads w) ms mss in
      let c = sum_by-cons (λ ms. marked_sum f ws ms) (rest ms) (map rest mss) in
      let d = all_parts w ws mss in
      let e = parts w ws ms in
      omega arith

  some_head : (w : A) (mss : List (List Bool)) (ms : List Bool) → Contains mss ms → get_or ms 0 false ≡ true → f w ≤ sum_by (heads w) mss
  some_head w [] ms c e = absurd (let h = c.1 in omega arith)
  some_head w (x ∷ mss) ms c e =
      let a = sum_by-cons (heads w) x mss in
      by_place (contains_cases x ms mss c) (λ d. some_head w mss ms d e) a
    where
      by_place : (x ≡ ms) ⊎ Contains mss ms → (Contains mss ms → f w ≤ sum_by (heads w) mss) → sum_by (heads w) (x ∷ mss) ≡ heads w x + sum_by (heads w) mss → f w ≤ sum_by (heads w) (x ∷ mss)
      by_place (inl same) later a =
          let b : heads w x ≡ f w = ap (λ (q : Bool). cond q (f w) 0) (ap (λ (q : List Bool). get_or q 0 false) same ∙ e) in
          omega arith
      by_place (inr d) later a = let b = later d in omega arith

  rest_contains : (mss : List (List Bool)) (ms : List Bool) → Contains mss ms → Contains (map rest mss) (rest ms)
  rest_contains [] ms c = absurd (let h = c.1 in omega arith)
  rest_contains (x ∷ mss) ms c = elim (contains_cases x ms mss c) [
    | inl e ↦ subst (λ (q : List Bool). Contains (map rest (x ∷ mss)) (rest q)) e (contains_head (rest x) (map rest mss))
    | inr d ↦ contains_tail (rest x) (rest ms) (map rest mss) (rest_contains mss ms d)
  ]

  rest_at : (ms : List Bool) (i : ℕ) → get_or (rest ms) i false ≡ get_or ms (suc i) false
  rest_at [] i = refl
  rest_at (m ∷ ms) i = refl

  covered_sum : (ws : List A) (bs : List Bool) (mss : List (List Bool)) → Covered bs mss → marked_sum f ws bs ≤ sum_by (λ ms. marked_sum f ws ms) mss
  covered_sum [] bs mss c = omega arith
  covered_sum (w ∷ ws) [] mss c = omega arith
  covered_sum (w ∷ ws) (b ∷ bs) mss c =
      let later = covered_sum ws bs (map rest mss) (λ i e. let (ms, inside, f) = c (suc i) e in (rest ms, rest_contains mss ms inside, rest_at ms i ∙ f)) in
      let a = all_parts w ws mss in
      let h = by_mark b (λ e. c 0 e) in
      omega arith
    where
      by_mark : (b : Bool) → (b ≡ true → (ms : List Bool) × Contains mss ms × (get_or ms 0 false ≡ true)) → cond b (f w) 0 ≤ sum_by (heads w) mss
      by_mark true c = let (ms, inside, e) = c refl in some_head w mss ms inside e
      by_mark false c = omega arith

-- ---- what bits pay for correctors

contains_left : {A : Type 0} (xs ys : List A) (x : A) → Contains xs x → Contains (xs ++ ys) x
contains_left [] ys x c = absurd (let h = c.1 in omega arith)
contains_left (y ∷ xs) ys x (zero, h, e) = (0, omega arith, e)
contains_left (y ∷ xs) ys x (suc k, h, e) = contains_tail y x (xs ++ ys) (contains_left xs ys x (k, omega arith, e))

contains_right : {A : Type 0} (xs ys : List A) (x : A) → Contains ys x → Contains (xs ++ ys) x
contains_right [] ys x c = c
contains_right (y ∷ xs) ys x c = contains_tail y x (xs ++ ys) (contains_right xs ys x c)

module _ (source : Machine) (code : Code) (t : ℕ) (l : Layout) where
  abbrev Net : ℕ → ℕ → Type 0
  Net x n = NetCost source code correct t l x n

  abbrev cost : List Bool → ℕ
  cost ms = marked_sum (λ w. corrector_cost code t (length w)) l.state ms

  -- lists of marks that cost so much, and one of them for each of the nets
  abbrev Pays : (ℕ → Type 0) → ℕ → Type 0
  Pays S total = (mss : List (List Bool)) × (sum_by cost mss ≤ total) × ((x : ℕ) → S x → (ms : List Bool) × Contains mss ms × AreMarked (NeedsWord source x) l.state ms)

  nets_pay : (nets costs : List ℕ) → AllZip Net nets costs → Pays (λ x. Contains nets x) (sum_by (λ n. n) costs)
  nets_pay [] [] zip = ([], omega arith, λ x c. absurd (let h = c.1 in omega arith))
  nets_pay [] (n ∷ costs) zip = absurd zip
  nets_pay (x ∷ nets) [] zip = absurd zip
  nets_pay (x ∷ nets) (n ∷ costs) zip =
      let (mss, few, each) = nets_pay nets costs zip.1 in
      let bit = zip.0 in
      let (ms, marked, e) = bit.are_correctors in
      let a = sum_by-cons cost ms mss in
      let b = sum_by-cons (λ (k : ℕ). k) n costs in
      let f = bit.total in (
        ms ∷ mss,
        omega arith,
        λ y c. elim (contains_cases x y nets c) [
          | inl same ↦ (ms, contains_head ms mss, subst (λ (q : ℕ). AreMarked (NeedsWord source q) l.state ms) same marked)
          | inr d ↦ (let (ks, inside, g) = each y d in (ks, contains_tail ms ks mss inside, g))
        ],
      )

  in_nets : (all w nets : List ℕ) (i x : ℕ) → AreNets all w nets → Contains w i → slice_get all i ≡ Some x → Contains nets x
  in_nets all [] nets i x are c at = absurd (let h = c.1 in omega arith)
  in_nets all (j ∷ w) [] i x are c at = absurd are
  in_nets all (j ∷ w) (n ∷ nets) i x are c at = elim (contains_cases j i w c) [
    | inl e ↦ (0, omega arith, same_Some n x (sym are.0 ∙ (ap (slice_get all) e ∙ at)))
    | inr d ↦ contains_tail n x nets (in_nets all w nets i x are.1 d at)
  ]

  abbrev OfWord : List ℕ → List ℕ → ℕ → Type 0
  OfWord all word total = (nets : List ℕ) × AreNets all word nets × ((costs : List ℕ) × AllZip Net nets costs × (total ≡ word_cost code costs))

  -- a net of the list that stands in some word
  abbrev InWords : List ℕ → Words → ℕ → Type 0
  InWords all ws x = (w : List ℕ) × Contains ws w × ((i : ℕ) × Contains w i × (slice_get all i ≡ Some x))

  words_pay : (all : List ℕ) (ws : Words) (totals : List ℕ) → AllZip (OfWord all) ws totals → Pays (InWords all ws) (sum_by (λ n. n) totals)
  words_pay all [] [] each = ([], omega arith, λ x (w, c, other). absurd (let h = c.1 in omega arith))
  words_pay all [] (n ∷ totals) each = absurd each
  words_pay all (w ∷ ws) [] each = absurd each
  words_pay all (w ∷ ws) (n ∷ totals) each =
      let (nets, are, (costs, zip, e)) = each.0 in
      let (mss, few, right) = nets_pay nets costs zip in
      let (kss, less, others) = words_pay all ws totals each.1 in
      let a = sum_by-append cost mss kss in
      let b = sum_by-cons (λ (k : ℕ). k) n totals in (
        mss ++ kss,
        omega arith,
        λ x (v, c, (i, inside, at)). elim (contains_cases w v ws c) [
          | inl same ↦ (let (ms, d, g) = right x (in_nets all w nets i x are (subst (λ (q : List ℕ). Contains q i) (sym same) inside) at) in (ms, contains_left mss kss ms d, g))
          | inr d ↦ (let (ms, f, g) = others x (v, d, (i, inside, at)) in (ms, contains_right mss kss ms f, g))
        ],
      )

  -- each number stands in some word
  found : (w : List ℕ) (j : ℕ) → 0 < number (λ k. k == j) w → Contains w j
  found [] j h = absurd (omega arith)
  found (k ∷ w) j h = by_test (k == j) refl h (found w j)
    where
      eq_of : (k == j) ≡ true → (k ≡ j) ⊎ (k ≢ j) → k ≡ j
      eq_of e (inl same) = same
      eq_of e (inr other) = let clash : true ≡ false = sym e ∙ ne_eqb k j other in cc clash

      by_test : (b : Bool) → (k == j) ≡ b → 0 < cond b 1 0 + number (λ k. k == j) w → (0 < number (λ k. k == j) w → Contains w j) → Contains (k ∷ w) j
      by_test true e h later = subst (λ (q : ℕ). Contains (k ∷ w) q) (eq_of e (cases_eq k j)) (contains_head k w)
      by_test false e h later = contains_tail k j w (later (omega arith))

  some_word : (ws : Words) (j : ℕ) → 0 < number (λ k. k == j) (flat_map (λ w. w) ws) → (w : List ℕ) × Contains ws w × Contains w j
  some_word [] j h = absurd (omega arith)
  some_word (w ∷ ws) j h = by_place (some_or (number (λ k. k == j) w)) (some_word ws j)
    where
      both : number (λ k. k == j) (w ++ flat_map (λ w. w) ws) ≡ number (λ k. k == j) w + number (λ k. k == j) (flat_map (λ w. w) ws)
      both = number_append (λ k. k == j) w (flat_map (λ w. w) ws)

      some_or : (n : ℕ) → (0 < n) ⊎ (n ≡ 0)
      some_or zero = inr refl
      some_or (suc n) = inl (omega arith)

      by_place : (0 < number (λ k. k == j) w) ⊎ (number (λ k. k == j) w ≡ 0) → (0 < number (λ k. k == j) (flat_map (λ w. w) ws) → (v : List ℕ) × Contains ws v × Contains v j) → (v : List ℕ) × Contains (w ∷ ws) v × Contains v j
      by_place (inl k) later = (w, contains_head w ws, found w j k)
      by_place (inr k) later = let (v, c, d) = later (let e = both in omega arith) in (v, contains_tail w v ws c, d)

  in_words : (all : List ℕ) (k : ℕ) (ws : Words) → IsPartition (length all) k ws → (x : ℕ) → Contains all x → InWords all ws x
  in_words all k ws partition x c =
      let (i, at) = at_contains all x c in
      let h = slice_get_within all i x at in
      let (w, inside, d) = some_word ws i (let e = partition.each_once i h in let f = number_counts (λ q. q == i) (flat_map (λ w. w) ws) in omega arith) in
      (w, inside, (i, d, at))

  mark_of : (P : List ℕ → Type 0) (ws : Words) (ms : List Bool) (i : ℕ) (w : List ℕ) → AreMarked P ws ms → slice_get ws i ≡ Some w → P w → get_or ms i false ≡ true
  mark_of P [] ms i w marked at p = cc at
  mark_of P (v ∷ ws) [] i w marked at p = absurd marked
  mark_of P (v ∷ ws) (m ∷ ms) zero w marked at p = let same : v ≡ w = cc at in marked.0.1 (subst P (sym same) p)
  mark_of P (v ∷ ws) (m ∷ ms) (suc i) w marked at p = mark_of P ws ms i w marked.1 at p

  needed_at : (ws : Words) (bs : List Bool) (i : ℕ) → AreNeeded source ws bs → get_or bs i false ≡ true → (w : List ℕ) × (slice_get ws i ≡ Some w) × IsNeeded source w
  needed_at [] [] i needed e = cc e
  needed_at [] (b ∷ bs) i needed e = absurd needed
  needed_at (w ∷ ws) [] i needed e = cc e
  needed_at (w ∷ ws) (b ∷ bs) zero needed e = (w, refl, needed.0 e)
  needed_at (w ∷ ws) (b ∷ bs) (suc i) needed e = needed_at ws bs i needed.1 e

  pub needed_cost : (rails j k n : ℕ) → IsPartition (length (map (λ r. r.d) source.latches)) j l.state → IsPartition (length source.outputs) k l.output → IsMachineSizeWith source code correct t rails l n
      → (bs : List Bool) → AreNeeded source l.state bs → marked_sum (λ w. corrector_cost code t (length w)) l.state bs ≤ n
  needed_cost rails j k n state output is bs needed =
      let (mss, few, right) = words_pay (map (λ r. r.d) source.latches) l.state is.is_state_cost.0 is.is_state_cost.1 in
      let (kss, less, others) = words_pay source.outputs l.output is.is_output_cost.0 is.is_output_cost.1 in
      let a = sum_by-append cost mss kss in
      let e = is.is_state_cost.2 in
      let f = is.is_output_cost.2 in
      let g = is.total in
      let h = covered_sum (λ (w : List ℕ). corrector_cost code t (length w)) l.state bs (mss ++ kss) (λ i m.
      let (w, at, (x, where_it_is, needs)) = needed_at l.state bs i needed m in
      elim where_it_is [
        | inl c ↦ (let (ms, d, marked) = right x (in_words (map (λ r. r.d) source.latches) j l.state state x c) in (ms, contains_left mss kss ms d, mark_of (NeedsWord source x) l.state ms i w marked at needs))
        | inr c ↦ (let (ms, d, marked) = others x (in_words source.outputs k l.output output x c) in (ms, contains_right mss kss ms d, mark_of (NeedsWord source x) l.state ms i w marked at needs))
      ]) in
      omega arith

-- ---- the ranges of correctors

pub row_room : (net : GateList) (code : Code) (t at from : ℕ) (cs : List Corrector) (end : ℕ) → AreCorrectors net code t at from cs end → end ≤ from + marked_sum (λ w. corrector_cost code t (length w)) (map (λ c. c.word) cs) (map (λ c. c.serves) cs)
row_room net code t at from [] end row = omega arith
row_room net code t at from (c ∷ cs) end (first, is, row) =
    let h = row_room net code t (at + length c.word + code.columns) c.end cs end row in
    let m = by_mark c.serves refl in
    omega arith
  where
    by_mark : (b : Bool) → c.serves ≡ b → c.end ≤ c.first + cond b (corrector_cost code t (length c.word)) 0
    by_mark true e = let f = is.few in omega arith
    by_mark false e = let f = is.idle e in omega arith
