-- Ranges in the order of their bits, each with at most the gates that its bit costs, take at most the size of the guard.
use Rattle.std.proofs.Common.{◌≡◌, refl, sym, ◌∙◌, ap, ap₂, subst, ℕ, zero, suc, ◌+◌, ◌*◌, ◌==◌, ◌<◌, ◌≤◌, ◌⊎◌, ◌≢◌, inl, inr, Bool, true, false, cond, List, [], ◌∷◌, ◌++◌, length, map, drop, replicate, slice_get, Some, sum, sum_by, arith, Contains, IsTrue, ne_eqb, ltb-true}
use Rattle.std.specs.Prelude.{AllPairs}
use Rattle.std.specs.List.{AllByRecursion, AllZip, range_with_len, flat_map}
use Rattle.std.proofs.lemmas.Bool.{cases_eq}
use Rattle.std.proofs.lemmas.Option.{slice_get_within, same_Some}
use Rattle.std.proofs.lemmas.List.{length-append, length-map}
use Rattle.std.proofs.lemmas.List.Sums.{sum_by-cons, sum_by-append}
use Rattle.netlist_spec.specs.Gates.{Machine}
use Rattle.guard_spec.specs.Codes.{Code, Mode}
use Rattle.guard_spec.specs.Words.{Words, Layout, IsPartition}
use Rattle.netlist_spec.specs.CellBits.{Bit, latch_bit, output_bit, stands_before}
use Rattle.guard_spec.specs.Plain.{AreNets, column_cost, word_cost, rail_cost, IsMachineSizeWith}
use Rattle.guard_spec.specs.Regions.{Guarded}
use Rattle.netlist_spec.specs.GateRanges.{Region}
use Rattle.gate_net.specs.GateNet.{net_count}
use Rattle.cone_split.proofs.Cells.{contains_head, contains_tail}
use Rattle.cone_split.proofs.Ranges.{get_left, get_right}
use Rattle.containment.proofs.Counting.{number, number_counts}
use Rattle.guard_laws.specs.Places.{latches_of_words}
use Rattle.guard_laws.specs.Promised.{cell_count}
use Rattle.guard_laws.specs.Rows.{AreInRow}
use Rattle.correction_laws.specs.Few.{NetCost, IsFew, of_place, of_check, of_output, of_output_check, of_rail}
use Rattle.correction_laws.proofs.Lists.{get_in_range}
use Rattle.std.proofs.lemmas.List.FromFn.{length-range_with_len}
use Rattle.guard_laws.proofs.Lists.{as_long}

-- ---- a row of ranges whose places rise

sum_from : (cs : List ℕ) (p q c : ℕ) → slice_get cs q ≡ Some c → p ≤ q → c + sum (drop (q + 1) cs) ≤ sum (drop p cs)
sum_from [] p q c at h = cc at
sum_from (x ∷ cs) zero zero c at h = let same : x ≡ c = cc at in let t = sum_by-cons (λ (k : ℕ). k) x cs in omega arith
sum_from (x ∷ cs) zero (suc q) c at h = let m = ap (λ (k : ℕ). sum (drop k (x ∷ cs))) (let e : suc q + 1 ≡ suc (q + 1) = omega arith in e) in let r = sum_from cs zero q c at (omega arith) in let t = sum_by-cons (λ (k : ℕ). k) x cs in omega arith
sum_from (x ∷ cs) (suc p) zero c at h = absurd (omega arith)
sum_from (x ∷ cs) (suc p) (suc q) c at h = let m = ap (λ (k : ℕ). sum (drop k (x ∷ cs))) (let e : suc q + 1 ≡ suc (q + 1) = omega arith in e) in let r = sum_from cs p q c at (omega arith) in omega arith

module _ (lc oc : List ℕ) where
  abbrev place : Bit → ℕ
  place (latch_bit i) = i
  place (output_bit i) = length lc + i

  abbrev pub CostAt : Bit → ℕ → Type 0
  CostAt (latch_bit i) c = slice_get lc i ≡ Some c
  CostAt (output_bit i) c = slice_get oc i ≡ Some c

  cost_there : (b : Bit) (c : ℕ) → CostAt b c → slice_get (lc ++ oc) (place b) ≡ Some c
  cost_there (latch_bit i) c e = get_left lc oc i c e
  cost_there (output_bit i) c e = get_right lc oc i ∙ e

  later : (a b : Bit) (c d : ℕ) → CostAt a c → IsTrue (stands_before a b) → place a + 1 ≤ place b
  later (latch_bit i) (latch_bit j) c d e h = let less = ltb-true i j h in omega arith
  later (latch_bit i) (output_bit j) c d e h = let inside = slice_get_within lc i c e in omega arith
  later (output_bit i) (latch_bit j) c d e h = let clash : false ≡ true = h in cc clash
  later (output_bit i) (output_bit j) c d e h = let less = ltb-true i j h in omega arith

  abbrev IsCosted : Region → Type 0
  IsCosted r = (c : ℕ) × CostAt r.bit c × (r.end ≤ r.first + c)

  row_sum : (at : ℕ) (rs : List Region) (end : ℕ) (p : ℕ) → AreInRow at rs end → AllPairs (λ r s. IsTrue (stands_before r.bit s.bit)) rs → ((r : Region) → Contains rs r → IsCosted r) → ((r : Region) → Contains rs r → p ≤ place r.bit) → end ≤ at + sum (drop p (lc ++ oc))
  row_sum at [] end p row order costed high = omega arith
  row_sum at (r ∷ rs) end p (first, some, rest) order costed high =
      let (c, cost, few) = costed r (contains_head r rs) in
      let low = high r (contains_head r rs) in
      let more = row_sum r.end rs end (place r.bit + 1) rest (λ i j d less h. order (suc i) (suc j) d (omega arith) (omega arith)) (λ s inside. costed s (contains_tail r s rs inside))
      (λ s inside. above s inside c cost) in
      let here = sum_from (lc ++ oc) p (place r.bit) c (cost_there r.bit c cost) low in
      omega arith
    where
      above : (s : Region) → Contains rs s → (c : ℕ) → CostAt r.bit c → place r.bit + 1 ≤ place s.bit
      above s (k, h, e) c cost = later r.bit s.bit c 0 cost (subst (λ (q : Region). IsTrue (stands_before r.bit q.bit)) e (order 0 (suc k) s (omega arith) (omega arith)))

-- ---- costs by place, from the size

sum_map : (f : ℕ → ℕ) (xs : List ℕ) → sum (map f xs) ≡ sum_by f xs
sum_map f [] = refl
sum_map f (x ∷ xs) =
    let a = sum_by-cons (λ (k : ℕ). k) (f x) (map f xs) in
    let b = sum_by-cons f x xs in
    let c = sum_map f xs in
    omega arith

get_map : (f : ℕ → ℕ) (xs : List ℕ) (i x : ℕ) → slice_get xs i ≡ Some x → slice_get (map f xs) i ≡ Some (f x)
get_map f [] i x e = cc e
get_map f (a ∷ xs) zero x e = let same : a ≡ x = cc e in ap (λ (y : ℕ). Some (f y)) same
get_map f (a ∷ xs) (suc i) x e = get_map f xs i x e

behind : {A : Type 0} (xs ys : List A) (n i : ℕ) → length xs ≡ n → slice_get (xs ++ ys) (n + i) ≡ slice_get ys i
behind xs ys n i e = ap (λ (k : ℕ). slice_get (xs ++ ys) (k + i)) (sym e) ∙ get_right xs ys i

nets_are : (all : List ℕ) (w nets roots : List ℕ) → AreNets all w nets → map (λ j. slice_get all j) w ≡ map (λ (d : ℕ). Some d) roots → nets ≡ roots
nets_are all [] [] [] are e = refl
nets_are all [] [] (r ∷ roots) are e = cc e
nets_are all [] (n ∷ nets) roots are e = absurd are
nets_are all (j ∷ w) [] roots are e = absurd are
nets_are all (j ∷ w) (n ∷ nets) [] are e = cc e
nets_are all (j ∷ w) (n ∷ nets) (r ∷ roots) are e =
    let here : slice_get all j ≡ Some r = cc e in
    let rest : map (λ j. slice_get all j) w ≡ map (λ (d : ℕ). Some d) roots = cc e in
    ap₂ (λ (a : ℕ) (bs : List ℕ). a ∷ bs) (same_Some n r (sym are.0 ∙ here)) (nets_are all w nets roots are.1 rest)

module _ (source : Machine) (code : Code) (mode : Mode) (radius : ℕ) (l : Layout) where
  abbrev Net : ℕ → ℕ → Type 0
  Net x n = NetCost source code mode radius l x n

  abbrev OfWord : List ℕ → List ℕ → ℕ → Type 0
  OfWord all word cost = (nets : List ℕ) × AreNets all word nets × ((costs : List ℕ) × AllZip Net nets costs × (cost ≡ word_cost code costs))

  -- the cost of a place of a word
  cost_in : (all w nets costs : List ℕ) → AreNets all w nets → AllZip Net nets costs → (p j d : ℕ) → slice_get w p ≡ Some j → slice_get all j ≡ Some d → (c : ℕ) × (slice_get costs p ≡ Some c) × Net d c
  cost_in all [] nets costs are each p j d at_p at_j = cc at_p
  cost_in all (i ∷ w) [] costs are each p j d at_p at_j = absurd are
  cost_in all (i ∷ w) (n ∷ nets) [] are each p j d at_p at_j = absurd each
  cost_in all (i ∷ w) (n ∷ nets) (c ∷ costs) are each zero j d at_p at_j =
      let same : i ≡ j = cc at_p in
      (c, refl, subst (λ (q : ℕ). Net q c) (same_Some n d (sym are.0 ∙ (ap (slice_get all) same ∙ at_j))) each.0)
  cost_in all (i ∷ w) (n ∷ nets) (c ∷ costs) are each (suc p) j d at_p at_j = cost_in all w nets costs are.1 each.1 p j d at_p at_j

  abbrev checks : List ℕ → List ℕ
  checks costs = map (column_cost code costs) (range_with_len 0 code.columns)

  checks_long : (costs : List ℕ) → length (checks costs) ≡ code.columns
  checks_long costs = length-map (range_with_len 0 code.columns) (column_cost code costs) ∙ length-range_with_len 0 code.columns

  check_at : (costs : List ℕ) (c : ℕ) → c < code.columns → slice_get (checks costs) c ≡ Some (column_cost code costs c)
  check_at costs c h = get_map (column_cost code costs) (range_with_len 0 code.columns) c c (get_in_range 0 code.columns c h ∙ ap (λ (k : ℕ). Some k) (let e : 0 + c ≡ c = omega arith in e))

  -- ---- state words: data places and check places, word by word

  state_costs : (all : List ℕ) (ws : Words) (totals : List ℕ) → AllZip (OfWord all) ws totals → List ℕ
  state_costs all [] totals each = []
  state_costs all (w ∷ ws) [] each = []
  state_costs all (w ∷ ws) (t ∷ totals) each = let (nets, are, (costs, zip, e)) = each.0 in costs ++ (checks costs ++ state_costs all ws totals each.1)

  state_sum : (all : List ℕ) (ws : Words) (totals : List ℕ) (each : AllZip (OfWord all) ws totals) → sum (state_costs all ws totals each) ≡ sum_by (λ n. n) totals
  unfolding state_costs
  state_sum all [] [] each = refl
  state_sum all [] (t ∷ totals) each = absurd each
  state_sum all (w ∷ ws) [] each = absurd each
  state_sum all (w ∷ ws) (t ∷ totals) each =
      let (nets, are, (costs, zip, e)) = each.0 in
      let a = sum_by-append (λ (k : ℕ). k) costs (checks costs ++ state_costs all ws totals each.1) in
      let b = sum_by-append (λ (k : ℕ). k) (checks costs) (state_costs all ws totals each.1) in
      let c = sum_map (column_cost code costs) (range_with_len 0 code.columns) in
      let d = state_sum all ws totals each.1 in
      let f = sum_by-cons (λ (k : ℕ). k) t totals in
      omega arith

  state_long : (all : List ℕ) (ws : Words) (totals : List ℕ) (each : AllZip (OfWord all) ws totals) → length (state_costs all ws totals each) ≡ latches_of_words code ws
  unfolding state_costs
  state_long all [] [] each = refl
  state_long all [] (t ∷ totals) each = absurd each
  state_long all (w ∷ ws) [] each = absurd each
  state_long all (w ∷ ws) (t ∷ totals) each =
      let (nets, are, (costs, zip, e)) = each.0 in
      let a = length-append costs (checks costs ++ state_costs all ws totals each.1) in
      let b = length-append (checks costs) (state_costs all ws totals each.1) in
      let c = checks_long costs in
      let d = state_long all ws totals each.1 in
      let f = sum_by-cons (λ w. length w + code.columns) w ws in
      let g = as_long _ w nets are in
      let h = as_long _ nets costs zip in
      omega arith

  -- what stands at the places of one word
  record AtWord (all w list : List ℕ) (at : ℕ) : Type 0 where
    nets : List ℕ
    are : AreNets all w nets
    costs : List ℕ
    zip : AllZip Net nets costs
    data_at : (p c : ℕ) → slice_get costs p ≡ Some c → slice_get list (at + p) ≡ Some c
    check_at : (c : ℕ) → c < code.columns → slice_get list (at + length w + c) ≡ Some (column_cost code costs c)

  state_at : (all : List ℕ) (ws : Words) (totals : List ℕ) (each : AllZip (OfWord all) ws totals) (before after : Words) (w : List ℕ) → ws ≡ before ++ w ∷ after → AtWord all w (state_costs all ws totals each) (latches_of_words code before)
  unfolding state_costs
  state_at all [] totals each [] after w e = cc e
  state_at all [] totals each (b ∷ before) after w e = cc e
  state_at all (x ∷ ws) [] each before after w e = absurd each
  state_at all (x ∷ ws) (t ∷ totals) each [] after w e =
      let (nets, are, (costs, zip, f)) = each.0 in
      let same : x ≡ w = cc e in
      let long : length costs ≡ length w = sym (as_long _ nets costs zip) ∙ (sym (as_long _ x nets are) ∙ ap length same) in
      record {
        nets = nets;
        are = subst (λ (q : List ℕ). AreNets all q nets) same are;
        costs = costs;
        zip = zip;
        data_at = λ p c at. ap (slice_get (costs ++ (checks costs ++ state_costs all ws totals each.1))) (let g : 0 + p ≡ p = omega arith in g) ∙ get_left costs (checks costs ++ state_costs all ws totals each.1) p c at;
        check_at = λ c h.
            ap (slice_get (costs ++ (checks costs ++ state_costs all ws totals each.1))) (let g : 0 + length w + c ≡ length w + c = omega arith in g)
            ∙ (behind costs (checks costs ++ state_costs all ws totals each.1) (length w) c long
            ∙ get_left (checks costs) (state_costs all ws totals each.1) c (column_cost code costs c) (check_at costs c h));
      }
  state_at all (x ∷ ws) (t ∷ totals) each (b ∷ before) after w e =
      let (nets, are, (costs, zip, f)) = each.0 in
      let same : x ≡ b = cc e in
      let rest : ws ≡ before ++ w ∷ after = cc e in
      let at = state_at all ws totals each.1 before after w rest in
      let long : length costs ≡ length b = sym (as_long _ nets costs zip) ∙ (sym (as_long _ x nets are) ∙ ap length same) in
      let total = sum_by-cons (λ w. length w + code.columns) b before in
      let whole = costs ++ (checks costs ++ state_costs all ws totals each.1) in
      let beyond : (k : ℕ) → slice_get whole (length b + (code.columns + k)) ≡ slice_get (state_costs all ws totals each.1) k
      = λ k. behind costs (checks costs ++ state_costs all ws totals each.1) (length b) (code.columns + k) long ∙ behind (checks costs) (state_costs all ws totals each.1) code.columns k (checks_long costs) in
      record {
        nets = at.nets;
        are = at.are;
        costs = at.costs;
        zip = at.zip;
        data_at = λ p c at_p. ap (slice_get whole) (let g : latches_of_words code (b ∷ before) + p ≡ length b + (code.columns + (latches_of_words code before + p)) = omega arith in g) ∙ (beyond (latches_of_words code before + p) ∙ at.data_at p c at_p);
        check_at = λ c h. ap (slice_get whole) (let g : latches_of_words code (b ∷ before) + length w + c ≡ length b + (code.columns + (latches_of_words code before + length w + c)) = omega arith in g) ∙ (beyond (latches_of_words code before + length w + c) ∙ at.check_at c h);
      }

  -- ---- output words: the costs of their places by output, and those of their check bits word by word

  pairs : List ℕ → List ℕ → List (ℕ × ℕ)
  pairs [] costs = []
  pairs (j ∷ w) [] = []
  pairs (j ∷ w) (c ∷ costs) = (j, c) ∷ pairs w costs

  cost_for : List (ℕ × ℕ) → ℕ → ℕ
  cost_for [] i = 0
  cost_for (p ∷ ps) i = cond (p.0 == i) p.1 (cost_for ps i)

  one_key : (k c a n : ℕ) → sum_by (λ i. cond (k == i) c 0) (range_with_len a n) ≤ c
  one_key k c a n = at_most a n (place_of k a n)
    where
      place_of : (k a n : ℕ) → (k < a) ⊎ ((a ≤ k))
      place_of k a n = grind arith

      none : (a n : ℕ) → k < a → sum_by (λ i. cond (k == i) c 0) (range_with_len a n) ≡ 0
      none a zero h = refl
      none a (suc n) h =
          let t = sum_by-cons (λ i. cond (k == i) c 0) a (range_with_len (a + 1) n) in
          let r = none (a + 1) n (omega arith) in
          let z : cond (k == a) c 0 ≡ 0 = ap (λ (b : Bool). cond b c 0) (ne_eqb k a (λ e. let q : k ≡ a = e in omega arith)) in
          omega arith

      at_most : (a n : ℕ) → (k < a) ⊎ (a ≤ k) → sum_by (λ i. cond (k == i) c 0) (range_with_len a n) ≤ c
      at_most a n (inl h) = let e = none a n h in omega arith
      at_most a zero (inr h) = omega arith
      at_most a (suc n) (inr h) = by_key (cases_eq k a) (λ g. at_most (a + 1) n (inr g)) (none (a + 1) n)
        where
          by_key : (k ≡ a) ⊎ (k ≢ a) → (a + 1 ≤ k → sum_by (λ i. cond (k == i) c 0) (range_with_len (a + 1) n) ≤ c) → (k < a + 1 → sum_by (λ i. cond (k == i) c 0) (range_with_len (a + 1) n) ≡ 0) → sum_by (λ i. cond (k == i) c 0) (range_with_len a (suc n)) ≤ c
          by_key (inl e) rec zero_rest =
              let t = sum_by-cons (λ i. cond (k == i) c 0) a (range_with_len (a + 1) n) in
              let r = zero_rest (omega arith) in
              let z = one_of (k == a) in
              omega arith
            where
              one_of : (b : Bool) → cond b c 0 ≤ c
              one_of true = omega arith
              one_of false = omega arith
          by_key (inr f) rec zero_rest =
              let t = sum_by-cons (λ i. cond (k == i) c 0) a (range_with_len (a + 1) n) in
              let z : cond (k == a) c 0 ≡ 0 = ap (λ (b : Bool). cond b c 0) (ne_eqb k a f) in
              let r = rec (let g : (k ≡ a) → ⊥ = f in grind (arith, g)) in
              omega arith

  sum_parts : (f g h : ℕ → ℕ) → ((i : ℕ) → f i ≤ g i + h i) → (xs : List ℕ) → sum_by f xs ≤ sum_by g xs + sum_by h xs
  sum_parts f g h le [] = omega arith
  sum_parts f g h le (x ∷ xs) =
      let a = sum_by-cons f x xs in
      let b = sum_by-cons g x xs in
      let c = sum_by-cons h x xs in
      let r = sum_parts f g h le xs in
      let e = le x in
      omega arith

  -- each output's cost is counted at most once
  keys_sum : (ps : List (ℕ × ℕ)) (n : ℕ) → sum_by (cost_for ps) (range_with_len 0 n) ≤ sum_by (λ (p : ℕ × ℕ). p.1) ps
  unfolding cost_for
  keys_sum [] n = let e = zeros (range_with_len 0 n) in omega arith
    where
      zeros : (xs : List ℕ) → sum_by (λ (i : ℕ). 0) xs ≡ 0
      zeros [] = refl
      zeros (x ∷ xs) = let a = sum_by-cons (λ (i : ℕ). 0) x xs in let b = zeros xs in omega arith
  keys_sum (p ∷ ps) n =
      let a = sum_parts (cost_for (p ∷ ps)) (λ i. cond (p.0 == i) p.1 0) (cost_for ps) (λ i. either (p.0 == i) (cost_for ps i)) (range_with_len 0 n) in
      let b = one_key p.0 p.1 0 n in
      let c = keys_sum ps n in
      let d = sum_by-cons (λ (q : ℕ × ℕ). q.1) p ps in
      omega arith
    where
      either : (b : Bool) (k : ℕ) → cond b p.1 k ≤ cond b p.1 0 + k
      either true k = omega arith
      either false k = omega arith

  pairs_sum : (w costs : List ℕ) → length w ≡ length costs → sum_by (λ (p : ℕ × ℕ). p.1) (pairs w costs) ≡ sum_by (λ n. n) costs
  unfolding pairs
  pairs_sum [] [] e = refl
  pairs_sum [] (c ∷ costs) e = absurd (omega arith)
  pairs_sum (j ∷ w) [] e = absurd (omega arith)
  pairs_sum (j ∷ w) (c ∷ costs) e =
      let a = sum_by-cons (λ (p : ℕ × ℕ). p.1) (j, c) (pairs w costs) in
      let b = sum_by-cons (λ (n : ℕ). n) c costs in
      let r = pairs_sum w costs (omega arith) in
      omega arith

  all_pairs : (all : List ℕ) (ws : Words) (totals : List ℕ) → AllZip (OfWord all) ws totals → List (ℕ × ℕ)
  all_pairs all [] totals each = []
  all_pairs all (w ∷ ws) [] each = []
  all_pairs all (w ∷ ws) (t ∷ totals) each = let (nets, are, (costs, zip, e)) = each.0 in pairs w costs ++ all_pairs all ws totals each.1

  all_checks : (all : List ℕ) (ws : Words) (totals : List ℕ) → AllZip (OfWord all) ws totals → List ℕ
  all_checks all [] totals each = []
  all_checks all (w ∷ ws) [] each = []
  all_checks all (w ∷ ws) (t ∷ totals) each = let (nets, are, (costs, zip, e)) = each.0 in checks costs ++ all_checks all ws totals each.1

  output_sum : (all : List ℕ) (ws : Words) (totals : List ℕ) (each : AllZip (OfWord all) ws totals) → sum_by (λ (p : ℕ × ℕ). p.1) (all_pairs all ws totals each) + sum (all_checks all ws totals each) ≡ sum_by (λ n. n) totals
  unfolding all_pairs all_checks
  output_sum all [] [] each = refl
  output_sum all [] (t ∷ totals) each = absurd each
  output_sum all (w ∷ ws) [] each = absurd each
  output_sum all (w ∷ ws) (t ∷ totals) each =
      let (nets, are, (costs, zip, e)) = each.0 in
      let a = sum_by-append (λ (p : ℕ × ℕ). p.1) (pairs w costs) (all_pairs all ws totals each.1) in
      let b = sum_by-append (λ (k : ℕ). k) (checks costs) (all_checks all ws totals each.1) in
      let c = sum_map (column_cost code costs) (range_with_len 0 code.columns) in
      let d = output_sum all ws totals each.1 in
      let f = sum_by-cons (λ (k : ℕ). k) t totals in
      let g = pairs_sum w costs (as_long _ w nets are ∙ as_long _ nets costs zip) in
      omega arith

  checks_count : (all : List ℕ) (ws : Words) (totals : List ℕ) (each : AllZip (OfWord all) ws totals) → length (all_checks all ws totals each) ≡ length ws * code.columns
  unfolding all_checks
  checks_count all [] [] each = let e : 0 ≡ 0 * code.columns = omega arith in e
  checks_count all [] (t ∷ totals) each = absurd each
  checks_count all (w ∷ ws) [] each = absurd each
  checks_count all (w ∷ ws) (t ∷ totals) each =
      let (nets, are, (costs, zip, e)) = each.0 in
      length-append (checks costs) (all_checks all ws totals each.1) ∙ (ap₂ (λ (a b : ℕ). a + b) (checks_long costs) (checks_count all ws totals each.1) ∙ more (length ws))
    where
      more : (n : ℕ) → code.columns + n * code.columns ≡ suc n * code.columns
      more n = grind arith

  record AtOutput (all w list : List ℕ) (at : ℕ) : Type 0 where
    nets : List ℕ
    are : AreNets all w nets
    costs : List ℕ
    zip : AllZip Net nets costs
    check_at : (c : ℕ) → c < code.columns → slice_get list (at + c) ≡ Some (column_cost code costs c)

  output_at : (all : List ℕ) (ws : Words) (totals : List ℕ) (each : AllZip (OfWord all) ws totals) (before after : Words) (w : List ℕ) → ws ≡ before ++ w ∷ after → AtOutput all w (all_checks all ws totals each) (length before * code.columns)
  unfolding all_checks
  output_at all [] totals each [] after w e = cc e
  output_at all [] totals each (b ∷ before) after w e = cc e
  output_at all (x ∷ ws) [] each before after w e = absurd each
  output_at all (x ∷ ws) (t ∷ totals) each [] after w e =
      let (nets, are, (costs, zip, f)) = each.0 in
      let same : x ≡ w = cc e in
      record {
        nets = nets;
        are = subst (λ (q : List ℕ). AreNets all q nets) same are;
        costs = costs;
        zip = zip;
        check_at = λ c h.
            ap (slice_get (checks costs ++ all_checks all ws totals each.1)) (let g : 0 * code.columns + c ≡ c = omega arith in g)
            ∙ get_left (checks costs) (all_checks all ws totals each.1) c (column_cost code costs c) (check_at costs c h);
      }
  output_at all (x ∷ ws) (t ∷ totals) each (b ∷ before) after w e =
      let (nets, are, (costs, zip, f)) = each.0 in
      let rest : ws ≡ before ++ w ∷ after = cc e in
      let at = output_at all ws totals each.1 before after w rest in
      record {
        nets = at.nets;
        are = at.are;
        costs = at.costs;
        zip = at.zip;
        check_at = λ c h.
            ap (slice_get (checks costs ++ all_checks all ws totals each.1)) (beyond (length before) c)
            ∙ (behind (checks costs) (all_checks all ws totals each.1) code.columns (length before * code.columns + c) (checks_long costs) ∙ at.check_at c h);
      }
    where
      beyond : (n c : ℕ) → suc n * code.columns + c ≡ code.columns + (n * code.columns + c)
      beyond n c = grind arith

  -- a pair has the cost of its output
  abbrev IsPairOf : List ℕ → ℕ × ℕ → Type 0
  IsPairOf all p = (o : ℕ) → slice_get all p.0 ≡ Some o → Net o p.1

  word_pairs : (all w nets costs : List ℕ) → AreNets all w nets → AllZip Net nets costs → AllByRecursion (IsPairOf all) (pairs w costs)
  unfolding pairs
  word_pairs all [] nets costs are zip = tt
  word_pairs all (j ∷ w) [] costs are zip = absurd are
  word_pairs all (j ∷ w) (n ∷ nets) [] are zip = absurd zip
  word_pairs all (j ∷ w) (n ∷ nets) (c ∷ costs) are zip = ((λ o e. subst (λ (q : ℕ). Net q c) (same_Some n o (sym are.0 ∙ e)) zip.0), word_pairs all w nets costs are.1 zip.1)

  all_append : {A : Type 0} (P : A → Type 0) (xs ys : List A) → AllByRecursion P xs → AllByRecursion P ys → AllByRecursion P (xs ++ ys)
  all_append P [] ys a b = b
  all_append P (x ∷ xs) ys a b = (a.0, all_append P xs ys a.1 b)

  pairs_right : (all : List ℕ) (ws : Words) (totals : List ℕ) (each : AllZip (OfWord all) ws totals) → AllByRecursion (IsPairOf all) (all_pairs all ws totals each)
  unfolding all_pairs
  pairs_right all [] totals each = tt
  pairs_right all (w ∷ ws) [] each = tt
  pairs_right all (w ∷ ws) (t ∷ totals) each =
      let (nets, are, (costs, zip, e)) = each.0 in
      all_append (IsPairOf all) (pairs w costs) (all_pairs all ws totals each.1) (word_pairs all w nets costs are zip) (pairs_right all ws totals each.1)

  -- the keys are the numbers of the words
  keys_of : (w costs : List ℕ) → length w ≡ length costs → map (λ (p : ℕ × ℕ). p.0) (pairs w costs) ≡ w
  unfolding pairs
  keys_of [] [] e = refl
  keys_of [] (c ∷ costs) e = absurd (omega arith)
  keys_of (j ∷ w) [] e = absurd (omega arith)
  keys_of (j ∷ w) (c ∷ costs) e = ap (λ (ks : List ℕ). j ∷ ks) (keys_of w costs (omega arith))

  maps_append : {A B : Type 0} (f : A → B) (xs ys : List A) → map f (xs ++ ys) ≡ map f xs ++ map f ys
  maps_append f [] ys = refl
  maps_append f (x ∷ xs) ys = ap (λ zs. f x ∷ zs) (maps_append f xs ys)

  all_keys : (all : List ℕ) (ws : Words) (totals : List ℕ) (each : AllZip (OfWord all) ws totals) → map (λ (p : ℕ × ℕ). p.0) (all_pairs all ws totals each) ≡ flat_map (λ w. w) ws
  unfolding all_pairs
  all_keys all [] totals each = refl
  all_keys all (w ∷ ws) [] each = absurd each
  all_keys all (w ∷ ws) (t ∷ totals) each =
      let (nets, are, (costs, zip, e)) = each.0 in
      maps_append (λ (p : ℕ × ℕ). p.0) (pairs w costs) (all_pairs all ws totals each.1)
      ∙ ap₂ (λ (a b : List ℕ). a ++ b) (keys_of w costs (as_long _ w nets are ∙ as_long _ nets costs zip)) (all_keys all ws totals each.1)

  found_cost : (all : List ℕ) (ps : List (ℕ × ℕ)) → AllByRecursion (IsPairOf all) ps → (i o : ℕ) → 0 < number (λ k. k == i) (map (λ (p : ℕ × ℕ). p.0) ps) → slice_get all i ≡ Some o → Net o (cost_for ps i)
  unfolding cost_for
  found_cost all [] right i o h at = absurd (omega arith)
  found_cost all (p ∷ ps) right i o h at = by_key (p.0 == i) refl h (λ g. found_cost all ps right.1 i o g at)
    where
      key_is : (p.0 == i) ≡ true → (p.0 ≡ i) ⊎ (p.0 ≢ i) → p.0 ≡ i
      key_is e (inl same) = same
      key_is e (inr other) = let clash : true ≡ false = sym e ∙ ne_eqb p.0 i other in cc clash

      by_key : (b : Bool) → (p.0 == i) ≡ b → 0 < cond b 1 0 + number (λ k. k == i) (map (λ (p : ℕ × ℕ). p.0) ps) → (0 < number (λ k. k == i) (map (λ (p : ℕ × ℕ). p.0) ps) → Net o (cost_for ps i)) → Net o (cond b p.1 (cost_for ps i))
      by_key true e h rec = right.0 o (ap (slice_get all) (key_is e (cases_eq p.0 i)) ∙ at)
      by_key false e h rec = rec (omega arith)

  -- ---- the whole size

  module _ (rails k n : ℕ) (partition : IsPartition (length source.outputs) k l.output) (is : IsMachineSizeWith source code mode radius rails l n) where
    abbrev stores : List ℕ
    stores = map (λ r. r.d) source.latches

    abbrev latch_costs : List ℕ
    latch_costs = state_costs stores l.state is.is_state_cost.0 is.is_state_cost.1

    abbrev ps : List (ℕ × ℕ)
    ps = all_pairs source.outputs l.output is.is_output_cost.0 is.is_output_cost.1

    abbrev shown : List ℕ
    shown = map (cost_for ps) (range_with_len 0 (length source.outputs))

    abbrev tests : List ℕ
    tests = all_checks source.outputs l.output is.is_output_cost.0 is.is_output_cost.1

    abbrev alarms : List ℕ
    alarms = replicate rails (rail_cost code l)

    abbrev output_costs : List ℕ
    output_costs = shown ++ (tests ++ alarms)

    shown_long : length shown ≡ length source.outputs
    shown_long = length-map (range_with_len 0 (length source.outputs)) (cost_for ps) ∙ length-range_with_len 0 (length source.outputs)

    replicate_sum : (m c : ℕ) → sum (replicate m c) ≡ m * c
    replicate_sum zero c = let e : 0 ≡ 0 * c = omega arith in e
    replicate_sum (suc m) c = sum_by-cons (λ (q : ℕ). q) c (replicate m c) ∙ (ap (λ (q : ℕ). c + q) (replicate_sum m c) ∙ more m)
      where
        more : (m : ℕ) → c + m * c ≡ suc m * c
        more m = grind arith

    replicate_at : (m i c : ℕ) → i < m → slice_get (replicate m c) i ≡ Some c
    replicate_at zero i c h = absurd (omega arith)
    replicate_at (suc m) zero c h = refl
    replicate_at (suc m) (suc i) c h = replicate_at m i c (omega arith)

    total : latches_of_words code l.state + sum (latch_costs ++ output_costs) ≤ n
    total =
        let a = sum_by-append (λ (q : ℕ). q) latch_costs output_costs in
        let b = sum_by-append (λ (q : ℕ). q) shown (tests ++ alarms) in
        let c = sum_by-append (λ (q : ℕ). q) tests alarms in
        let d = state_sum stores l.state is.is_state_cost.0 is.is_state_cost.1 in
        let e = is.is_state_cost.2 in
        let f = output_sum source.outputs l.output is.is_output_cost.0 is.is_output_cost.1 in
        let g = is.is_output_cost.2 in
        let h = sum_map (cost_for ps) (range_with_len 0 (length source.outputs)) in
        let i = keys_sum ps (length source.outputs) in
        let j = replicate_sum rails (rail_cost code l) in
        let t = is.total in
        omega arith

    costed : (r : Region) → IsFew source code mode radius rails l r → (c : ℕ) × CostAt latch_costs output_costs r.bit c × (r.end ≤ r.first + c)
    costed r (of_place before after w p j d bit split at_p at_j few) =
        let at = state_at stores l.state is.is_state_cost.0 is.is_state_cost.1 before after w split in
        let (c, at_c, net) = cost_in stores w at.nets at.costs at.are at.zip p j d at_p at_j in
        (c, subst (λ (b : Bit). CostAt latch_costs output_costs b c) (sym bit) (at.data_at p c at_c), few c net)
    costed r (of_check before after w c roots bit split h at_w few) =
        let at = state_at stores l.state is.is_state_cost.0 is.is_state_cost.1 before after w split in
        let same = nets_are stores w at.nets roots at.are at_w in
        (column_cost code at.costs c, subst (λ (b : Bit). CostAt latch_costs output_costs b (column_cost code at.costs c)) (sym bit) (at.check_at c h), few at.costs (subst (λ (ns : List ℕ). AllZip Net ns at.costs) same at.zip))
    costed r (of_output i o bit at few) =
        let inside = slice_get_within source.outputs i o at in
        let key : 0 < number (λ q. q == i) (map (λ (p : ℕ × ℕ). p.0) ps) =
        subst (λ (ks : List ℕ). 0 < number (λ q. q == i) ks) (sym (all_keys source.outputs l.output is.is_output_cost.0 is.is_output_cost.1))
        (let e = partition.each_once i inside in let f = number_counts (λ q. q == i) (flat_map (λ w. w) l.output) in omega arith) in (
          cost_for ps i,
          subst (λ (b : Bit). CostAt latch_costs output_costs b (cost_for ps i)) (sym bit)
              (get_left shown (tests ++ alarms) i (cost_for ps i) (get_map (cost_for ps) (range_with_len 0 (length source.outputs)) i i (get_in_range 0 (length source.outputs) i inside ∙ ap (λ (q : ℕ). Some q) (let e : 0 + i ≡ i = omega arith in e)))),
          few (cost_for ps i) (found_cost source.outputs ps (pairs_right source.outputs l.output is.is_output_cost.0 is.is_output_cost.1) i o key at),
        )
    costed r (of_output_check before after w c roots bit split h at_w few) =
        let at = output_at source.outputs l.output is.is_output_cost.0 is.is_output_cost.1 before after w split in
        let same = nets_are source.outputs w at.nets roots at.are at_w in (
          column_cost code at.costs c,
          subst (λ (b : Bit). CostAt latch_costs output_costs b (column_cost code at.costs c)) (sym bit)
              (ap (slice_get output_costs) (let e : length source.outputs + length before * code.columns + c ≡ length source.outputs + (length before * code.columns + c) = omega arith in e)
              ∙ (behind shown (tests ++ alarms) (length source.outputs) (length before * code.columns + c) shown_long
              ∙ get_left tests alarms (length before * code.columns + c) (column_cost code at.costs c) (at.check_at c h))),
          few at.costs (subst (λ (ns : List ℕ). AllZip Net ns at.costs) same at.zip),
        )
    costed r (of_rail i bit h few) = (
      rail_cost code l,
      subst (λ (b : Bit). CostAt latch_costs output_costs b (rail_cost code l)) (sym bit)
          (ap (slice_get output_costs) (let e : length source.outputs + length l.output * code.columns + i ≡ length source.outputs + (length l.output * code.columns + i) = omega arith in e)
          ∙ (behind shown (tests ++ alarms) (length source.outputs) (length l.output * code.columns + i) shown_long
          ∙ (behind tests alarms (length l.output * code.columns) i (checks_count source.outputs l.output is.is_output_cost.0 is.is_output_cost.1)
          ∙ replicate_at rails i (rail_cost code l) h))),
      few,
    )

    pub few_row : (at : ℕ) (rs : List Region) (end : ℕ) → AreInRow at rs end → AllPairs (λ r s. IsTrue (stands_before r.bit s.bit)) rs → ((r : Region) → Contains rs r → IsFew source code mode radius rails l r) → latches_of_words code l.state + end ≤ at + n
    few_row at rs end row order few =
        let a = row_sum latch_costs output_costs at rs end 0 row order (λ r c. costed r (few r c)) (λ r c. omega arith) in
        let b = total in
        omega arith

    pub few_cells : (g : Guarded) → AreInRow g.machine.net.leaves g.regions (net_count g.machine.net) → AllPairs (λ r s. IsTrue (stands_before r.bit s.bit)) g.regions → length g.machine.latches ≡ latches_of_words code l.state
        → ((r : Region) → Contains g.regions r → IsFew source code mode radius rails l r) → cell_count g ≤ n
    few_cells g row order many few = let a = few_row g.machine.net.leaves g.regions (net_count g.machine.net) row order few in omega arith
