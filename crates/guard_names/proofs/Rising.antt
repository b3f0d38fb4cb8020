-- The nets that a guard's bits have of their own rise, and the last gate is one of them.
use Rattle.std.proofs.Common.{◌≡◌, refl, sym, ◌∙◌, ap, subst, ℕ, zero, suc, ◌+◌, ◌<◌, ◌≤◌, Bool, true, false, inl, inr, ◌⊎◌, List, [], ◌∷◌, ◌++◌, length, map, Some, slice_get, get_or, Contains, arith}
use Rattle.std.specs.Prelude.{IsTrue, nat_lt, if◌then◌else◌}
use Rattle.std.specs.List.{AllByRecursion}
use Rattle.std.proofs.lemmas.Bool.{lt-ltb, ltb-true, ltb-false}
use Rattle.std.proofs.lemmas.Option.{slice_get_within}
use Rattle.netlist_spec.specs.Gates.{Machine, IsMachine, LatchRow}
use Rattle.netlist_spec.specs.CellBits.{Bit, latch_bit, output_bit, stands_before}
use Rattle.netlist_spec.specs.GateRanges.{Region}
use Rattle.guard_spec.specs.Regions.{Guarded, IsBitNet, IsRegion, HaveOwnNets, CoversGates, AreSeparate}
use Rattle.gate_net.specs.GateNet.{net_count}
use Rattle.guard_laws.proofs.Lists.{below_or}
use Rattle.guard_names.specs.Labels.{IsRising, end_of, beside_gates}

-- ---- lists that rise

pub rising_end : (low : ℕ) (ns : List ℕ) → IsRising low ns → low ≤ end_of low ns
rising_end low [] h = omega arith
rising_end low (n ∷ ns) h = let rest = rising_end (n + 1) ns h.1 in omega arith

pub rising_append : (low : ℕ) (xs ys : List ℕ) → IsRising low xs → IsRising (end_of low xs) ys → IsRising low (xs ++ ys)
rising_append low [] ys h k = k
rising_append low (x ∷ xs) ys h k = (h.0, rising_append (x + 1) xs ys h.1 k)

pub end_append : (low : ℕ) (xs ys : List ℕ) → end_of low (xs ++ ys) ≡ end_of (end_of low xs) ys
end_append low [] ys = refl
end_append low (x ∷ xs) ys = end_append (x + 1) xs ys

end_within : (low bound : ℕ) (ns : List ℕ) → low ≤ bound → AllByRecursion (λ n. n < bound) ns → end_of low ns ≤ bound
end_within low bound [] h k = h
end_within low bound (n ∷ ns) h k = end_within (n + 1) bound ns (omega (arith, k.0)) k.1

at_below : (low : ℕ) (ns : List ℕ) (i n : ℕ) → IsRising low ns → slice_get ns i ≡ Some n → n < end_of low ns
at_below low [] i n h e = cc e
at_below low (x ∷ ns) zero n h e = let same : x ≡ n = cc e in let rest = rising_end (x + 1) ns h.1 in omega arith
at_below low (x ∷ ns) (suc i) n h e = at_below (x + 1) ns i n h.1 e

pub at_append : {A : Type 0} (xs ys : List A) (i : ℕ) (x : A) → slice_get xs i ≡ Some x → slice_get (xs ++ ys) i ≡ Some x
at_append [] ys i x e = cc e
at_append (a ∷ xs) ys zero x e = e
at_append (a ∷ xs) ys (suc i) x e = at_append xs ys i x e

at_behind : {A : Type 0} (xs ys : List A) (i : ℕ) (x : A) → slice_get ys i ≡ Some x → slice_get (xs ++ ys) (length xs + i) ≡ Some x
at_behind [] ys i x e = ap (slice_get ys) (let z : 0 + i ≡ i = omega arith in z) ∙ e
at_behind (a ∷ xs) ys i x e = ap (slice_get (a ∷ (xs ++ ys))) (let z : suc (length xs) + i ≡ suc (length xs + i) = omega arith in z) ∙ at_behind xs ys i x e

-- a net that is a gate stands among the gates
among_gates : (leaves : ℕ) (ns : List ℕ) (i n : ℕ) → slice_get ns i ≡ Some n → leaves ≤ n → (j : ℕ) × (slice_get (beside_gates leaves ns ns) j ≡ Some n)
among_gates leaves [] i n e low = cc e
among_gates leaves (x ∷ ns) zero n e low =
    let same : x ≡ n = cc e in
    (0, by_test (nat_lt x leaves) refl same)
  where
    by_test : (b : Bool) → nat_lt x leaves ≡ b → x ≡ n → slice_get (if b then beside_gates leaves ns ns else x ∷ beside_gates leaves ns ns) 0 ≡ Some n
    by_test true t same = absurd (let below = ltb-true x leaves t in omega arith)
    by_test false t same = ap (λ (k : ℕ). Some k) same
among_gates leaves (x ∷ ns) (suc i) n e low = by_test (nat_lt x leaves) (among_gates leaves ns i n e low)
  where
    by_test : (b : Bool) → (j : ℕ) × (slice_get (beside_gates leaves ns ns) j ≡ Some n) → (j : ℕ) × (slice_get (if b then beside_gates leaves ns ns else x ∷ beside_gates leaves ns ns) j ≡ Some n)
    by_test true later = later
    by_test false later = (suc later.0, later.1)

pub all_beside : {A : Type 0} (P : A → Type 0) (leaves : ℕ) (xs : List A) (ks : List ℕ) → AllByRecursion P xs → AllByRecursion P (beside_gates leaves xs ks)
all_beside P leaves [] ks h = tt
all_beside P leaves (x ∷ xs) [] h = tt
all_beside P leaves (x ∷ xs) (k ∷ ks) h = by_test (nat_lt k leaves) (all_beside P leaves xs ks h.1)
  where
    by_test : (b : Bool) → AllByRecursion P (beside_gates leaves xs ks) → AllByRecursion P (if b then beside_gates leaves xs ks else x ∷ beside_gates leaves xs ks)
    by_test true later = later
    by_test false later = (h.0, later)

all_at : {A : Type 0} (P : A → Type 0) (xs : List A) (x : A) → AllByRecursion P xs → Contains xs x → P x
all_at P [] x h c = absurd (let k = c.1 in omega arith)
all_at P (a ∷ xs) x h (zero, k, e) = subst P e h.0
all_at P (a ∷ xs) x h (suc i, k, e) = all_at P xs x h.1 (i, (let z = k in omega arith), e)

all_join : {A : Type 0} (P : A → Type 0) (xs ys : List A) → AllByRecursion P xs → AllByRecursion P ys → AllByRecursion P (xs ++ ys)
all_join P [] ys h k = k
all_join P (x ∷ xs) ys h k = (h.0, all_join P xs ys h.1 k)

-- ---- the cells of a guard

never_both : (a b : Bit) → IsTrue (stands_before a b) → IsTrue (stands_before b a) → ⊥
never_both (latch_bit i) (latch_bit j) h k = let x = ltb-true i j h in let y = ltb-true j i k in omega arith
never_both (latch_bit i) (output_bit j) h k = let clash : false ≡ true = k in cc clash
never_both (output_bit i) (latch_bit j) h k = let clash : false ≡ true = h in cc clash
never_both (output_bit i) (output_bit j) h k = let x = ltb-true i j h in let y = ltb-true j i k in omega arith

never_itself : (a : Bit) → IsTrue (stands_before a a) → ⊥
never_itself (latch_bit i) h = let x = ltb-true i i h in omega arith
never_itself (output_bit i) h = let x = ltb-true i i h in omega arith

pub three_ways : (a b : ℕ) → (a < b) ⊎ ((b < a) ⊎ (a ≡ b))
three_ways zero zero = inr (inr refl)
three_ways zero (suc b) = inl (omega arith)
three_ways (suc a) zero = inr (inl (omega arith))
three_ways (suc a) (suc b) = elim (three_ways a b) [ inl l ↦ inl (omega arith) | inr r ↦ inr (elim r [ inl l ↦ inl (omega arith) | inr e ↦ inr (ap suc e) ]) ]

module _ (g : Guarded) (source : Machine) (is_machine : IsMachine g.machine) (own : HaveOwnNets g source) (covers : CoversGates g) (separate : AreSeparate g) where
  abbrev leaves : ℕ
  leaves = g.machine.net.leaves

  abbrev stored : List ℕ
  stored = map (λ r. r.d) g.machine.latches

  abbrev shown : List ℕ
  shown = g.machine.outputs

  -- the net is a bit's own gate
  record HasCell (bit : Bit) (n : ℕ) : Type 0 where
    pub region : Region
    pub among : Contains g.regions region
    pub of_bit : region.bit ≡ bit
    pub last : region.end ≡ suc n
    pub gates : leaves ≤ region.first
    pub inside : region.first ≤ n

  cell_by : (bit : Bit) (n : ℕ) → ((k : ℕ) → IsBitNet g bit k → k ≡ n) → (r : Region) × Contains g.regions r × (r.bit ≡ bit) → HasCell bit n
  cell_by bit n one (r, c, e) =
      let is = all_at (IsRegion g) g.regions r covers.regions c in
      let same : is.last ≡ n = one is.last (subst (λ (b : Bit). IsBitNet g b is.last) e is.own) in
      let end : r.end ≡ suc n = is.is_last ∙ ap suc same in
      let some = is.some in
      record { region = r; among = c; of_bit = e; last = end; gates = is.gates; inside = omega arith }

  one_net : (ns : List ℕ) (i n k : ℕ) → slice_get ns i ≡ Some n → slice_get ns i ≡ Some k → k ≡ n
  one_net ns i n k e f = let same : Some k ≡ Some n = sym f ∙ e in cc same

  latch_cell : (i n : ℕ) → slice_get stored i ≡ Some n → HasCell (latch_bit i) n
  latch_cell i n e =
      let inside = slice_get_within stored i n e in
      let long = length-of g.machine.latches in
      cell_by (latch_bit i) n (λ k f. one_net stored i n k e f) (own.latches i (omega arith))
    where
      length-of : (rs : List LatchRow) → length (map (λ r. r.d) rs) ≡ length rs
      length-of [] = refl
      length-of (r ∷ rs) = ap suc (length-of rs)

  output_cell : (i n : ℕ) → slice_get shown i ≡ Some n → leaves ≤ n → HasCell (output_bit i) n
  output_cell i n e low = cell_by (output_bit i) n (λ k f. one_net shown i n k e f) (own.outputs i n e low)

  -- cells stand in the order of their bits
  cells_in_order : (a b : Bit) (n k : ℕ) → HasCell a n → HasCell b k → IsTrue (stands_before a b) → n < k
  cells_in_order a b n k x y before = by_order (three_ways x.among.0 y.among.0)
    where
      same_at : (rs : List Region) (i : ℕ) (d e : Region) → i < length rs → get_or rs i d ≡ get_or rs i e
      same_at [] i d e h = absurd (omega arith)
      same_at (r ∷ rs) zero d e h = refl
      same_at (r ∷ rs) (suc i) d e h = same_at rs i d e (omega arith)

      by_order : (x.among.0 < y.among.0) ⊎ ((y.among.0 < x.among.0) ⊎ (x.among.0 ≡ y.among.0)) → n < k
      by_order (inl less) =
          let pair = separate.in_order x.among.0 y.among.0 x.region less y.among.1 in
          let apart = subst (λ (r : Region). r.end ≤ (get_or g.regions y.among.0 x.region).first) x.among.2 pair.1 in
          let second : get_or g.regions y.among.0 x.region ≡ y.region = same_at g.regions y.among.0 x.region y.region y.among.1 ∙ y.among.2 in
          let here = subst (λ (r : Region). x.region.end ≤ r.first) second apart in
          let e = x.last in let f = y.inside in omega arith
      by_order (inr (inl more)) =
          absurd
          (let pair = separate.in_order y.among.0 x.among.0 y.region more x.among.1 in
          let first : get_or g.regions y.among.0 y.region ≡ y.region = y.among.2 in
          let second : get_or g.regions x.among.0 y.region ≡ x.region = same_at g.regions x.among.0 y.region x.region x.among.1 ∙ x.among.2 in
          let turned = subst (λ (r : Region). IsTrue (stands_before r.bit (get_or g.regions x.among.0 y.region).bit)) first pair.0 in
          let both = subst (λ (r : Region). IsTrue (stands_before y.region.bit r.bit)) second turned in
          let at_b = subst (λ (c : Bit). IsTrue (stands_before c x.region.bit)) y.of_bit both in
          never_both a b before (subst (λ (c : Bit). IsTrue (stands_before b c)) x.of_bit at_b))
      by_order (inr (inr same)) =
          absurd
          (let e : get_or g.regions x.among.0 x.region ≡ get_or g.regions y.among.0 y.region = ap (λ i. get_or g.regions i x.region) same ∙ same_at g.regions y.among.0 x.region y.region y.among.1 in
          let regions : x.region ≡ y.region = sym x.among.2 ∙ e ∙ y.among.2 in
          let bits : a ≡ b = sym x.of_bit ∙ ap (λ (r : Region). r.bit) regions ∙ y.of_bit in
          never_itself b (subst (λ (c : Bit). IsTrue (stands_before c b)) bits before))

  latches_rise : (at low : ℕ) (ns : List ℕ) → ((i n : ℕ) → slice_get ns i ≡ Some n → HasCell (latch_bit (at + i)) n) → ((i n : ℕ) → slice_get ns i ≡ Some n → low ≤ n) → IsRising low ns
  latches_rise at low [] cells above = tt
  latches_rise at low (n ∷ ns) cells above = (
    above 0 n refl,
    latches_rise (at + 1) (n + 1) ns (λ i k e. subst (λ (j : ℕ). HasCell (latch_bit j) k) (let z : at + suc i ≡ (at + 1) + i = omega arith in z) (cells (suc i) k e))
        (λ i k e. let less = cells_in_order (latch_bit (at + 0)) (latch_bit (at + suc i)) n k (cells 0 n refl) (cells (suc i) k e) (lt-ltb (at + 0) (at + suc i) (omega arith)) in omega arith),
  )

  outputs_rise : (at low : ℕ) (ns : List ℕ) → ((i n : ℕ) → slice_get ns i ≡ Some n → leaves ≤ n → HasCell (output_bit (at + i)) n) → ((i n : ℕ) → slice_get ns i ≡ Some n → leaves ≤ n → low ≤ n) → IsRising low (beside_gates leaves ns ns)
  outputs_rise at low [] cells above = tt
  outputs_rise at low (n ∷ ns) cells above =
      by_test (nat_lt n leaves) refl (outputs_rise (at + 1) low ns later (λ i k e. above (suc i) k e))
      (λ gate. outputs_rise (at + 1) (n + 1) ns later (λ i k e high. let less = cells_in_order (output_bit (at + 0)) (output_bit (at + suc i)) n k (cells 0 n refl gate) (cells (suc i) k e high) (lt-ltb (at + 0) (at + suc i) (omega arith)) in omega arith))
    where
      later : (i k : ℕ) → slice_get ns i ≡ Some k → leaves ≤ k → HasCell (output_bit ((at + 1) + i)) k
      later i k e high = subst (λ (j : ℕ). HasCell (output_bit j) k) (let z : at + suc i ≡ (at + 1) + i = omega arith in z) (cells (suc i) k e high)

      by_test : (b : Bool) → nat_lt n leaves ≡ b → IsRising low (beside_gates leaves ns ns) → (leaves ≤ n → IsRising (n + 1) (beside_gates leaves ns ns)) → IsRising low (if b then beside_gates leaves ns ns else n ∷ beside_gates leaves ns ns)
      by_test true e passed more = passed
      by_test false e passed more = let gate = ltb-false n leaves e in (above 0 n refl gate, more gate)

  last_of : (low : ℕ) (ns : List ℕ) → (end_of low ns ≡ low) × (ns ≡ []) ⊎ ((i n : ℕ) × (slice_get ns i ≡ Some n) × (end_of low ns ≡ suc n))
  last_of low [] = inl (refl, refl)
  last_of low (n ∷ []) = inr (0, n, refl, (let z : n + 1 ≡ suc n = omega arith in z))
  last_of low (n ∷ m ∷ ns) = by_case (last_of (n + 1) (m ∷ ns))
    where
      by_case : (end_of (n + 1) (m ∷ ns) ≡ n + 1) × (m ∷ ns ≡ []) ⊎ ((i k : ℕ) × (slice_get (m ∷ ns) i ≡ Some k) × (end_of (n + 1) (m ∷ ns) ≡ suc k)) → (end_of low (n ∷ m ∷ ns) ≡ low) × (n ∷ m ∷ ns ≡ []) ⊎ ((i k : ℕ) × (slice_get (n ∷ m ∷ ns) i ≡ Some k) × (end_of low (n ∷ m ∷ ns) ≡ suc k))
      by_case (inl (e, none)) = cc none
      by_case (inr (i, k, e, f)) = inr (suc i, k, e, f)

  pub own_rise : IsRising leaves (stored ++ beside_gates leaves shown shown)
  own_rise =
      let first = latches_rise 0 leaves stored (λ i n e. subst (λ (j : ℕ). HasCell (latch_bit j) n) (let z : i ≡ 0 + i = omega arith in z) (latch_cell i n e)) (λ i n e. let c = latch_cell i n e in let a = c.gates in let b = c.inside in omega arith) in
      rising_append leaves stored (beside_gates leaves shown shown) first
      (outputs_rise 0 (end_of leaves stored) shown (λ i n e high. subst (λ (j : ℕ). HasCell (output_bit j) n) (let z : i ≡ 0 + i = omega arith in z) (output_cell i n e high))
      (λ i n e high. behind i n e high (last_of leaves stored)))
    where
      behind : (i n : ℕ) → slice_get shown i ≡ Some n → leaves ≤ n → (end_of leaves stored ≡ leaves) × (stored ≡ []) ⊎ ((j k : ℕ) × (slice_get stored j ≡ Some k) × (end_of leaves stored ≡ suc k)) → end_of leaves stored ≤ n
      behind i n e high (inl (f, none)) = omega arith
      behind i n e high (inr (j, k, f, end)) = let less = cells_in_order (latch_bit j) (output_bit i) k n (latch_cell j k f) (output_cell i n e high) refl in omega arith

  pub own_end : end_of leaves (stored ++ beside_gates leaves shown shown) ≡ net_count g.machine.net
  own_end =
      let all : List ℕ = stored ++ beside_gates leaves shown shown in
      let low = rising_end leaves all own_rise in
      let most = end_within leaves (net_count g.machine.net) all (omega arith) (all_join (λ n. n < net_count g.machine.net) stored (beside_gates leaves shown shown) (stored_below g.machine.latches is_machine.stores) (all_beside (λ n. n < net_count g.machine.net) leaves shown shown is_machine.outputs)) in
      by_size (below_or (end_of leaves all) (net_count g.machine.net)) low most
    where
      stored_below : (rs : List LatchRow) → AllByRecursion (λ r. r.d < net_count g.machine.net) rs → AllByRecursion (λ n. n < net_count g.machine.net) (map (λ r. r.d) rs)
      stored_below [] h = tt
      stored_below (r ∷ rs) h = (h.0, stored_below rs h.1)

      own_below : (bit : Bit) (n : ℕ) → IsBitNet g bit n → leaves ≤ n → n < end_of leaves (stored ++ beside_gates leaves shown shown)
      own_below (latch_bit i) n e high = at_below leaves (stored ++ beside_gates leaves shown shown) i n own_rise (at_append stored (beside_gates leaves shown shown) i n e)
      own_below (output_bit i) n e high =
          let (j, f) = among_gates leaves shown i n e high in
          at_below leaves (stored ++ beside_gates leaves shown shown) (length stored + j) n own_rise (at_behind stored (beside_gates leaves shown shown) j n f)

      by_size : (end_of leaves (stored ++ beside_gates leaves shown shown) < net_count g.machine.net) ⊎ (net_count g.machine.net ≤ end_of leaves (stored ++ beside_gates leaves shown shown)) → leaves ≤ end_of leaves (stored ++ beside_gates leaves shown shown) → end_of leaves (stored ++ beside_gates leaves shown shown) ≤ net_count g.machine.net
          → end_of leaves (stored ++ beside_gates leaves shown shown) ≡ net_count g.machine.net
      by_size (inr more) low most = omega arith
      by_size (inl less) low most =
          absurd
          (let (r, c, first, last) = covers.each (end_of leaves (stored ++ beside_gates leaves shown shown)) low less in
          let is = all_at (IsRegion g) g.regions r covers.regions c in
          let end = is.is_last in
          let high : leaves ≤ is.last = omega arith in
          let below = own_below r.bit is.last is.own high in
          omega arith)
