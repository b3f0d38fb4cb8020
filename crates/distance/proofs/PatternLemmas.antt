-- Error patterns by numbers, and by bits.
use Rattle.std.proofs.Common.{◌≡◌, sym, ◌∙◌, ap, ap₂, subst, ℕ, ◌+◌, ◌*◌, ◌^◌, ◌<◌, ◌≤◌, List, [], ◌∷◌, ◌++◌, length, map, take, get_or, All, Any, true, false, ◌≢◌, eqb, ◌⊎◌, inl, inr, arith, append_assoc}
use Rattle.std.specs.Int.RustNames.{count_ones}
use Rattle.std.specs.List.{AllByRecursion, IsDistinct}
use Rattle.std.proofs.Math.Nat.{pow-le-pow_right}
use Rattle.std.proofs.lemmas.Nat.{pow_pos}
use Rattle.std.proofs.lemmas.List.{map_more, length-map}
use Rattle.std.proofs.lemmas.Bool.{cases_lt, ne_eqb, eqb-true}
use Rattle.std.proofs.lemmas.Simd.{map-map}
use Rattle.std.proofs.lemmas.Map.Steps.{length-le_from_distinct_below}
use Rattle.std.proofs.lemmas.List.Elements.{All-from_recursion}
use Rattle.std.proofs.lemmas.List.Folds.{Any-from_list_any}
use Rattle.netlist_spec.specs.Covers.{number_of}
use Rattle.guard_spec.specs.Codes.{Code, data_places, IsCode, IsDistance, weight, syndrome_of, bits_of, Pattern, StandsBefore, IsPattern, ArePatterns}
use Rattle.netlist_spec.specs.SourceRun.{Bits}
use Rattle.block_code.specs.declared.word.Word.{Word}
use Rattle.block_code.proofs.Words.{length_bits, number_bits, bits_number, number_below, same_number, weight_bits, ones_zero}
use Rattle.block_code.proofs.Coding.{length_syndrome, one_error}
use Rattle.distance.specs.declared.error_patterns.Pattern.{Pattern as Found}
use Rattle.distance.specs.Levels.{IsLevel}
use Rattle.distance.specs.Patterns.{pattern_of, pattern_at}
use Rattle.distance.proofs.PairLemmas.{every_weaken, every_append, every_map, Pairs, pairs_append, pairs_map, pairs_from, pairs_to, In, in_left, in_right, in_map, in_to, in_from}

pub pattern_is : (code : Code) (m x : ℕ) (s : Word) → s.0 < 2 ^ code.columns → bits_of code.columns s.0 ≡ syndrome_of code m (bits_of (m + code.columns) x) → record { error = record { 0 = x }; syndrome = s } ≡ pattern_at code m x
pattern_is code m x s below is = ap (λ (n : ℕ). record { error = record { 0 = x }; syndrome = record { 0 = n } }) (sym (number_bits code.columns s.0 below) ∙ ap number_of is)

pub patterns_more : (code : Code) (m : ℕ) (errors : List ℕ) (i : ℕ) (found new old : List Found) (s : Word) → i < length errors → new ≡ found ++ record { error = record { 0 = get_or errors i 0 }; syndrome = s } ∷ [] → s.0 < 2 ^ code.columns → bits_of code.columns s.0 ≡ syndrome_of code m (bits_of (m + code.columns) (get_or errors i 0)) → found ≡ old ++ map (pattern_at code m) (take i errors) → new ≡ old ++ map (pattern_at code m) (take (i + 1) errors)
patterns_more code m errors i found new old s inside pushed below is so_far =
    pushed
    ∙ (ap₂ (λ (xs : List Found) (p : Found). xs ++ p ∷ []) so_far (pattern_is code m (get_or errors i 0) s below is)
    ∙ (append_assoc old (map (pattern_at code m) (take i errors)) (pattern_at code m (get_or errors i 0) ∷ [])
    ∙ ap (λ (xs : List Found). old ++ xs) (sym (map_more (pattern_at code m) errors i 0 inside))))

-- Errors as numbers.

-- by weight and then by number
abbrev pub Before : ℕ → ℕ → Type 0
Before a b = (count_ones a < count_ones b) ⊎ ((count_ones a ≡ count_ones b) × (a < b))

-- every number of at most so many places with 1 to t ones, once, in this order
pub record AreErrors (places t : ℕ) (xs : List ℕ) : Type 0 where
  pub each : AllByRecursion (λ x. (x < 2 ^ places) × (1 ≤ count_ones x) × (count_ones x ≤ t)) xs
  pub order : Pairs Before xs
  pub all : (x : ℕ) → x < 2 ^ places → 1 ≤ count_ones x → count_ones x ≤ t → In xs x

pub no_errors : (places : ℕ) → AreErrors places 0 []
no_errors places = record { each = tt; order = tt; all = λ x below some few. absurd (omega arith) }

pub errors_more : (places t : ℕ) (xs ys : List ℕ) → AreErrors places t xs → IsLevel places (t + 1) ys → AreErrors places (t + 1) (xs ++ ys)
errors_more places t xs ys errors level = record {
  each = every_append _ xs ys (every_weaken _ _ (λ x h. (h.0, h.1, omega (arith, h.2))) xs errors.each) (every_weaken (λ y. (y < 2 ^ places) × (count_ones y ≡ t + 1)) _ (λ y h. (h.0, omega (arith, h.1), omega (arith, h.1))) ys level.each);
  order = pairs_append Before xs ys errors.order (pairs_same ys level.each (pairs_from (λ a b. a < b) ys level.rising)) (every_weaken _ _ (λ x h. every_weaken (λ y. (y < 2 ^ places) × (count_ones y ≡ t + 1)) (Before x) (λ y k. inl (omega (arith, h.2, k.1))) ys level.each) xs errors.each);
  all = λ x below some few. by x below some few (cases_lt t (count_ones x));
}
  where
    pairs_same : (zs : List ℕ) → AllByRecursion (λ y. (y < 2 ^ places) × (count_ones y ≡ t + 1)) zs → Pairs (λ a b. a < b) zs → Pairs Before zs
    pairs_same [] h k = tt
    pairs_same (z ∷ zs) h k = (later zs h.1 k.0, pairs_same zs h.1 k.1)
      where
        later : (ws : List ℕ) → AllByRecursion (λ y. (y < 2 ^ places) × (count_ones y ≡ t + 1)) ws → AllByRecursion (λ b. z < b) ws → AllByRecursion (Before z) ws
        later [] e r = tt
        later (w ∷ ws) e r = (inr (h.0.1 ∙ sym e.0.1, r.0), later ws e.1 r.1)

    by : (x : ℕ) → x < 2 ^ places → 1 ≤ count_ones x → count_ones x ≤ t + 1 → (t < count_ones x) ⊎ (count_ones x ≤ t) → In (xs ++ ys) x
    by x below some few (inl more) = in_right xs ys x (in_from ys x (level.all x below (omega arith)))
    by x below some few (inr old) = in_left xs ys x (errors.all x below some old)

-- The patterns of these errors.

-- the syndromes of at most 16 columns
pub below_all : (columns : ℕ) → columns ≤ 16 → 2 ^ columns ≤ 65536
below_all columns h = pow-le-pow_right {n = 2} (omega arith) h

distinct_from : (xs : List ℕ) → Pairs (λ a b. a ≢ b) xs → IsDistinct eqb xs
unfolding IsDistinct
distinct_from [] h = tt
distinct_from (x ∷ xs) h = (every_weaken (λ y. x ≢ y) (λ y. eqb x y ≡ false) (λ y n. ne_eqb x y n) xs h.0, distinct_from xs h.1)

module _ (code : Code) (is : IsCode code) (m : ℕ) where
  -- the bits of an error, its syndrome as a number, and both as a pattern
  abbrev error_at : ℕ → Bits
  error_at x = bits_of (m + code.columns) x

  abbrev syndrome_at : ℕ → ℕ
  syndrome_at x = number_of (syndrome_of code m (bits_of (m + code.columns) x))

  abbrev bits_at : ℕ → Pattern
  bits_at x = pattern_of (m + code.columns) code.columns (pattern_at code m x)

  long : (x : ℕ) → length (syndrome_of code m (error_at x)) ≡ code.columns
  long x = length_syndrome code is m (error_at x) (length_bits (m + code.columns) x)

  syndrome_back : (x : ℕ) → bits_of code.columns (syndrome_at x) ≡ syndrome_of code m (error_at x)
  syndrome_back x = ap (λ (n : ℕ). bits_of n (syndrome_at x)) (sym (long x)) ∙ bits_number (syndrome_of code m (error_at x))

  syndrome_below : (x : ℕ) → syndrome_at x < 2 ^ code.columns
  syndrome_below x = subst (λ (n : ℕ). syndrome_at x < 2 ^ n) (long x) (number_below (syndrome_of code m (error_at x)))

  pub within : (t : ℕ) (xs : List ℕ) → AreErrors (m + code.columns) t xs → All (λ p. (p.error.0 < 2 ^ (m + code.columns)) × (p.syndrome.0 < 2 ^ code.columns)) (map (pattern_at code m) xs)
  within t xs errors = All-from_recursion _ _ (every_map (pattern_at code m) _ (λ p. (p.error.0 < 2 ^ (m + code.columns)) × (p.syndrome.0 < 2 ^ code.columns)) (λ x h. (h.0, syndrome_below x)) xs errors.each)

  each_pattern : (t x : ℕ) → (x < 2 ^ (m + code.columns)) × (1 ≤ count_ones x) × (count_ones x ≤ t) → IsPattern code m t (error_at x) × (bits_of code.columns (syndrome_at x) ≡ syndrome_of code m (error_at x))
  each_pattern t x h =
      let counted = weight_bits (m + code.columns) x h.0 in
      (record { places = length_bits (m + code.columns) x; some_place = omega (arith, h.1); few = omega (arith, h.2) }, syndrome_back x)

  order_of : (x y : ℕ) → x < 2 ^ (m + code.columns) → y < 2 ^ (m + code.columns) → Before x y → StandsBefore (error_at x) (error_at y)
  order_of x y p q (inl less) =
      let count_x = weight_bits (m + code.columns) x p in
      let count_y = weight_bits (m + code.columns) y q in
      inl (omega arith)
  order_of x y p q (inr (same, less)) =
      let number_x = number_bits (m + code.columns) x p in
      let number_y = number_bits (m + code.columns) y q in
      inr (weight_bits (m + code.columns) x p ∙ (same ∙ sym (weight_bits (m + code.columns) y q)), omega arith)

  all_in : (t : ℕ) (xs : List ℕ) → AreErrors (m + code.columns) t xs → (error : Bits) → IsPattern code m t error → In (map (λ p. p.error) (map bits_at xs)) error
  all_in t xs errors error pattern =
      let back : error_at (number_of error) ≡ error = ap (λ (n : ℕ). bits_of n (number_of error)) (sym pattern.places) ∙ bits_number error in
      let below : number_of error < 2 ^ (m + code.columns) = subst (λ (n : ℕ). number_of error < 2 ^ n) pattern.places (number_below error) in
      let counted : weight error ≡ count_ones (number_of error) = ap weight (sym back) ∙ weight_bits (m + code.columns) (number_of error) below in
      let found = errors.all (number_of error) below (omega (arith, pattern.some_place)) (omega (arith, pattern.few)) in
      subst (In (map (λ p. p.error) (map bits_at xs))) back (in_map (λ p. p.error) (map bits_at xs) (bits_at (number_of error)) (in_map bits_at xs (number_of error) found))

  single : (t : ℕ) (xs : List ℕ) → AreErrors (m + code.columns) t xs → ArePatterns code m t (map bits_at xs)
  single t xs errors = record {
    each = every_map bits_at _ (λ p. IsPattern code m t p.error × (p.syndrome ≡ syndrome_of code m p.error)) (λ x h. each_pattern t x h) xs errors.each;
    order = pairs_to (λ p q. StandsBefore p.error q.error) (map bits_at xs) (pairs_map bits_at _ Before (λ p q. StandsBefore p.error q.error) (λ x y p q h. order_of x y p.0 q.0 h) xs errors.each errors.order);
    all = λ error pattern. in_to _ error (all_in t xs errors error pattern);
  }

  pub are_patterns : (t : ℕ) (xs : List ℕ) → AreErrors (m + code.columns) t xs → ArePatterns code m t (map (pattern_of (m + code.columns) code.columns) (map (pattern_at code m) xs))
  are_patterns t xs errors = rw (map-map (pattern_of (m + code.columns) code.columns) (pattern_at code m) xs) (single t xs errors)

  -- Syndromes of different errors differ, so there are no more of them than syndromes other than 0.
  module _ (fits : m ≤ data_places code) (d : ℕ) (is_distance : IsDistance code d) (t : ℕ) (wide : 2 * t < d) where
    differ_at : (x y : ℕ) → (x < 2 ^ (m + code.columns)) × (count_ones x ≤ t) → (y < 2 ^ (m + code.columns)) × (count_ones y ≤ t) → x ≢ y → syndrome_at x ≢ syndrome_at y
    differ_at x y p q other same =
        let few_x = weight_bits (m + code.columns) x p.0 in
        let few_y = weight_bits (m + code.columns) y q.0 in
        let one = one_error code is d is_distance t wide m fits (error_at x) (error_at y) (length_bits (m + code.columns) x) (length_bits (m + code.columns) y) (omega (arith, p.1)) (omega (arith, q.1)) (sym (syndrome_back x) ∙ (ap (bits_of code.columns) same ∙ syndrome_back y)) in
        other (same_number (m + code.columns) x y p.0 q.0 one)

    apart_in_order : (x y : ℕ) → Before x y → x ≢ y
    apart_in_order x y (inl less) e = absurd (omega (arith, ap count_ones e))
    apart_in_order x y (inr (same, less)) e = absurd (omega arith)

    with_zero : (xs : List ℕ) → AreErrors (m + code.columns) t xs → Pairs (λ a b. a ≢ b) (map syndrome_at (0 ∷ xs))
    with_zero xs errors =
        let every = every_weaken _ (λ x. (x < 2 ^ (m + code.columns)) × (count_ones x ≤ t)) (λ x h. (h.0, h.2)) xs errors.each in
        let not_zero = every_weaken _ (λ x. 0 ≢ x) (λ x h e. absurd (omega (arith, h.1, ap count_ones e, ones_zero))) xs errors.each in
        let zero_in : (0 < 2 ^ (m + code.columns)) × (count_ones 0 ≤ t) = (pow_pos (m + code.columns), omega (arith, ones_zero)) in
        let pairs = apart_pairs xs errors.order in
        pairs_map syndrome_at (λ x. (x < 2 ^ (m + code.columns)) × (count_ones x ≤ t)) (λ a b. a ≢ b) (λ a b. a ≢ b) differ_at (0 ∷ xs) (zero_in, every) (not_zero, pairs)
      where
        apart_pairs : (ys : List ℕ) → Pairs Before ys → Pairs (λ a b. a ≢ b) ys
        apart_pairs [] h = tt
        apart_pairs (y ∷ ys) h = (every_weaken (Before y) (λ b. y ≢ b) (λ b k. apart_in_order y b k) ys h.0, apart_pairs ys h.1)

    pub few : (xs : List ℕ) → AreErrors (m + code.columns) t xs → length (map (pattern_at code m) xs) < 2 ^ code.columns
    few xs errors =
        let syndromes = map syndrome_at (0 ∷ xs) in
        let below = All-from_recursion (λ s. s < 2 ^ code.columns) syndromes (every_map syndrome_at (λ _. Unit {0}) (λ s. s < 2 ^ code.columns) (λ x h. syndrome_below x) (0 ∷ xs) (any (0 ∷ xs))) in
        let most = length-le_from_distinct_below syndromes (2 ^ code.columns) (distinct_from syndromes (with_zero xs errors)) (λ q found. one_of q syndromes below (Any-from_list_any (eqb q) syndromes found)) in
        let counted = length-map xs syndrome_at in
        let same = length-map xs (pattern_at code m) in
        omega arith
      where
        any : (ys : List ℕ) → AllByRecursion (λ _. Unit {0}) ys
        any [] = tt
        any (y ∷ ys) = (tt, any ys)

        one_of : (q : ℕ) (ys : List ℕ) → All (λ s. s < 2 ^ code.columns) ys → Any (λ s. eqb q s ≡ true) ys → q < 2 ^ code.columns
        one_of q ys every (k, s, inside, at, same) =
            let e : q ≡ s = eqb-true q s same in
            let below : get_or ys k s < 2 ^ code.columns = every k s inside in
            omega arith
