-- The patterns of few places tell the error of a word by its syndrome.
use Rattle.std.proofs.Common.{◌≡◌, refl, sym, ◌∙◌, ap, ap₂, ℕ, zero, suc, ◌+◌, ◌*◌, ◌==◌, ◌&&◌, ◌<◌, ◌≤◌, List, [], ◌∷◌, length, take, drop, get_or, Bool, true, false, arith, length-take-le, eqb-true}
use Rattle.std.specs.List.{list_any}
use Rattle.std.proofs.lemmas.List.{get_or_append_left}
use Rattle.netlist_spec.specs.Covers.{differ}
use Rattle.netlist_spec.specs.SourceRun.{Bits}
use Rattle.guard_spec.specs.Codes.{Code, data_places, IsCode, sum_of, checks_of, encoded, weight, apart, IsDistance, Pattern, IsPattern, ArePatterns, syndrome_of}
use Rattle.netlist_spec.proofs.ListTests.{both, any_element, any_from}
use Rattle.block_code.proofs.Coding.{ones, weight_ones, length_sum, sum_zeros_right, apart_zero, apart_same, length_encoded, length_syndrome, zero_from_codeword, one_error, ones_sum, sum_swap, no_ones, sum_take, sum_drop, checks_sum}
use Rattle.corrector.proofs.Patterns.{of_map}
use Rattle.cone_split.proofs.Cells.{all_contains}

-- ---- sums of words and of their check bits

syndrome_sum : (code : Code) → IsCode code → (m : ℕ) (e f : Bits) → length e ≡ m + code.columns → length f ≡ m + code.columns → syndrome_of code m (sum_of e f) ≡ sum_of (syndrome_of code m e) (syndrome_of code m f)
syndrome_sum code is_code m e f he hf =
    let front = ap (checks_of code) (sum_take m e f) ∙ checks_sum code.columns code.rows is_code.full (take m e) (take m f) (length-take-le m e (omega arith) ∙ sym (length-take-le m f (omega arith))) in
    ap₂ (λ (a b : Bits). sum_of a b) front (sum_drop m e f)
    ∙ sum_swap (checks_of code (take m e)) (checks_of code (take m f)) (drop m e) (drop m f)

pub sum_at : (a b : Bits) (i : ℕ) → length a ≡ length b → get_or (sum_of a b) i false ≡ differ (get_or a i false) (get_or b i false)
sum_at [] [] i h = refl
sum_at [] (y ∷ b) i h = absurd (omega arith)
sum_at (x ∷ a) [] i h = absurd (omega arith)
sum_at (x ∷ a) (y ∷ b) zero h = refl
sum_at (x ∷ a) (y ∷ b) (suc i) h = sum_at a b i (omega arith)

twice : (a b : Bool) → b ≡ differ a (differ a b)
twice true true = refl
twice true false = refl
twice false true = refl
twice false false = refl

some_one : (bs : Bits) (i : ℕ) → get_or bs i false ≡ true → 0 < ones bs
some_one [] i e = cc e
some_one (true ∷ bs) zero e = omega arith
some_one (false ∷ bs) zero e = cc e
some_one (b ∷ bs) (suc i) e = let h = some_one bs i e in omega arith

same_truth : (a b : Bool) → (a ≡ true → b ≡ true) → (b ≡ true → a ≡ true) → a ≡ b
same_truth true b f g = sym (f refl)
same_truth false true f g = let clash : false ≡ true = g refl in cc clash
same_truth false false f g = refl

-- some pattern has this syndrome and an error at the place
abbrev pub found_error : List Pattern → Bits → ℕ → Bool
found_error patterns syndrome i = list_any (λ p. (apart p.syndrome syndrome == 0) && get_or p.error i false) patterns

-- ---- the error

module _ (code : Code) (d t m : ℕ) (patterns : List Pattern) (z u : Bits) (is_code : IsCode code) (is_distance : IsDistance code d) (wide : 2 * t < d) (fits : m ≤ data_places code) (are : ArePatterns code m t patterns)
    (places : length u ≡ m) (near : apart z (encoded code u) ≤ t) (long : length z ≡ m + code.columns) where
  abbrev right : Bits
  right = encoded code u

  abbrev error : Bits
  error = sum_of z right

  right_long : length right ≡ m + code.columns
  right_long = length_encoded code is_code u ∙ ap (λ (n : ℕ). n + code.columns) places

  error_long : length error ≡ m + code.columns
  error_long = length_sum z right (long ∙ sym right_long) ∙ long

  error_few : weight error ≤ t
  error_few = let a = weight_ones error in let b = ones_sum z right (long ∙ sym right_long) in omega arith

  same_syndrome : syndrome_of code m z ≡ syndrome_of code m error
  same_syndrome =
      let none : ones (syndrome_of code m right) ≡ 0 = sym (weight_ones (syndrome_of code m right)) ∙ zero_from_codeword code is_code m right (u, places, refl) in
      let zero_right = no_ones (syndrome_of code m right) code.columns (length_syndrome code is_code m right right_long) none in
      sum_zeros_right (syndrome_of code m z) code.columns (length_syndrome code is_code m z long)
      ∙ (ap (sum_of (syndrome_of code m z)) (sym zero_right) ∙ sym (syndrome_sum code is_code m z right long right_long))

  abbrev Fits : Pattern → ℕ → Bool
  Fits p i = (apart p.syndrome (syndrome_of code m z) == 0) && get_or p.error i false

  found_is_error : (i : ℕ) → found_error patterns (syndrome_of code m z) i ≡ get_or error i false
  found_is_error i = same_truth (found_error patterns (syndrome_of code m z) i) (get_or error i false) there back
    where
      there : found_error patterns (syndrome_of code m z) i ≡ true → get_or error i false ≡ true
      there e =
          let (q, inside, f) = any_element (λ p. Fits p i) patterns e in
          let (a, b) = both (apart q.syndrome (syndrome_of code m z) == 0) (get_or q.error i false) f in
          let same = apart_zero q.syndrome (syndrome_of code m z) (eqb-true (apart q.syndrome (syndrome_of code m z)) 0 a) in
          let (pattern, told) = all_contains (λ (p : Pattern). IsPattern code m t p.error × (p.syndrome ≡ syndrome_of code m p.error)) patterns q are.each inside in
          let one = one_error code is_code d is_distance t wide m fits q.error error pattern.places error_long pattern.few error_few (sym told ∙ (same ∙ same_syndrome)) in
          ap (λ (bs : Bits). get_or bs i false) (sym one) ∙ b

      back : get_or error i false ≡ true → found_error patterns (syndrome_of code m z) i ≡ true
      back e =
          let some = some_one error i e in
          let count = weight_ones error in
          let (q, inside, same) = of_map (λ (p : Pattern). p.error) patterns error (are.all error (record { places = error_long; some_place = omega arith; few = error_few })) in
          let (pattern, told) = all_contains (λ (p : Pattern). IsPattern code m t p.error × (p.syndrome ≡ syndrome_of code m p.error)) patterns q are.each inside in
          let equal : q.syndrome ≡ syndrome_of code m z = told ∙ (ap (syndrome_of code m) same ∙ sym same_syndrome) in
          let apart_none : apart q.syndrome (syndrome_of code m z) ≡ 0 = ap (λ (bs : Bits). apart bs (syndrome_of code m z)) equal ∙ apart_same (syndrome_of code m z) in
          any_from (λ p. Fits p i) patterns q inside
          (ap₂ (λ (a b : Bool). a && b) (ap (λ (n : ℕ). n == 0) apart_none) (ap (λ (bs : Bits). get_or bs i false) same ∙ e))

  pub decoded : (i : ℕ) → i < m → get_or u i false ≡ differ (get_or z i false) (found_error patterns (syndrome_of code m z) i)
  decoded i h =
      let front : get_or right i false ≡ get_or u i false = get_or_append_left u (checks_of code u) false i (omega arith) in
      sym front ∙ (twice (get_or z i false) (get_or right i false)
      ∙ (ap (differ (get_or z i false)) (sym (sum_at z right i (long ∙ sym right_long)) ∙ sym (found_is_error i))))
