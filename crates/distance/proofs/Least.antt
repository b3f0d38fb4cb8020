-- The least weight over numbers is the least weight over data.
use Rattle.std.proofs.Common.{◌≡◌, sym, ◌∙◌, ap, subst, ℕ, ◌*◌, ◌%◌, ◌^◌, ◌<◌, ◌≤◌, length, ◌⊎◌, inl, inr, arith}
use Rattle.std.specs.Int.RustNames.{count_ones}
use Rattle.std.proofs.Math.Nat.{eq-zero-or-pos}
use Rattle.std.proofs.lemmas.Nat.{zero_from_ones, one_shl, pow_below}
use Rattle.std.proofs.lemmas.Bool.{cases_lt}
use Rattle.netlist_spec.specs.Covers.{number_of}
use Rattle.netlist_spec.specs.SourceRun.{Bits}
use Rattle.guard_spec.specs.Codes.{Code, data_places, encoded, weight, IsDistance, IsLeastData, bits_of}
use Rattle.block_code.proofs.Words.{length_bits, number_bits, bits_number, number_below, weight_bits, ones_zero}

-- the weight of the codeword of a number
abbrev pub weight_of : Code → ℕ → ℕ
weight_of code u = weight (encoded code (bits_of (data_places code) u))

-- What is known when the numbers from 1 up to an end are seen.
pub record IsLeast (code : Code) (end d least : ℕ) : Type 0 where
  pub some : 1 ≤ least
  pub seen : least < end
  pub within : end ≤ 2 ^ data_places code
  pub reached : weight_of code least ≡ d
  pub bound : (v : ℕ) → 1 ≤ v → v < end → d ≤ weight_of code v
  pub first : (v : ℕ) → 1 ≤ v → v < least → d < weight_of code v

-- data as a number
module _ (k : ℕ) (u : Bits) (places : length u ≡ k) (nonzero : 0 < weight u) where
  pub back : bits_of k (number_of u) ≡ u
  back = ap (λ (n : ℕ). bits_of n (number_of u)) (sym places) ∙ bits_number u

  pub inside : number_of u < 2 ^ k
  inside = subst (λ (n : ℕ). number_of u < 2 ^ n) places (number_below u)

  pub some_number : 1 ≤ number_of u
  some_number = by (eq-zero-or-pos (number_of u))
    where
      by : (number_of u ≡ 0) ⊎ (0 < number_of u) → 1 ≤ number_of u
      by (inl e) =
          let none : weight u ≡ 0 = ap weight (sym back) ∙ (weight_bits k (number_of u) inside ∙ (ap count_ones e ∙ ones_zero)) in
          absurd (omega arith)
      by (inr h) = h

pub nonzero_bits : (k u : ℕ) → 1 ≤ u → u < 2 ^ k → 0 < weight (bits_of k u)
nonzero_bits k u some below = by (eq-zero-or-pos (weight (bits_of k u)))
  where
    by : (weight (bits_of k u) ≡ 0) ⊎ (0 < weight (bits_of k u)) → 0 < weight (bits_of k u)
    by (inl e) = absurd (omega (arith, zero_from_ones u (sym (weight_bits k u below) ∙ e)))
    by (inr h) = h

module _ (code : Code) (d least : ℕ) (is : IsLeast code (2 ^ data_places code) d least) where
  pub is_distance : IsDistance code d
  is_distance = record {
    least = bits_of (data_places code) least;
    places = length_bits (data_places code) least;
    nonzero = nonzero_bits (data_places code) least is.some is.seen;
    reached = is.reached;
    bound = λ u places nonzero.
        subst (λ (w : Bits). d ≤ weight (encoded code w)) (back _ u places nonzero) (is.bound (number_of u) (some_number _ u places nonzero) (inside _ u places nonzero));
  }

  pub is_least_data : IsLeastData code d (bits_of (data_places code) least)
  is_least_data = record {
    places = length_bits (data_places code) least;
    nonzero = nonzero_bits (data_places code) least is.some is.seen;
    reached = is.reached;
    least = λ w places nonzero same. not_before w places nonzero same (cases_lt (number_of w) least);
  }
    where
      not_before : (w : Bits) → length w ≡ data_places code → 0 < weight w → weight (encoded code w) ≡ d → (number_of w < least) ⊎ (least ≤ number_of w) → number_of (bits_of (data_places code) least) ≤ number_of w
      not_before w places nonzero same (inl before) =
          let first = is.first (number_of w) (some_number (data_places code) w places nonzero) before in
          let same_weight : weight_of code (number_of w) ≡ weight (encoded code w) = ap (λ (bits : Bits). weight (encoded code bits)) (back (data_places code) w places nonzero) in
          absurd (omega arith)
      not_before w places nonzero same (inr after) = rw (number_bits (data_places code) least is.seen) after

-- at the first number, and at the last
pub above_one : (k : ℕ) → 1 ≤ k → 1 < 2 ^ k
above_one k h = pow_below 0 k h

pub least_first : (code : Code) → 1 ≤ data_places code → (d : ℕ) → d ≡ weight_of code 1 → IsLeast code 2 d 1
least_first code places d e = record {
  some = omega arith;
  seen = omega arith;
  within = above_one (data_places code) places;
  reached = sym e;
  bound = λ v some below. only v (first_is v some below);
  first = λ v some below. absurd (omega arith);
}
  where
    first_is : (v : ℕ) → 1 ≤ v → v < 2 → 1 ≡ v
    first_is v some below = omega arith

    only : (v : ℕ) → 1 ≡ v → d ≤ weight_of code v
    only v same = subst (λ (n : ℕ). d ≤ weight_of code n) same (omega (arith, e))

pub least_last : (code : Code) (u d least : ℕ) → data_places code < 32 → IsLeast code u d least → 1 * 2 ^ data_places code % 2 ^ 32 ≤ u → IsLeast code (2 ^ data_places code) d least
least_last code u d least short is last = subst (λ (n : ℕ). IsLeast code n d least) (whole (one_shl (data_places code) 32 short)) is
  where
    whole : 1 * 2 ^ data_places code % 2 ^ 32 ≡ 2 ^ data_places code → u ≡ 2 ^ data_places code
    whole e = omega (arith, is.within)
