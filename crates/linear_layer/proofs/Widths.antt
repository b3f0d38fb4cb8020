-- Numbers of so many bits.
use Rattle.std.proofs.Common.{◌≡◌, ap, ℕ, suc, ◌-◌, ◌+◌, ◌*◌, ◌/◌, ◌%◌, ◌^◌, ◌<◌, ◌≤◌, List, [], ◌∷◌, ◌++◌, length, ◌⊎◌, inl, inr, refl, zero, arith}
use Rattle.std.proofs.lemmas.Nat.{shr_split, pow_pos, ones-le}
use Rattle.std.proofs.lemmas.List.Sums.{sum_by-cons}
use Rattle.std.proofs.Math.Nat.{pow-suc}
use Rattle.std.specs.List.{AllByRecursion}
use Rattle.std.specs.Prelude.{count_ones, sum_by}
use Rattle.netlist_spec.specs.Covers.{Linear, IsLinear}
use Rattle.netlist_spec.specs.Size.{linear_cost}

pub all_push : {X : Type 0} (P : X → Type 0) (xs : List X) (y : X) → AllByRecursion P xs → P y → AllByRecursion P (xs ++ y ∷ [])
all_push P [] y all here = (here, tt)
all_push P (x ∷ xs) y all here = (all.0, all_push P xs y all.1 here)

half : (n p : ℕ) → 0 < p → n / p * p + n % p ≡ n → n / p ≤ 1 → n < 2 * p
half n p some split top = elim (cases (n / p) top) [ inl e ↦ let h = ap (λ q. q * p) e in omega arith | inr e ↦ let h = ap (λ q. q * p) e in omega arith ]
  where
    cases : (q : ℕ) → q ≤ 1 → (q ≡ 0) ⊎ (q ≡ 1)
    cases zero h = inl refl
    cases (suc zero) h = inr refl
    cases (suc (suc q)) h = absurd (omega arith)

-- a number whose bits from the last one on are 0 or 1
pub below_from_top : (n w : ℕ) → 1 ≤ w → n / 2 ^ (w - 1) ≤ 1 → n < 2 ^ w
below_from_top n w some top =
    let e : suc (w - 1) ≡ w = omega arith in
    let twice = ap (λ k. 2 ^ k) e in
    let h = pow-suc 2 (w - 1) in
    let below = half n (2 ^ (w - 1)) (pow_pos (w - 1)) (shr_split n (w - 1)) top in
    omega arith

each_small : (w : ℕ) (rows : List ℕ) → w ≤ 128 → AllByRecursion (λ n. n < 2 ^ w) rows → sum_by count_ones rows ≤ length rows * 128
each_small w [] h all = omega arith
each_small w (n ∷ rows) h all = let here = ones-le w n all.0 in let rest = each_small w rows h all.1 in let e = sum_by-cons count_ones n rows in omega arith

-- what a layer costs at most
pub cost_within : (l : Linear) → IsLinear l → linear_cost l ≤ 128 * 129
cost_within l h = let ones = each_small l.width l.rows h.width.1 h.each in let rows = h.rows.1 in omega arith
