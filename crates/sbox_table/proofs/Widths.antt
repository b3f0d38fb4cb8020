-- Numbers of so many bits.
use Rattle.std.proofs.Common.{◌≡◌, ap, ℕ, ◌+◌, ◌*◌, ◌/◌, ◌%◌, ◌^◌, ◌<◌, ◌≤◌, List, [], ◌∷◌, ◌++◌, arith}
use Rattle.std.proofs.lemmas.Nat.{shr_split, pow_pos}
use Rattle.std.proofs.Math.Nat.{mul-le-mul}
use Rattle.std.proofs.Math.Pow.{pow_mono}
use Rattle.std.specs.List.{AllByRecursion}
use Rattle.netlist_spec.specs.Covers.{Table, IsTable}
use Rattle.netlist_spec.specs.Size.{table_cost}

pub all_push : {X : Type 0} (P : X → Type 0) (xs : List X) (y : X) → AllByRecursion P xs → P y → AllByRecursion P (xs ++ y ∷ [])
all_push P [] y all here = (here, tt)
all_push P (x ∷ xs) y all here = (all.0, all_push P xs y all.1 here)

no_quotient : (n p : ℕ) → 0 < p → n / p * p + n % p ≡ n → n / p ≤ 0 → n < p
no_quotient n p some split none = let e : n / p ≡ 0 = omega arith in let h = ap (λ q. q * p) e in omega arith

-- a number without bits from one place on
pub below_from_none : (n w : ℕ) → n / 2 ^ w ≤ 0 → n < 2 ^ w
below_from_none n w none = no_quotient n (2 ^ w) (pow_pos w) (shr_split n w) none

-- what a table costs at most
pub cost_within : (t : Table) → IsTable t → table_cost t ≤ 8192
cost_within t h = let few : 2 ^ t.ins ≤ 256 = pow_mono {i = t.ins} {j = 8} h.ins.1 in mul-le-mul {n₁ = 4 * t.outs} {m₁ = 2 ^ t.ins} {n₂ = 32} {m₂ = 256} (let o = h.outs.1 in omega arith) few
