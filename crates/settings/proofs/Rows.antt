-- A row as a number, one more character at a time.
use Rattle.std.proofs.Common.{◌≡◌, ℕ, ◌+◌, ◌*◌, ◌%◌, ◌^◌, ◌<◌, ◌≤◌, true, false, [], ◌∷◌, ◌++◌, sym, ◌∙◌, ap, subst, arith}
use Rattle.std.specs.Int.RustNames.{bit_or}
use Rattle.std.proofs.lemmas.Nat.{shl_whole, or_shifted}
use Rattle.guard_spec.specs.Codes.{bits_of}
use Rattle.block_code.proofs.Words.{bits_joined, joined_below}

zero_joined : (j u : ℕ) → 0 * 2 ^ j + u ≡ u
zero_joined j u = omega arith

pub zero_bits : (j u : ℕ) → u < 2 ^ j → bits_of (j + 1) u ≡ bits_of j u ++ false ∷ []
zero_bits j u low = ap (bits_of (j + 1)) (sym (zero_joined j u)) ∙ bits_joined j 1 0 u low

pub zero_below : (j u : ℕ) → u < 2 ^ j → u < 2 ^ (j + 1)
zero_below j u low = subst (λ n. n < 2 ^ (j + 1)) (zero_joined j u) (joined_below j 1 0 u (omega arith) low)

-- what the shift and the `|` make at 128 bits
joined_or : (j u : ℕ) → j + 1 ≤ 128 → u < 2 ^ j → bit_or (1 * 2 ^ j % 2 ^ 128) u ≡ 1 * 2 ^ j + u
joined_or j u few low = ap (λ (x : ℕ). bit_or x u) (shl_whole 1 1 j 128 (omega arith) (omega arith)) ∙ or_shifted 1 j u low

pub one_bits : (j u : ℕ) → j + 1 ≤ 128 → u < 2 ^ j → bits_of (j + 1) (bit_or (1 * 2 ^ j % 2 ^ 128) u) ≡ bits_of j u ++ true ∷ []
one_bits j u few low = ap (bits_of (j + 1)) (joined_or j u few low) ∙ bits_joined j 1 1 u low

pub one_below : (j u : ℕ) → j + 1 ≤ 128 → u < 2 ^ j → bit_or (1 * 2 ^ j % 2 ^ 128) u < 2 ^ (j + 1)
one_below j u few low = subst (λ n. n < 2 ^ (j + 1)) (sym (joined_or j u few low)) (joined_below j 1 1 u (omega arith) low)
