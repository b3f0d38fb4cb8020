-- The first byte that passes a test, as searches answer it and as definitions count up to it.
use Rattle.std.proofs.Common.{◌≡◌, ℕ, ◌≤◌, Bool, true, false, not, cond, ltb, eqb, List, length, Option, Some, None, refl, sym, arith}
use Rattle.std.specs.Prelude.{unwrap_or}
use Rattle.std.specs.List.{position, position_or_len}
use Rattle.std.proofs.lemmas.Bool.{ltb-false}
use Rattle.std.proofs.lemmas.List.Sums.{prefix_len-le-length, position_or_len_is}
use Rattle.bstr.specs.Find.{IsFirstByte, is_byte}

chosen : (b : Bool) (n len : ℕ) → ltb n len ≡ b → n ≤ len → unwrap_or (cond b (Some n) None) len ≡ n
chosen true n len e within = refl
chosen false n len e within = omega (arith, ltb-false n len e)

pub unwrap_or-position : {X : Type 0} (p : X → Bool) (xs : List X) → unwrap_or (position p xs) (length xs) ≡ position_or_len p xs
unwrap_or-position p xs = chosen _ (position_or_len p xs) (length xs) refl (prefix_len-le-length (λ x. not (p x)) xs)

fails : (b : Bool) → (b ≡ true → ⊥) → b ≡ false
fails true h = absurd (h refl)
fails false h = refl

pub unwrap_or-first_byte : (a : ℕ) (bytes : List ℕ) (r : Option ℕ) → IsFirstByte (is_byte a) bytes r → unwrap_or r (length bytes) ≡ position_or_len (λ b. eqb b a) bytes
unwrap_or-first_byte a bytes None h =
    sym (position_or_len_is (λ b. eqb b a) bytes (length bytes) 0 (omega arith) (λ k below. fails _ (h k (omega arith) below)) (λ past. absurd (omega arith)))
unwrap_or-first_byte a bytes (Some i) h =
    sym (position_or_len_is (λ b. eqb b a) bytes i 0 (omega arith) (λ k below. fails _ (h.0.before k (omega arith) below)) (λ _. h.1))
