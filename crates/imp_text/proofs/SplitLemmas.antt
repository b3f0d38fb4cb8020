-- Bytes cut at each byte that passes a test, from the front.
use Rattle.std.proofs.Common.{◌≡◌, ℕ, ◌<◌, ◌≤◌, ◌+◌, Bool, true, false, not, cond, List, [], ◌∷◌, length, take, drop, arith, refl}
use Rattle.std.specs.List.{position_or_len, slice_split, onto_first}
use Rattle.std.proofs.lemmas.List.Splits.{slice_split_first}

pub slice_split-first : (p : ℕ → Bool) (bs : List ℕ) → position_or_len p bs < length bs → slice_split p bs ≡ take (position_or_len p bs) bs ∷ slice_split p (drop (position_or_len p bs + 1) bs)
slice_split-first p bs h = slice_split_first p bs 0 h

none_step : {X : Type 0} (p : X → Bool) (b : Bool) (x : X) (xs : List X) → 1 + length xs ≤ cond (not b) (1 + position_or_len p xs) 0 → (length xs ≤ position_or_len p xs → slice_split p xs ≡ xs ∷ []) → cond b ([] ∷ slice_split p xs) (onto_first x (slice_split p xs)) ≡ (x ∷ xs) ∷ []
none_step p true x xs h rest = absurd (omega arith)
none_step p false x xs h rest = rw (rest (omega arith))

-- where none passes, there is one part
pub slice_split-last : {X : Type 0} (p : X → Bool) (xs : List X) → length xs ≤ position_or_len p xs → slice_split p xs ≡ xs ∷ []
slice_split-last p [] h = refl
slice_split-last p (x ∷ xs) h = none_step p (p x) x xs (omega arith) (slice_split-last p xs)
