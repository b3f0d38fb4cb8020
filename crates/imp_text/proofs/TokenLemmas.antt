-- Tokens that stand one behind the other.
use Rattle.std.proofs.Common.{ℕ, zero, suc, ◌<◌, ◌≤◌, List, [], ◌∷◌, ◌++◌, length, All, arith}
use Rattle.imp_text.specs.declared.token.Token.{Token}
use Rattle.imp_text.specs.Tokens.{StandBetween, IsWithin}

pub StandBetween-push : (low mid high : ℕ) (tokens : List Token) (token : Token) → StandBetween low mid tokens → mid ≤ token.start → token.start < token.end → token.end ≤ high → StandBetween low high (tokens ++ token ∷ [])
StandBetween-push low mid high [] token h from some to = (omega arith, some, to)
StandBetween-push low mid high (first ∷ rest) token h from some to =
    (h.0, h.1, StandBetween-push first.end mid high rest token h.2 from some to)

pub StandBetween-up_to : (low mid high : ℕ) (tokens : List Token) → StandBetween low mid tokens → mid ≤ high → StandBetween low high tokens
StandBetween-up_to low mid high [] h up = omega arith
StandBetween-up_to low mid high (first ∷ rest) h up = (h.0, h.1, StandBetween-up_to first.end mid high rest h.2 up)

low-le-high : (low high : ℕ) (tokens : List Token) → StandBetween low high tokens → low ≤ high
low-le-high low high [] h = h
low-le-high low high (first ∷ rest) h = omega (arith, low-le-high first.end high rest h.2)

pub IsWithin-from_between : (source : List ℕ) (low high : ℕ) (tokens : List Token) → high ≤ length source → StandBetween low high tokens → All (IsWithin source) tokens
IsWithin-from_between source low high [] short h k d below = absurd (omega arith)
IsWithin-from_between source low high (first ∷ rest) short h zero d below =
    (h.1, omega (arith, low-le-high first.end high rest h.2))
IsWithin-from_between source low high (first ∷ rest) short h (suc k) d below =
    IsWithin-from_between source first.end high rest short h.2 k d (omega arith)
