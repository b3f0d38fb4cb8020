-- Words as parts of their source.
use Rattle.std.specs.Prelude.{ℕ, ◌≤◌, ◌<◌, List, [], ◌∷◌, map, slice_range, length}
use Rattle.netlist_spec.specs.Lines.{Word}
use Rattle.imp_text.specs.declared.token.Token.{Token}

-- the bytes from the token's start up to its end
abbrev pub word_at : List ℕ → Token → Word
word_at source token = slice_range source token.start token.end

abbrev pub words_at : List ℕ → List Token → List Word
words_at source tokens = map (word_at source) tokens

-- the token is some bytes of the source
abbrev pub IsWithin : List ℕ → Token → Type 0
IsWithin source token = (token.start < token.end) × (token.end ≤ length source)

-- The tokens stand one behind the other, from `low` up to `high`.
abbrev pub StandBetween : ℕ → ℕ → List Token → Type 0
StandBetween low high [] = low ≤ high
StandBetween low high (token ∷ rest) =
    (low ≤ token.start) × (token.start < token.end) × StandBetween token.end high rest
