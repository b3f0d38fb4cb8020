-- The words of a logical line: at least one, and each has a byte.
use Rattle.std.proofs.Common.{◌≡◌, refl, ℕ, ◌+◌, List, [], ◌∷◌, ◌++◌, Bool, true, false, not, cond, filter}
use Rattle.std.specs.Prelude.{◌==◌}
use Rattle.std.specs.List.{AllByRecursion, slice_split}
use Rattle.netlist_spec.specs.Lines.{Word, Line, is_blank, is_empty, words, without_comment, trimmed, ends_with_backslash, without_last, joined, logical_from, with_words, logical_lines}
use Rattle.netlist_spec.proofs.SaidLines.{HasByte, HasWords}

full_words : (ws : List Word) → AllByRecursion HasByte (filter (λ w. not (is_empty w)) ws)
full_words [] = tt
full_words ([] ∷ ws) = full_words ws
full_words ((b ∷ w) ∷ ws) = (refl, full_words ws)

words_full : (bytes : List ℕ) → AllByRecursion HasByte (words bytes)
words_full bytes = full_words (slice_split is_blank bytes)

both_full : (xs ys : List Word) → AllByRecursion HasByte xs → AllByRecursion HasByte ys → AllByRecursion HasByte (xs ++ ys)
both_full [] ys h k = k
both_full (x ∷ xs) ys h k = (h.0, both_full xs ys h.1 k)

abbrev IsFull : Line → Type 0
IsFull l = AllByRecursion HasByte l.words

joined_full : (n : ℕ) (ws : List Word) (lines : List Line) → AllByRecursion HasByte ws → AllByRecursion IsFull lines → AllByRecursion IsFull (joined n ws lines)
joined_full n ws [] h k = (h, tt)
joined_full n ws (next ∷ rest) h k = (both_full ws next.words h k.0, k.1)

one_line : (b : Bool) (n : ℕ) (text : List ℕ) (rest : List Line) → AllByRecursion IsFull rest
    → AllByRecursion IsFull (cond b (joined n (words (without_last text)) rest) (record { number = n; words = words text } ∷ rest))
one_line true n text rest h = joined_full n (words (without_last text)) rest (words_full (without_last text)) h
one_line false n text rest h = (words_full text, h)

from_full : (n : ℕ) (lines : List (List ℕ)) → AllByRecursion IsFull (logical_from n lines)
from_full n [] = tt
from_full n (l ∷ ls) =
    let text : List ℕ = trimmed (without_comment l) in
    one_line (ends_with_backslash text) n text (logical_from (n + 1) ls) (from_full (n + 1) ls)

kept_full : (lines : List Line) → AllByRecursion IsFull lines → AllByRecursion HasWords (with_words lines)
kept_full [] h = tt
kept_full (l ∷ ls) h = go (is_empty l.words) refl (kept_full ls h.1)
  where
    go : (b : Bool) → is_empty l.words ≡ b → AllByRecursion HasWords (with_words ls) → AllByRecursion HasWords (cond (not b) (l ∷ with_words ls) (with_words ls))
    go true e k = k
    go false e k = (record { some = e; bytes = h.0 }, k)

pub lines_have_words : (bytes : List ℕ) → AllByRecursion HasWords (logical_lines bytes)
lines_have_words bytes = kept_full (logical_from 1 (slice_split (λ b. b == 10) bytes)) (from_full 1 (slice_split (λ b. b == 10) bytes))
