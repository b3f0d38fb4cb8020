-- A text has at most half as many words as bytes, and one.
use Rattle.std.proofs.Common.{◌≡◌, ◌≤◌, ◌<◌, ◌+◌, ◌*◌, ℕ, Bool, true, false, not, cond, List, [], ◌∷◌, ◌++◌, length, refl, ◌∙◌, arith, filter, length-append}
use Rattle.std.proofs.lemmas.List.{length-take}
use Rattle.std.specs.Prelude.{◌==◌, ◌&&◌}
use Rattle.std.specs.List.{slice_split, onto_first, before_first, position_or_len}
use Rattle.netlist_spec.specs.Lines.{Word, Line, is_blank, is_empty, words, without_comment, trimmed, ends_with_backslash, without_last, joined, logical_from, with_words, logical_lines}

abbrev pub word_count : List Line → ℕ
word_count [] = 0
word_count (l ∷ ls) = length l.words + word_count ls

-- the bytes of some pieces, each with one more
abbrev size : List (List ℕ) → ℕ
size [] = 0
size (p ∷ ps) = (length p + 1) + size ps

onto_size : (x : ℕ) (ps : List (List ℕ)) → 0 < length ps → size (onto_first x ps) ≡ size ps + 1
onto_size x [] some = absurd (omega arith)
onto_size x (p ∷ ps) some = omega arith

onto_some : (x : ℕ) (ps : List (List ℕ)) → 0 < length (onto_first x ps)
onto_some x [] = omega arith
onto_some x (p ∷ ps) = omega arith

split_some : (p : ℕ → Bool) (xs : List ℕ) → 0 < length (slice_split p xs)
split_some p [] = omega arith
split_some p (x ∷ xs) = go (p x)
  where
    go : (b : Bool) → 0 < length (cond b ([] ∷ slice_split p xs) (onto_first x (slice_split p xs)))
    go true = omega arith
    go false = onto_some x (slice_split p xs)

split_size : (p : ℕ → Bool) (xs : List ℕ) → size (slice_split p xs) ≡ length xs + 1
split_size p [] = refl
split_size p (x ∷ xs) = go (p x) (split_size p xs)
  where
    go : (b : Bool) → size (slice_split p xs) ≡ length xs + 1 → size (cond b ([] ∷ slice_split p xs) (onto_first x (slice_split p xs))) ≡ length (x ∷ xs) + 1
    go true h = omega (arith, h)
    go false h = onto_size x (slice_split p xs) (split_some p xs) ∙ omega (arith, h)

few_full : (ps : List (List ℕ)) → 2 * length (filter (λ w. not (is_empty w)) ps) ≤ size ps
few_full [] = omega arith
few_full ([] ∷ ps) = omega (arith, few_full ps)
few_full ((b ∷ p) ∷ ps) = omega (arith, few_full ps)

few_words : (bytes : List ℕ) → 2 * length (words bytes) ≤ length bytes + 1
few_words bytes = omega (arith, few_full (slice_split is_blank bytes), split_size is_blank bytes)

trimmed_short : (bytes : List ℕ) → length (trimmed bytes) ≤ length bytes
trimmed_short [] = omega arith
trimmed_short (b ∷ bs) = go (is_blank b && is_empty (trimmed bs)) (trimmed_short bs)
  where
    go : (t : Bool) → length (trimmed bs) ≤ length bs → length (cond t [] (b ∷ trimmed bs)) ≤ length (b ∷ bs)
    go true h = omega arith
    go false h = omega (arith, h)

comment_short : (p : ℕ → Bool) (bytes : List ℕ) → length (before_first p bytes) ≤ length bytes
comment_short p bytes = omega (arith, length-take (position_or_len p bytes) bytes)

last_short : (bytes : List ℕ) → length (without_last bytes) ≤ length bytes
last_short [] = omega arith
last_short (b ∷ []) = omega arith
last_short (b ∷ c ∷ bs) = omega (arith, last_short (c ∷ bs))

joined_count : (n : ℕ) (ws : List Word) (rest : List Line) → word_count (joined n ws rest) ≡ length ws + word_count rest
joined_count n ws [] = refl
joined_count n ws (next ∷ rest) = omega (arith, length-append ws next.words)

few_from : (n : ℕ) (ls : List (List ℕ)) → 2 * word_count (logical_from n ls) ≤ size ls
few_from n [] = omega arith
few_from n (l ∷ ls) =
    let text : List ℕ = trimmed (without_comment l) in
    let short : length text ≤ length l = omega (arith, trimmed_short (without_comment l), comment_short (λ b. b == 35) l) in
    go (ends_with_backslash text) text short (few_from (n + 1) ls)
  where
    go : (b : Bool) (text : List ℕ) → length text ≤ length l → 2 * word_count (logical_from (n + 1) ls) ≤ size ls
        → 2 * word_count (cond b (joined n (words (without_last text)) (logical_from (n + 1) ls)) (record { number = n; words = words text } ∷ logical_from (n + 1) ls)) ≤ size (l ∷ ls)
    go true text short h = omega (arith, h, short, joined_count n (words (without_last text)) (logical_from (n + 1) ls), few_words (without_last text), last_short text)
    go false text short h = omega (arith, h, short, few_words text)

kept_count : (ls : List Line) → word_count (with_words ls) ≤ word_count ls
kept_count [] = omega arith
kept_count (l ∷ ls) = go (is_empty l.words) (kept_count ls)
  where
    go : (b : Bool) → word_count (with_words ls) ≤ word_count ls → word_count (cond (not b) (l ∷ with_words ls) (with_words ls)) ≤ word_count (l ∷ ls)
    go true h = omega (arith, h)
    go false h = omega (arith, h)

pub few_in_text : (bytes : List ℕ) → 2 * word_count (logical_lines bytes) ≤ length bytes + 1
few_in_text bytes =
    omega (arith, kept_count (logical_from 1 (slice_split (λ b. b == 10) bytes)), few_from 1 (slice_split (λ b. b == 10) bytes), split_size (λ b. b == 10) bytes)

pub word_count-append : (xs ys : List Line) → word_count (xs ++ ys) ≡ word_count xs + word_count ys
word_count-append [] ys = omega arith
word_count-append (x ∷ xs) ys = omega (arith, word_count-append xs ys)
