-- The words of bytes, from the front.
use Rattle.std.proofs.Common.{◌≡◌, ℕ, ◌<◌, ◌≤◌, ◌+◌, ◌-◌, Bool, true, false, not, cond, List, [], ◌∷◌, length, get_or, take, drop, filter, suc, arith, sym, inl, inr, ap, refl, ◌∙◌, length-drop, length-take}
use Rattle.std.specs.List.{position_or_len, slice_split, slice_range}
use Rattle.std.proofs.lemmas.List.{drop_more, drop_all, take_all, take-take, drop-take, drop-drop}
use Rattle.std.proofs.lemmas.List.Sums.{prefix_len-le-length, passes_at_first}
use Rattle.std.proofs.lemmas.Bool.{cases_lt}
use Rattle.netlist_spec.specs.Lines.{is_blank, is_empty, words}
use Rattle.imp_text.proofs.SplitLemmas.{slice_split-first, slice_split-last}

is_empty-take : (n : ℕ) (bs : List ℕ) → 0 < n → n ≤ length bs → is_empty (take n bs) ≡ false
is_empty-take n [] some within = absurd (omega arith)
is_empty-take n (b ∷ bs) some within = let e : n ≡ suc (n - 1) = omega arith in rw e

skip : (b : ℕ) (bs : List ℕ) → is_blank b ≡ true → words (b ∷ bs) ≡ words bs
skip b bs e = rw e

blank_first : (t : Bool) (n : ℕ) → cond (not t) (1 + n) 0 ≡ 0 → t ≡ true
blank_first true n h = refl
blank_first false n h = absurd (omega arith)

-- a blank in front is no part of a word
pub words-blank : (bs : List ℕ) → 0 < length bs → position_or_len is_blank bs ≡ 0 → words bs ≡ words (drop 1 bs)
words-blank [] some h = absurd (omega arith)
words-blank (b ∷ bs) some h = skip b bs (blank_first (is_blank b) (position_or_len is_blank bs) h)

with_first : (w : List ℕ) (bs : List ℕ) → is_empty w ≡ false → filter (λ v. not (is_empty v)) (w ∷ slice_split is_blank bs) ≡ w ∷ words bs
with_first w bs e = rw e

alone : (w : List ℕ) → is_empty w ≡ false → filter (λ v. not (is_empty v)) (w ∷ []) ≡ w ∷ []
alone w e = rw e

-- what stands before the first blank is a word
pub words-word : (bs : List ℕ) → 0 < position_or_len is_blank bs → words bs ≡ take (position_or_len is_blank bs) bs ∷ words (drop (position_or_len is_blank bs) bs)
words-word bs some =
    let n = position_or_len is_blank bs in
    let within : n ≤ length bs = prefix_len-le-length (λ b. not (is_blank b)) bs in
    let empty : is_empty (take n bs) ≡ false = is_empty-take n bs some within in
    elim (cases_lt n (length bs)) [
      | inl more ↦
          ap (filter (λ w. not (is_empty w))) (slice_split-first is_blank bs more)
          ∙ with_first (take n bs) (drop (n + 1) bs) empty
          ∙ ap (λ ws. take n bs ∷ ws) (sym (ap words (drop_more bs n 0 more) ∙ skip (get_or bs n 0) (drop (n + 1) bs) (passes_at_first is_blank bs 0 more)))
      | inr all ↦
          let whole : take n bs ≡ bs = take_all n bs all in
          ap (filter (λ w. not (is_empty w))) (slice_split-last is_blank bs all)
          ∙ alone bs (ap is_empty (sym whole) ∙ empty)
          ∙ ap (λ w. w ∷ []) (sym whole)
          ∙ ap (λ r. take n bs ∷ words r) (sym (drop_all n bs all))
    ]

slice_range-take : (xs : List ℕ) (a b n : ℕ) → a + n ≤ b → take n (slice_range xs a b) ≡ slice_range xs a (a + n)
slice_range-take xs a b n within =
    take-take n (b - a) (drop a xs) (omega arith) ∙ ap (λ m. take m (drop a xs)) (let e : n ≡ a + n - a = omega arith in e)

slice_range-drop : (xs : List ℕ) (a b n : ℕ) → a + n ≤ b → drop n (slice_range xs a b) ≡ slice_range xs (a + n) b
slice_range-drop xs a b n within =
    let e : b - a ≡ n + (b - (a + n)) = omega arith in
    ap (λ m. drop n (take m (drop a xs))) e ∙ drop-take n (b - (a + n)) (drop a xs) ∙ ap (take (b - (a + n))) (drop-drop n a xs)

pub length-slice_range : (xs : List ℕ) (a b : ℕ) → a ≤ b → b ≤ length xs → length (slice_range xs a b) ≡ b - a
length-slice_range xs a b order within = omega (arith, length-take (b - a) (drop a xs), length-drop a xs)

pub words-slice_blank : (source : List ℕ) (at end : ℕ) → at < end → end ≤ length source → position_or_len is_blank (slice_range source at end) ≡ 0 → words (slice_range source at end) ≡ words (slice_range source (at + 1) end)
words-slice_blank source at end more within blank =
    words-blank (slice_range source at end) (omega (arith, length-slice_range source at end (omega arith) within)) blank
    ∙ ap words (slice_range-drop source at end 1 (omega arith))

pub words-slice_word : (source : List ℕ) (at end n : ℕ) → at + n ≤ end → 0 < n → n ≡ position_or_len is_blank (slice_range source at end) → words (slice_range source at end) ≡ slice_range source at (at + n) ∷ words (slice_range source (at + n) end)
words-slice_word source at end n within some e =
    words-word (slice_range source at end) (omega arith)
    ∙ ap (λ m. take m (slice_range source at end) ∷ words (drop m (slice_range source at end))) (sym e)
    ∙ ap (λ w. w ∷ words (drop n (slice_range source at end))) (slice_range-take source at end n within)
    ∙ ap (λ r. slice_range source at (at + n) ∷ words r) (slice_range-drop source at end n within)
