-- The lines of bytes, from the front: one physical line after the other.
use Rattle.std.proofs.Common.{◌≡◌, ℕ, ◌+◌, ◌-◌, min, Bool, true, false, eqb, List, [], ◌∷◌, ◌++◌, length, take, drop, arith, sym, ap, refl, inl, inr, ◌∙◌, append_assoc}
use Rattle.std.specs.Prelude.{if◌then◌else◌}
use Rattle.std.specs.List.{position_or_len, slice_range, slice_split}
use Rattle.std.proofs.lemmas.Bool.{cases_lt}
use Rattle.std.proofs.lemmas.List.{append-nil, drop_all, drop-drop, drop_min, take_all}
use Rattle.netlist_spec.specs.Lines.{Line, Word, words, without_comment, trimmed, ends_with_backslash, without_last, joined, with_words}
use Rattle.imp_text.specs.LineText.{goes_on, text_of_line}
use Rattle.imp_text.specs.Reading.{numbered, lines_from}
use Rattle.imp_text.proofs.SplitLemmas.{slice_split-first, slice_split-last}

abbrev line_words : Bool → List ℕ → List Word
line_words joins l = words (text_of_line joins l)

abbrev pub one_line : ℕ → List Word → Line
one_line n ws = record { number = n; words = ws }

abbrev line_feed : ℕ → Bool
line_feed b = eqb b 10

-- A joined line whose next one is joined to further ones.
pub joined-joined : (n m : ℕ) (ws vs : List Word) (rest : List Line) → joined n ws (joined m vs rest) ≡ joined n (ws ++ vs) rest
joined-joined n m ws vs [] = refl
joined-joined n m ws vs (next ∷ rest) = ap (λ w. one_line n w ∷ rest) (sym (append_assoc ws vs next.words))

choose : (b : Bool) (n : ℕ) (text : List ℕ) (rest : List Line) → (if b then joined n (words (without_last text)) rest else one_line n (words text) ∷ rest) ≡ (if b then joined n (words (if b then without_last text else text)) rest else one_line n (words (if b then without_last text else text)) ∷ rest)
choose true n text rest = refl
choose false n text rest = refl

numbered-cons : (joins : Bool) (n : ℕ) (l : List ℕ) (ls : List (List ℕ)) → numbered joins n (l ∷ ls) ≡ (if goes_on joins l then joined n (line_words joins l) (numbered joins (n + 1) ls) else one_line n (line_words joins l) ∷ numbered joins (n + 1) ls)
numbered-cons true n l ls =
    choose (ends_with_backslash (trimmed (without_comment l))) n (trimmed (without_comment l)) (numbered true (n + 1) ls)
numbered-cons false n l ls = refl

numbered-goes_on : (joins : Bool) (n : ℕ) (l : List ℕ) (ls : List (List ℕ)) → goes_on joins l ≡ true → numbered joins n (l ∷ ls) ≡ joined n (line_words joins l) (numbered joins (n + 1) ls)
numbered-goes_on joins n l ls e =
    numbered-cons joins n l ls
    ∙ ap (λ b. if b then joined n (line_words joins l) (numbered joins (n + 1) ls) else one_line n (line_words joins l) ∷ numbered joins (n + 1) ls) e

numbered-ends : (joins : Bool) (n : ℕ) (l : List ℕ) (ls : List (List ℕ)) → goes_on joins l ≡ false → numbered joins n (l ∷ ls) ≡ one_line n (line_words joins l) ∷ numbered joins (n + 1) ls
numbered-ends joins n l ls e =
    numbered-cons joins n l ls
    ∙ ap (λ b. if b then joined n (line_words joins l) (numbered joins (n + 1) ls) else one_line n (line_words joins l) ∷ numbered joins (n + 1) ls) e

-- At the end of the text an empty line more makes no difference.
joined-end : (joins : Bool) (n m : ℕ) (ws : List Word) → joined n ws (numbered joins m []) ≡ joined n ws (numbered joins m ([] ∷ []))
joined-end true n m ws = ap (λ w. one_line n w ∷ []) (sym (append-nil ws))
joined-end false n m ws = ap (λ w. one_line n w ∷ []) (sym (append-nil ws))

with_words-end : (joins : Bool) (line : Line) (m : ℕ) → with_words (line ∷ numbered joins m []) ≡ with_words (line ∷ numbered joins m ([] ∷ []))
with_words-end true line m = refl
with_words-end false line m = refl

-- the first physical line of some bytes, and the bytes behind it
abbrev first_line : List ℕ → List ℕ
first_line bs = take (position_or_len line_feed bs) bs

abbrev behind_line : List ℕ → List ℕ
behind_line bs = drop (position_or_len line_feed bs + 1) bs

module _ (joins : Bool) (before : ℕ) (bs : List ℕ) where
  lines_from-goes_on : goes_on joins (first_line bs) ≡ true → lines_from joins before bs ≡ joined (before + 1) (line_words joins (first_line bs)) (lines_from joins (before + 1) (behind_line bs))
  lines_from-goes_on e =
      let n = position_or_len line_feed bs in
      elim (cases_lt n (length bs)) [
        | inl more ↦
            ap (numbered joins (before + 1)) (slice_split-first line_feed bs more)
            ∙ numbered-goes_on joins (before + 1) (take n bs) (slice_split line_feed (drop (n + 1) bs)) e
        | inr all ↦
            ap (numbered joins (before + 1)) (slice_split-last line_feed bs all ∙ ap (λ l. l ∷ []) (sym (take_all n bs all)))
            ∙ numbered-goes_on joins (before + 1) (take n bs) [] e
            ∙ joined-end joins (before + 1) (before + 1 + 1) (line_words joins (take n bs))
            ∙ ap (λ r. joined (before + 1) (line_words joins (take n bs)) (lines_from joins (before + 1) r)) (sym (drop_all (n + 1) bs (omega arith)))
      ]

  lines_from-ends : (n : ℕ) (ws : List Word) → goes_on joins (first_line bs) ≡ false → with_words (joined n ws (lines_from joins before bs)) ≡ with_words (one_line n (ws ++ line_words joins (first_line bs)) ∷ lines_from joins (before + 1) (behind_line bs))
  lines_from-ends n ws e =
      let k = position_or_len line_feed bs in
      let line = one_line n (ws ++ line_words joins (take k bs)) in
      elim (cases_lt k (length bs)) [
        | inl more ↦
            ap (λ ls. with_words (joined n ws ls)) (ap (numbered joins (before + 1)) (slice_split-first line_feed bs more)
            ∙ numbered-ends joins (before + 1) (take k bs) (slice_split line_feed (drop (k + 1) bs)) e)
        | inr all ↦
            ap (λ ls. with_words (joined n ws ls)) (ap (numbered joins (before + 1)) (slice_split-last line_feed bs all ∙ ap (λ l. l ∷ []) (sym (take_all k bs all)))
            ∙ numbered-ends joins (before + 1) (take k bs) [] e)
            ∙ with_words-end joins line (before + 1 + 1)
            ∙ ap (λ r. with_words (line ∷ lines_from joins (before + 1) r)) (sym (drop_all (k + 1) bs (omega arith)))
      ]

module _ (source : List ℕ) (start end : ℕ) (e : end ≡ start + position_or_len line_feed (drop start source)) where
  line_at : first_line (drop start source) ≡ slice_range source start end
  line_at =
      let k : position_or_len line_feed (drop start source) ≡ end - start = omega arith in
      ap (λ n. take n (drop start source)) k

  behind_at : behind_line (drop start source) ≡ drop (min (end + 1) (length source)) source
  behind_at =
      let k = position_or_len line_feed (drop start source) in
      let on : start + (k + 1) ≡ end + 1 = omega arith in
      drop-drop (k + 1) start source ∙ ap (λ n. drop n source) on ∙ sym (drop_min (end + 1) source)

  -- A line that goes on is joined to those behind it.
  pub line_joined : (joins : Bool) (before n : ℕ) (ws : List Word) → true ≡ goes_on joins (slice_range source start end) → joined n ws (lines_from joins before (drop start source)) ≡ joined n (ws ++ words (text_of_line joins (slice_range source start end))) (lines_from joins (before + 1) (drop (min (end + 1) (length source)) source))
  line_joined joins before n ws on =
      ap (joined n ws) (lines_from-goes_on joins before (drop start source) (ap (goes_on joins) line_at ∙ sym on)
      ∙ ap (λ l. joined (before + 1) (line_words joins l) (lines_from joins (before + 1) (behind_line (drop start source)))) line_at
      ∙ ap (λ r. joined (before + 1) (line_words joins (slice_range source start end)) (lines_from joins (before + 1) r)) behind_at)
      ∙ joined-joined n (before + 1) ws (line_words joins (slice_range source start end)) (lines_from joins (before + 1) (drop (min (end + 1) (length source)) source))

  -- A line that does not go on is the last of those that are joined.
  pub line_ended : (joins : Bool) (before n : ℕ) (ws : List Word) → false ≡ goes_on joins (slice_range source start end) → with_words (joined n ws (lines_from joins before (drop start source))) ≡ with_words (one_line n (ws ++ words (text_of_line joins (slice_range source start end))) ∷ lines_from joins (before + 1) (drop (min (end + 1) (length source)) source))
  line_ended joins before n ws off =
      lines_from-ends joins before (drop start source) n ws (ap (goes_on joins) line_at ∙ sym off)
      ∙ ap (λ l. with_words (one_line n (ws ++ line_words joins l) ∷ lines_from joins (before + 1) (behind_line (drop start source)))) line_at
      ∙ ap (λ r. with_words (one_line n (ws ++ line_words joins (slice_range source start end)) ∷ lines_from joins (before + 1) r)) behind_at

some_line : (bs : List ℕ) → (l : List ℕ) × (ls : List (List ℕ)) × (slice_split line_feed bs ≡ l ∷ ls)
some_line bs =
    elim (cases_lt (position_or_len line_feed bs) (length bs)) [
      | inl more ↦ (first_line bs, slice_split line_feed (behind_line bs), slice_split-first line_feed bs more)
      | inr all ↦ (bs, [], slice_split-last line_feed bs all)
    ]

joined-start : (joins : Bool) (n : ℕ) (l : List ℕ) (ls : List (List ℕ)) (b : Bool) → goes_on joins l ≡ b → numbered joins n (l ∷ ls) ≡ joined n [] (numbered joins n (l ∷ ls))
joined-start joins n l ls true e =
    let whole = numbered-goes_on joins n l ls e in
    whole
    ∙ sym (joined-joined n n [] (line_words joins l) (numbered joins (n + 1) ls))
    ∙ ap (joined n []) (sym whole)
joined-start joins n l ls false e =
    let whole = numbered-ends joins n l ls e in
    whole ∙ ap (joined n []) (sym whole)

-- Before the first line there is nothing to join to it.
pub nothing_joined : (joins : Bool) (before : ℕ) (bs : List ℕ) → lines_from joins before bs ≡ joined (before + 1) [] (lines_from joins before bs)
nothing_joined joins before bs =
    let (l, ls, e) = some_line bs in
    ap (numbered joins (before + 1)) e
    ∙ joined-start joins (before + 1) l ls (goes_on joins l) refl
    ∙ ap (λ parts. joined (before + 1) [] (numbered joins (before + 1) parts)) (sym e)
