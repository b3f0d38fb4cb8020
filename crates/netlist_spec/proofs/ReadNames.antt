-- The words of a text have word bytes alone.
use Rattle.std.proofs.Common.{◌≡◌, refl, ◌∙◌, ap, ℕ, zero, suc, ◌+◌, ◌<◌, List, [], ◌∷◌, take, filter, Bool, true, false, ◌&&◌, not, cond, ◌==◌, get_or, arith}
use Rattle.std.specs.Prelude.{IsTrue}
use Rattle.std.specs.List.{AllByRecursion, list_all, slice_split, onto_first, position_or_len}
use Rattle.std.proofs.lemmas.Bool.{leb-false, lt-ltb}
use Rattle.std.proofs.lemmas.List.Sums.{fails_before_first}
use Rattle.netlist_spec.specs.Lines.{Word, Line, is_blank, is_empty, words, without_comment, trimmed, without_last, ends_with_backslash, joined, logical_from, logical_lines}
use Rattle.netlist_spec.specs.Netlist.{is_word_byte}
use Rattle.netlist_spec.proofs.OneValue.{All_append}

-- word bytes alone
abbrev pub HasWordBytes : Word → Type 0
HasWordBytes w = IsTrue (list_all is_word_byte w)

abbrev IsNoHash : ℕ → Type 0
IsNoHash b = (b == 35) ≡ false

-- ---- parts of a list

all_taken : (n : ℕ) (bs : List ℕ) → ((k : ℕ) → k < n → IsNoHash (get_or bs k 0)) → AllByRecursion IsNoHash (take n bs)
all_taken zero bs h = tt
all_taken (suc n) [] h = tt
all_taken (suc n) (b ∷ bs) h = (h 0 (omega arith), all_taken n bs (λ k l. h (suc k) (omega arith)))

no_hash : (line : List ℕ) → AllByRecursion IsNoHash (without_comment line)
no_hash line = all_taken (position_or_len (λ b. b == 35) line) line (λ k l. fails_before_first (λ b. b == 35) line k 0 l)

module _ {A : Type 0} (P : A → Type 0) where
  kept_if : (b : Bool) (x : A) (xs : List A) → P x → AllByRecursion P xs → AllByRecursion P (cond b [] (x ∷ xs))
  kept_if true x xs h k = tt
  kept_if false x xs h k = (h, k)

  kept_or : (b : Bool) (x : A) (xs : List A) → P x → AllByRecursion P xs → AllByRecursion P (cond b (x ∷ xs) xs)
  kept_or true x xs h k = (h, k)
  kept_or false x xs h k = k

  pub All_filter : (test : A → Bool) (xs : List A) → AllByRecursion P xs → AllByRecursion P (filter test xs)
  All_filter test [] h = tt
  All_filter test (x ∷ xs) h = kept_or (test x) x (filter test xs) h.0 (All_filter test xs h.1)

All_trimmed : (P : ℕ → Type 0) (bs : List ℕ) → AllByRecursion P bs → AllByRecursion P (trimmed bs)
All_trimmed P [] h = tt
All_trimmed P (b ∷ bs) h = kept_if P (is_blank b && is_empty (trimmed bs)) b (trimmed bs) h.0 (All_trimmed P bs h.1)

All_without_last : (P : ℕ → Type 0) (bs : List ℕ) → AllByRecursion P bs → AllByRecursion P (without_last bs)
All_without_last P [] h = tt
All_without_last P (b ∷ []) h = tt
All_without_last P (b ∷ c ∷ bs) h = (h.0, All_without_last P (c ∷ bs) h.1)

-- ---- words

word_byte : (b : ℕ) → IsNoHash b → is_blank b ≡ false → is_word_byte b ≡ true
word_byte b h e = ap (λ x. x && not (b == 35)) (lt-ltb 32 b (leb-false b 32 e)) ∙ ap (λ x. not x) h

onto_good : (b : ℕ) (parts : List Word) → is_word_byte b ≡ true → AllByRecursion HasWordBytes parts → AllByRecursion HasWordBytes (onto_first b parts)
onto_good b [] e h = (ap (λ x. x && true) e, tt)
onto_good b (p ∷ ps) e h = (ap (λ x. x && list_all is_word_byte p) e ∙ h.0, h.1)

part_good : (b : ℕ) (parts : List Word) (c : Bool) → is_blank b ≡ c → IsNoHash b → AllByRecursion HasWordBytes parts
    → AllByRecursion HasWordBytes (cond c ([] ∷ parts) (onto_first b parts))
part_good b parts true e k h = (refl, h)
part_good b parts false e k h = onto_good b parts (word_byte b k e) h

parts_good : (text : List ℕ) → AllByRecursion IsNoHash text → AllByRecursion HasWordBytes (slice_split is_blank text)
parts_good [] h = (refl, tt)
parts_good (b ∷ bs) h = part_good b (slice_split is_blank bs) (is_blank b) refl h.0 (parts_good bs h.1)

words_good : (text : List ℕ) → AllByRecursion IsNoHash text → AllByRecursion HasWordBytes (words text)
words_good text h = All_filter HasWordBytes (λ w. not (is_empty w)) (slice_split is_blank text) (parts_good text h)

-- ---- lines

abbrev pub HasGoodWords : Line → Type 0
HasGoodWords l = AllByRecursion HasWordBytes l.words

joined_good : (n : ℕ) (ws : List Word) (rest : List Line) → AllByRecursion HasWordBytes ws → AllByRecursion HasGoodWords rest → AllByRecursion HasGoodWords (joined n ws rest)
joined_good n ws [] h k = (h, tt)
joined_good n ws (l ∷ ls) h k = (All_append HasWordBytes ws l.words h k.0, k.1)

line_good : (n : ℕ) (text : List ℕ) (rest : List Line) (b : Bool) → AllByRecursion IsNoHash text → AllByRecursion HasGoodWords rest
    → AllByRecursion HasGoodWords (cond b (joined n (words (without_last text)) rest) (record { number = n; words = words text } ∷ rest))
line_good n text rest true h k = joined_good n _ rest (words_good _ (All_without_last IsNoHash text h)) k
line_good n text rest false h k = (words_good text h, k)

lines_good : (n : ℕ) (ls : List (List ℕ)) → AllByRecursion HasGoodWords (logical_from n ls)
lines_good n [] = tt
lines_good n (l ∷ ls) =
    let text = trimmed (without_comment l) in
    line_good n text (logical_from (n + 1) ls) (ends_with_backslash text) (All_trimmed IsNoHash _ (no_hash l)) (lines_good (n + 1) ls)

pub logical_lines_good : (bytes : List ℕ) → AllByRecursion HasGoodWords (logical_lines bytes)
logical_lines_good bytes =
    All_filter HasGoodWords (λ l. not (is_empty l.words)) (logical_from 1 (slice_split (λ b. b == 10) bytes)) (lines_good 1 (slice_split (λ b. b == 10) bytes))
