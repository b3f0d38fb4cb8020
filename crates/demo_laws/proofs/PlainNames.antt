-- A letter and a number below 256 are a plain word, a name, and not reserved.
use Rattle.std.proofs.Common.{◌≡◌, refl, ◌∙◌, ap, ap₂, ℕ, ◌+◌, ◌%◌, ◌<◌, List, [], ◌∷◌, ◌++◌, true, false, ◌&&◌, not, arith, lit<}
use Rattle.std.specs.Prelude.{◌==◌, decimal}
use Rattle.std.specs.List.{list_all}
use Rattle.std.proofs.lemmas.Grind.{common_steps}
use Rattle.std.proofs.lemmas.Fmt.{decimal_by_steps, length-decimal-le}
use Rattle.std.proofs.lemmas.List.Folds.{list_all-append}
use Rattle.netlist_spec.specs.Lines.{is_empty, ends_with_backslash}
use Rattle.netlist_spec.specs.Netlist.{IsName, is_reserved, is_word_byte}
use Rattle.netlist_spec.specs.WrittenLines.{IsPlainWord}
use Rattle.program_spec.specs.Demo.{numbered}

-- no digit is a blank, `#`, `=` or a backslash
digit_word : (d : ℕ) → d < 10 → is_word_byte (48 + d) ≡ true
digit_word d h = grind (arith, common_steps, h)

digit_closed : (d : ℕ) → d < 10 → ((48 + d) == 92) ≡ false
digit_closed d h = grind (arith, common_steps, h)

abbrev AreDigits : List ℕ → Type 0
AreDigits ds = (list_all is_word_byte ds ≡ true) × (ends_with_backslash ds ≡ false) × (is_empty ds ≡ false)

one_digit : (n : ℕ) → n < 10 → AreDigits ((48 + n) ∷ [])
one_digit n h = (ap (λ b. b && true) (digit_word n h), digit_closed n h, refl)

one_more : (ds : List ℕ) (d : ℕ) → d < 10 → AreDigits ds → AreDigits (ds ++ (48 + d) ∷ [])
one_more ds d h a = (list_all-append is_word_byte ds ((48 + d) ∷ []) ∙ ap₂ (λ x y. x && y) a.0 (ap (λ b. b && true) (digit_word d h)), closed ds, some ds)
  where
    closed : (ds : List ℕ) → ends_with_backslash (ds ++ (48 + d) ∷ []) ≡ false
    closed [] = digit_closed d h
    closed (x ∷ []) = digit_closed d h
    closed (x ∷ y ∷ ds) = closed (y ∷ ds)

    some : (ds : List ℕ) → is_empty (ds ++ (48 + d) ∷ []) ≡ false
    some [] = refl
    some (x ∷ ds) = refl

decimal_digits : (i : ℕ) → i < 256 → AreDigits (decimal i)
decimal_digits i h = decimal_by_steps (λ n ds. AreDigits ds) one_digit (λ n ds far a. one_more ds (n % 10) (omega arith) a) i (omega arith)

closed_behind : (letter : ℕ) (ds : List ℕ) → AreDigits ds → ends_with_backslash (letter ∷ ds) ≡ false
closed_behind letter [] a = cc (a.2)
closed_behind letter (d ∷ ds) a = a.1

pub numbered_plain : (letter i : ℕ) → is_word_byte letter ≡ true → i < 256 → IsPlainWord (numbered letter i)
numbered_plain letter i l h =
    let a = decimal_digits i h in
    record { is_word = refl; is_plain = ap₂ (λ x y. x && y) l a.0; is_closed = ap not (closed_behind letter (decimal i) a) }

pub numbered_closed : (letter i : ℕ) → i < 256 → ends_with_backslash (numbered letter i) ≡ false
numbered_closed letter i h = closed_behind letter (decimal i) (decimal_digits i h)

pub numbered_name : (letter i : ℕ) → i < 256 → IsName (numbered letter i)
numbered_name letter i h = let short = length-decimal-le 3 i (lit< tt) (omega arith) (omega arith) in (omega arith, omega arith)

-- what is not reserved, by the first letter
pub loaded_free : (i : ℕ) → i < 256 → is_reserved (numbered 112 i) ≡ false
loaded_free i h = numbered_closed 112 i h

pub shown_free : (i : ℕ) → i < 256 → is_reserved (numbered 99 i) ≡ false
shown_free i h = numbered_closed 99 i h

pub stored_free : (i : ℕ) → i < 256 → is_reserved (numbered 115 i) ≡ false
stored_free i h = numbered_closed 115 i h
