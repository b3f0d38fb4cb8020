-- A text that begins with the lines of a tally begins with those of no other one.
use Rattle.std.proofs.Common.{◌≡◌, refl, sym, ◌∙◌, ap, ℕ, zero, suc, ◌+◌, ◌/◌, ◌%◌, ◌<◌, ◌≤◌, Bool, true, false, cond, List, [], ◌∷◌, ◌++◌, codes, append_assoc, arith}
use Rattle.std.specs.Prelude.{◌==◌, nat_lt, decimal}
use Rattle.std.specs.List.{AllByRecursion}
use Rattle.std.specs.Fmt.{digits, digits_onto, digit_glyph}
use Rattle.std.proofs.lemmas.List.{append_cancel_left}
use Rattle.guard_spec.specs.Tally.{Tally}
use Rattle.program_spec.specs.Printed.{number_line, tally_text}

-- ---- digits

abbrev AreDigits : List ℕ → Type 0
AreDigits ds = AllByRecursion (λ d. 48 ≤ d) ds

glyph : (d : ℕ) → 48 ≤ digit_glyph false d
glyph d = by_test (nat_lt d 10)
  where
    by_test : (b : Bool) → 48 ≤ cond b (48 + d) (87 + d)
    by_test true = omega arith
    by_test false = omega arith

digits_put : (k n : ℕ) (ds : List ℕ) → AreDigits ds → AreDigits (digits_onto k 10 false n ds)
digits_put zero n ds h = h
digits_put (suc k) n ds h = by_test (n / 10 == 0) (digits_put k (n / 10) (digit_glyph false (n % 10) ∷ ds) (glyph (n % 10), h))
  where
    by_test : (b : Bool) → AreDigits (digits_onto k 10 false (n / 10) (digit_glyph false (n % 10) ∷ ds))
        → AreDigits (cond b (digit_glyph false (n % 10) ∷ ds) (digits_onto k 10 false (n / 10) (digit_glyph false (n % 10) ∷ ds)))
    by_test true more = (glyph (n % 10), h)
    by_test false more = more

decimal_digits : (n : ℕ) → AreDigits (decimal n)
unfolding digits
decimal_digits n = digits_put 64 n [] tt

-- ---- lines

-- what stands before the first line feed, and behind it
cut : (x y a b : List ℕ) → AreDigits x → AreDigits y → x ++ 10 ∷ a ≡ y ++ 10 ∷ b → (x ≡ y) × (a ≡ b)
cut [] [] a b h k e = (refl, cc e)
cut [] (d ∷ y) a b h k e =
    let same : 10 ≡ d = cc e in
    let large = k.0 in
    absurd (omega (arith, same, large))
cut (c ∷ x) [] a b h k e =
    let same : c ≡ 10 = cc e in
    let large = h.0 in
    absurd (omega (arith, same, large))
cut (c ∷ x) (d ∷ y) a b h k e =
    let first : c ≡ d = cc e in
    let behind : x ++ 10 ∷ a ≡ y ++ 10 ∷ b = cc e in
    let (same, rest) = cut x y a b h.1 k.1 behind in
    (cc (first, same), rest)

-- a line before others
before : (word : List ℕ) (n : ℕ) (a : List ℕ) → number_line word n ++ a ≡ word ++ 32 ∷ (decimal n ++ 10 ∷ a)
before word n a = simp append_assoc

line_cut : (word : List ℕ) (n k : ℕ) (a b : List ℕ) → number_line word n ++ a ≡ number_line word k ++ b → (number_line word n ≡ number_line word k) × (a ≡ b)
line_cut word n k a b e =
    let spread : word ++ 32 ∷ (decimal n ++ 10 ∷ a) ≡ word ++ 32 ∷ (decimal k ++ 10 ∷ b) = sym (before word n a) ∙ e ∙ before word k b in
    let behind : 32 ∷ (decimal n ++ 10 ∷ a) ≡ 32 ∷ (decimal k ++ 10 ∷ b) = append_cancel_left word (32 ∷ (decimal n ++ 10 ∷ a)) (32 ∷ (decimal k ++ 10 ∷ b)) spread in
    let numbers : decimal n ++ 10 ∷ a ≡ decimal k ++ 10 ∷ b = cc behind in
    let (same, rest) = cut (decimal n) (decimal k) a b (decimal_digits n) (decimal_digits k) numbers in
    (ap (λ (ds : List ℕ). word ++ 32 ∷ (ds ++ 10 ∷ [])) same, rest)

-- the lines of five numbers
abbrev five_lines : (u v w x y : List ℕ) (c d e f g : ℕ) → List ℕ
five_lines u v w x y c d e f g = number_line u c ++ number_line v d ++ number_line w e ++ number_line x f ++ number_line y g

spread : (p q r s t a : List ℕ) → (p ++ q ++ r ++ s ++ t) ++ a ≡ p ++ (q ++ (r ++ (s ++ (t ++ a))))
spread p q r s t a = simp append_assoc

join : (p q r s t a b c d e : List ℕ) → p ≡ a → q ≡ b → r ≡ c → s ≡ d → t ≡ e → p ++ q ++ r ++ s ++ t ≡ a ++ b ++ c ++ d ++ e
join p q r s t a b c d e f g h i j = cc

lines_cut : (u v w x y : List ℕ) (c d e f g h i j k l : ℕ) (a b : List ℕ) → five_lines u v w x y c d e f g ++ a ≡ five_lines u v w x y h i j k l ++ b → five_lines u v w x y c d e f g ≡ five_lines u v w x y h i j k l
lines_cut u v w x y c d e f g h i j k l a b same =
    let all =
    sym (spread (number_line u c) (number_line v d) (number_line w e) (number_line x f) (number_line y g) a) ∙ same
    ∙ spread (number_line u h) (number_line v i) (number_line w j) (number_line x k) (number_line y l) b in
    let (first, behind_first) = line_cut u c h _ _ all in
    let (second, behind_second) = line_cut v d i _ _ behind_first in
    let (third, behind_third) = line_cut w e j _ _ behind_second in
    let (fourth, behind_fourth) = line_cut x f k _ _ behind_third in
    let (fifth, rest) = line_cut y g l a b behind_fourth in
    join _ _ _ _ _ _ _ _ _ _ first second third fourth fifth

pub same_lines : (cells others : ℕ) (s t : Tally) (a b : List ℕ) → tally_text cells s ++ a ≡ tally_text others t ++ b → tally_text cells s ≡ tally_text others t
same_lines cells others s t a b e =
    lines_cut (codes "cells") (codes "right") (codes "alarmed") (codes "decoded") (codes "wrong") cells s.right s.alarmed s.decoded s.wrong others t.right t.alarmed t.decoded t.wrong a b e
