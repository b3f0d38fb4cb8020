-- Numbers that are written without leading zeros.
use Rattle.std.proofs.Common.{◌≡◌, refl, sym, ◌∙◌, ap, ap₂, ℕ, zero, suc, ◌+◌, ◌*◌, ◌-◌, ◌^◌, ◌<◌, ◌≤◌, List, [], ◌∷◌, length, Bool, true, false, ◌&&◌, cond, get_or, Option, Some, None, nat_le, arith, rules, decimal, fold}
use Rattle.std.specs.List.{list_all}
use Rattle.std.specs.Int.{IsInRange}
use Rattle.std.proofs.lemmas.Grind.{common_steps}
use Rattle.std.proofs.lemmas.Bool.Decides.{nat_tests}
use Rattle.std.proofs.lemmas.Str.Parse.{IsNumeralModel, IsDigitsTest, FoldsDigits, numerals_by_fold}
use Rattle.std.proofs.lemmas.Fmt.{digits_decimal, digits_value-decimal, decimal-digits_value, decimal_nonempty, length-decimal-le, first_decimal, decimal_digit}
use Rattle.netlist_spec.specs.Digits.{is_digit, digits_value, decimal_of}
use Rattle.netlist_spec.proofs.OneValue.{passes_both}

abbrev read_on : ℕ → List ℕ → ℕ
read_on n w = fold (λ (n c : ℕ). 10 * n + (c - 48)) n w

in_range : (c : ℕ) → is_digit c ≡ true → IsInRange 48 57 c
in_range c h = let p = passes_both (nat_le 48 c) (nat_le c 57) h in grind (arith, nat_tests)

is_in : (c : ℕ) → IsInRange 48 57 c → is_digit c ≡ true
is_in c h = grind (arith, nat_tests)

tests : IsDigitsTest (λ ds. list_all is_digit ds ≡ true)
tests =
    record {
      empty = refl;
      parts = λ c cs h. let p = passes_both (is_digit c) (list_all is_digit cs) h in (in_range c p.0, p.1);
      more = λ c cs r h. ap₂ (λ (a b : Bool). a && b) (is_in c r) h;
    }

folds : FoldsDigits read_on
folds = record { empty = λ n. refl; more = λ n c cs r. let e : 10 * n + (c - 48) ≡ n * 10 + (c - 48) = omega arith in ap (λ m. read_on m cs) e }

own : IsNumeralModel (λ ds. list_all is_digit ds ≡ true) (read_on 0)
own = numerals_by_fold (λ ds. list_all is_digit ds ≡ true) tests read_on folds

chosen : {X : Type 0} (b : Bool) (x y : X) → cond b (Some x) None ≡ Some y → (b ≡ true) × (x ≡ y)
chosen true x y h = (refl, cc h)
chosen false x y h = cc h

-- what a word that spells a number is
pub record Spells (w : List ℕ) (n : ℕ) : Type 0 where
  pub some : 1 ≤ length w
  pub digits : list_all is_digit w ≡ true
  pub value : digits_value w ≡ n
  pub small : digits_value w ≤ 127

le_from : (a b : ℕ) → nat_le a b ≡ true → a ≤ b
le_from a b h = grind (arith, nat_tests)

to_le : (a b : ℕ) → a ≤ b → nat_le a b ≡ true
to_le a b h = grind (arith, nat_tests)

pub spells : (w : List ℕ) (n : ℕ) → decimal_of 127 w ≡ Some n → Spells w n
spells w n h =
    let a = chosen (nat_le 1 (length w) && nat_le (length w) 6 && list_all is_digit w && nat_le (digits_value w) 127) (digits_value w) n h in
    let b = passes_both (nat_le 1 (length w) && nat_le (length w) 6 && list_all is_digit w) (nat_le (digits_value w) 127) a.0 in
    let d = passes_both (nat_le 1 (length w) && nat_le (length w) 6) (list_all is_digit w) b.0 in
    let e = passes_both (nat_le 1 (length w)) (nat_le (length w) 6) d.0 in
    record { some = le_from 1 (length w) e.0; digits = d.1; value = a.1; small = le_from (digits_value w) 127 b.1 }

-- it is written so where it has no leading zero
pub written : (w : List ℕ) (n : ℕ) → decimal_of 127 w ≡ Some n → (get_or w 0 0 ≡ 48 → length w ≡ 1) → decimal n ≡ w
written w n h no_zero =
    let s = spells w n h in
    let some : 0 < length w = let a = s.some in omega arith in
    let small : read_on 0 w < 2 ^ 64 = let a : read_on 0 w ≤ 127 = s.small in omega arith in
    ap decimal (sym s.value) ∙ decimal-digits_value own w s.digits some no_zero small

pub spelled : (n : ℕ) → n < 128 → decimal_of 127 (decimal n) ≡ Some n
spelled n h =
    let far : n < 2 ^ 64 = omega arith in
    let w = decimal n in
    let some : nat_le 1 (length w) ≡ true = to_le 1 (length w) (let a = decimal_nonempty n far in omega arith) in
    let short : nat_le (length w) 6 ≡ true = to_le (length w) 6 (let a = length-decimal-le 3 n (omega arith) (omega arith) far in omega arith) in
    let digits : list_all is_digit w ≡ true = digits_decimal own n far in
    let value : digits_value w ≡ n = digits_value-decimal own n far in
    let small : nat_le (digits_value w) 127 ≡ true = to_le (digits_value w) 127 (let v = value in omega arith) in
    ap (λ (b : Bool). cond b (Some (digits_value w)) None) (ap₂ (λ (a b : Bool). a && b) (ap₂ (λ (a b : Bool). a && b) (ap₂ (λ (a b : Bool). a && b) some short) digits) small)
    ∙ ap (λ m. Some m) value

-- a number has a leading zero only where it is zero
pub no_leading_zero : (n : ℕ) → n < 128 → get_or (decimal n) 0 0 ≡ 48 → length (decimal n) ≡ 1
no_leading_zero zero h e = ap length (decimal_digit 0 (omega arith))
no_leading_zero (suc n) h e = let a = first_decimal (suc n) (omega arith) (omega arith) in absurd (omega arith)
