-- Rows and covers, place by place.
use Rattle.std.proofs.Common.{◌≡◌, refl, ◌∙◌, ap, ℕ, zero, suc, ◌+◌, ◌*◌, ◌<◌, List, [], ◌∷◌, length, map, take, get_or, Bool, true, false, ◌&&◌, ◌||◌, not, cond, arith, add-one}
use Rattle.std.specs.Bool.{beq}
use Rattle.std.specs.List.{list_all, list_any, enumerate_from}
use Rattle.netlist_spec.specs.Netlist.{Cover}
use Rattle.netlist_spec.specs.Lines.{is_empty}
use Rattle.netlist_spec.specs.Covers.{has_bit, row_fits, cover_value}
use Rattle.netlist_spec.specs.Gates.{bit_number}
use Rattle.lowering.specs.Answers.{HasOp}
use mir.Val.{bool_byte}
use Rattle.imp_text.specs.declared.cover.Row.{Row as ReadRow}
use Rattle.blif_read.specs.View.{row_of}

pub both : (a b : Bool) → a ≡ true → b ≡ true → (a && b) ≡ true
both true b h k = k
both false b h k = cc h

split : (a b : Bool) → (a && b) ≡ true → (a ≡ true) × (b ≡ true)
split true b h = (refl, h)
split false b h = cc h

-- a test that passes at each place so far, and at the next
all_more : (p : (ℕ × Bool) → Bool) (k : ℕ) (bits : List Bool) (i j : ℕ) → j ≡ k + i → i < length bits → list_all p (enumerate_from k (take i bits)) ≡ true → p (j, get_or bits i false) ≡ true
    → list_all p (enumerate_from k (take (suc i) bits)) ≡ true
all_more p k [] i j e h a b = absurd (omega arith)
all_more p k (x ∷ xs) zero j e h a b = both (p (k, x)) true (ap (λ (n : ℕ). p (n, x)) (let f : k ≡ j = omega arith in f) ∙ b) refl
all_more p k (x ∷ xs) (suc i) j e h a b =
    let parts = split (p (k, x)) _ a in
    both (p (k, x)) _ parts.0 (all_more p (k + 1) xs i j (omega arith) (omega arith) parts.1 b)

pub all_next : (p : (ℕ × Bool) → Bool) (bits : List Bool) (i : ℕ) → i < length bits → list_all p (enumerate_from 0 (take i bits)) ≡ true → p (i, get_or bits i false) ≡ true → list_all p (enumerate_from 0 (take (i + 1) bits)) ≡ true
all_next p bits i h a b = rw add-one (all_more p 0 bits i i (omega arith) h a b)

fails : (a b : Bool) → b ≡ false → (a && b) ≡ false
fails true b h = h
fails false b h = refl

-- a test that fails at some place
pub all_fails : (p : (ℕ × Bool) → Bool) (k : ℕ) (bits : List Bool) (i j : ℕ) → j ≡ k + i → i < length bits → p (j, get_or bits i false) ≡ false → list_all p (enumerate_from k bits) ≡ false
all_fails p k [] i j e h b = absurd (omega arith)
all_fails p k (x ∷ xs) zero j e h b = ap (λ (t : Bool). t && list_all p (enumerate_from (k + 1) xs)) (ap (λ (n : ℕ). p (n, x)) (let f : k ≡ j = omega arith in f) ∙ b)
all_fails p k (x ∷ xs) (suc i) j e h b = fails (p (k, x)) _ (all_fails p (k + 1) xs i j (omega arith) (omega arith) b)

-- the place of a row that asks for another bit, and the others
pub asks_other : (care value bit : Bool) → true ≡ care → not (beq bit value) ≡ true → (not care || beq bit value) ≡ false
asks_other true value bit e h = at (beq bit value) h
  where
    at : (t : Bool) → not t ≡ true → t ≡ false
    at true h = cc h
    at false h = refl
asks_other false value bit e h = cc e

pub asks_none : (care value bit : Bool) → false ≡ care → (not care || beq bit value) ≡ true
asks_none true value bit e = cc e
asks_none false value bit e = refl

pub asks_same : (care value bit : Bool) → not (beq bit value) ≡ false → (not care || beq bit value) ≡ true
asks_same care value bit h = at care (beq bit value) h
  where
    at : (c t : Bool) → not t ≡ false → (not c || t) ≡ true
    at c false h = cc h
    at true true h = refl
    at false true h = refl

-- The value of a cover by one test whether some row fits.

any_of : (bits : List Bool) (rows : List ReadRow) → list_any (λ row. row_fits row bits) (map row_of rows) ≡ list_any (λ row. row_fits (row_of row) bits) rows
any_of bits [] = refl
any_of bits (row ∷ rows) = ap (λ b. row_fits (row_of row) bits || b) (any_of bits rows)

agrees : (a b : Bool) → beq a b ≡ cond a b (not b)
agrees true true = refl
agrees true false = refl
agrees false true = refl
agrees false false = refl

some_rows : (on fits : Bool) (rows : List ReadRow) (bits : List Bool) → is_empty (map row_of rows) ≡ false → fits ≡ list_any (λ row. row_fits (row_of row) bits) rows → beq fits on ≡ cover_value (record { on = on; rows = map row_of rows }) bits
some_rows on fits rows bits some e = rw (some, any_of bits rows, ← e) (agrees fits on)

not_empty : (rows : List ReadRow) → 0 < length rows → is_empty (map row_of rows) ≡ false
not_empty [] h = absurd (omega arith)
not_empty (row ∷ rows) h = refl

pub by_rows : (on fits : Bool) (rows : List ReadRow) (bits : List Bool) → 0 < length rows → fits ≡ list_any (λ row. row_fits (row_of row) bits) rows → beq fits on ≡ cover_value (record { on = on; rows = map row_of rows }) bits
by_rows on fits rows bits some e = some_rows on fits rows bits (not_empty rows some) e

-- Four bits by the places of two inputs.

first : (p q r s : Bool) → has_bit (bit_number p + 2 * bit_number q + 4 * bit_number r + 8 * bit_number s) 0 ≡ p
first true true true true = refl
first true true true false = refl
first true true false true = refl
first true true false false = refl
first true false true true = refl
first true false true false = refl
first true false false true = refl
first true false false false = refl
first false true true true = refl
first false true true false = refl
first false true false true = refl
first false true false false = refl
first false false true true = refl
first false false true false = refl
first false false false true = refl
first false false false false = refl

second : (p q r s : Bool) → has_bit (bit_number p + 2 * bit_number q + 4 * bit_number r + 8 * bit_number s) 1 ≡ q
second true true true true = refl
second true true true false = refl
second true true false true = refl
second true true false false = refl
second true false true true = refl
second true false true false = refl
second true false false true = refl
second true false false false = refl
second false true true true = refl
second false true true false = refl
second false true false true = refl
second false true false false = refl
second false false true true = refl
second false false true false = refl
second false false false true = refl
second false false false false = refl

third : (p q r s : Bool) → has_bit (bit_number p + 2 * bit_number q + 4 * bit_number r + 8 * bit_number s) 2 ≡ r
third true true true true = refl
third true true true false = refl
third true true false true = refl
third true true false false = refl
third true false true true = refl
third true false true false = refl
third true false false true = refl
third true false false false = refl
third false true true true = refl
third false true true false = refl
third false true false true = refl
third false true false false = refl
third false false true true = refl
third false false true false = refl
third false false false true = refl
third false false false false = refl

fourth : (p q r s : Bool) → has_bit (bit_number p + 2 * bit_number q + 4 * bit_number r + 8 * bit_number s) 3 ≡ s
fourth true true true true = refl
fourth true true true false = refl
fourth true true false true = refl
fourth true true false false = refl
fourth true false true true = refl
fourth true false true false = refl
fourth true false false true = refl
fourth true false false false = refl
fourth false true true true = refl
fourth false true true false = refl
fourth false true false true = refl
fourth false true false false = refl
fourth false false true true = refl
fourth false false true false = refl
fourth false false false true = refl
fourth false false false false = refl

pub op_bits : (p q r s a b : Bool) → has_bit (bit_number p + 2 * bit_number q + 4 * bit_number r + 8 * bit_number s) (2 * bit_number a + bit_number b) ≡ cond a (cond b s r) (cond b q p)
op_bits p q r s true true = fourth p q r s
op_bits p q r s true false = third p q r s
op_bits p q r s false true = second p q r s
op_bits p q r s false false = first p q r s

pub number_is : (n : ℕ) (b : Bool) → n ≡ bool_byte b → n ≡ bit_number b
number_is n true e = e
number_is n false e = e

-- the answers of an op that is made of a cover's answers
pub has_op : (cover : Cover) (p q r s : Bool) (l m n o : ℕ) → l ≡ bool_byte p → m ≡ bool_byte q → n ≡ bool_byte r → o ≡ bool_byte s
    → p ≡ cover_value cover (false ∷ false ∷ []) → q ≡ cover_value cover (false ∷ true ∷ []) → r ≡ cover_value cover (true ∷ false ∷ []) → s ≡ cover_value cover (true ∷ true ∷ [])
    → HasOp cover (l + 2 * m + 4 * n + 8 * o)
has_op cover p q r s l m n o el em en eo ep eq er es =
    let same : l + 2 * m + 4 * n + 8 * o ≡ bit_number p + 2 * bit_number q + 4 * bit_number r + 8 * bit_number s =
    let a = number_is l p el in let b = number_is m q em in let c = number_is n r en in let d = number_is o s eo in cc in
    record { answers = λ a b. ap (λ (t : ℕ). has_bit t (2 * bit_number a + bit_number b)) same ∙ (op_bits p q r s a b ∙ pick a b) }
  where
    pick : (a b : Bool) → cond a (cond b s r) (cond b q p) ≡ cover_value cover (a ∷ b ∷ [])
    pick true true = es
    pick true false = er
    pick false true = eq
    pick false false = ep
