-- Rows and covers, place by place, and the tables of narrow covers.
use Rattle.std.proofs.Common.{◌≡◌, refl, ◌∙◌, ap, ap₂, ℕ, zero, suc, ◌+◌, ◌*◌, ◌<◌, ◌≤◌, List, [], ◌∷◌, length, map, take, get_or, Bool, true, false, ◌&&◌, ◌||◌, not, cond, arith, add-one}
use Rattle.std.specs.Bool.{beq}
use Rattle.std.specs.List.{list_all, list_any, enumerate_from}
use Rattle.netlist_spec.specs.Netlist.{Cover}
use Rattle.netlist_spec.specs.Lines.{is_empty}
use Rattle.netlist_spec.specs.Covers.{row_fits, cover_value}
use Rattle.imp_text.specs.declared.cover.Row.{Row as ReadRow}
use Rattle.blif_read.specs.View.{row_of}
use Rattle.imp_text.specs.declared.names.NameId.{NameId}
use Rattle.fault_sim.specs.Gates.{HasTable, bit_in, place_of}
use mir.Val.{bool_byte}

pub both : (a b : Bool) → a ≡ true → b ≡ true → (a && b) ≡ true
both true b h k = k
both false b h k = cc h

split : (a b : Bool) → (a && b) ≡ true → (a ≡ true) × (b ≡ true)
split true b h = (refl, h)
split false b h = cc h

-- a test that passes at each place so far, and at the next
all_more : (p : (ℕ × Bool) → Bool) (k : ℕ) (bits : List Bool) (i j : ℕ) → j ≡ k + i → i < length bits → list_all p (enumerate_from k (take i bits)) ≡ true → p (j, get_or bits i false) ≡ true
    → list_all p (enumerate_from k (take (suc i) bits)) ≡ true
all_more p k [] i j e h a b = absurd (omega arith)
all_more p k (x ∷ xs) zero j e h a b = both (p (k, x)) true (ap (λ (n : ℕ). p (n, x)) (let f : k ≡ j = omega arith in f) ∙ b) refl
all_more p k (x ∷ xs) (suc i) j e h a b =
    let parts = split (p (k, x)) _ a in
    both (p (k, x)) _ parts.0 (all_more p (k + 1) xs i j (omega arith) (omega arith) parts.1 b)

pub all_next : (p : (ℕ × Bool) → Bool) (bits : List Bool) (i : ℕ) → i < length bits → list_all p (enumerate_from 0 (take i bits)) ≡ true → p (i, get_or bits i false) ≡ true → list_all p (enumerate_from 0 (take (i + 1) bits)) ≡ true
all_next p bits i h a b = rw add-one (all_more p 0 bits i i (omega arith) h a b)

fails : (a b : Bool) → b ≡ false → (a && b) ≡ false
fails true b h = h
fails false b h = refl

-- a test that fails at some place
pub all_fails : (p : (ℕ × Bool) → Bool) (k : ℕ) (bits : List Bool) (i j : ℕ) → j ≡ k + i → i < length bits → p (j, get_or bits i false) ≡ false → list_all p (enumerate_from k bits) ≡ false
all_fails p k [] i j e h b = absurd (omega arith)
all_fails p k (x ∷ xs) zero j e h b = ap (λ (t : Bool). t && list_all p (enumerate_from (k + 1) xs)) (ap (λ (n : ℕ). p (n, x)) (let f : k ≡ j = omega arith in f) ∙ b)
all_fails p k (x ∷ xs) (suc i) j e h b = fails (p (k, x)) _ (all_fails p (k + 1) xs i j (omega arith) (omega arith) b)

-- the place of a row that asks for another bit, and the others
pub asks_other : (care value bit : Bool) → true ≡ care → not (beq bit value) ≡ true → (not care || beq bit value) ≡ false
asks_other true value bit e h = at (beq bit value) h
  where
    at : (t : Bool) → not t ≡ true → t ≡ false
    at true h = cc h
    at false h = refl
asks_other false value bit e h = cc e

pub asks_none : (care value bit : Bool) → false ≡ care → (not care || beq bit value) ≡ true
asks_none true value bit e = cc e
asks_none false value bit e = refl

pub asks_same : (care value bit : Bool) → not (beq bit value) ≡ false → (not care || beq bit value) ≡ true
asks_same care value bit h = at care (beq bit value) h
  where
    at : (c t : Bool) → not t ≡ false → (not c || t) ≡ true
    at c false h = cc h
    at true true h = refl
    at false true h = refl

-- The value of a cover by one test whether some row fits.

any_of : (bits : List Bool) (rows : List ReadRow) → list_any (λ row. row_fits row bits) (map row_of rows) ≡ list_any (λ row. row_fits (row_of row) bits) rows
any_of bits [] = refl
any_of bits (row ∷ rows) = ap (λ b. row_fits (row_of row) bits || b) (any_of bits rows)

agrees : (a b : Bool) → beq a b ≡ cond a b (not b)
agrees true true = refl
agrees true false = refl
agrees false true = refl
agrees false false = refl

some_rows : (on fits : Bool) (rows : List ReadRow) (bits : List Bool) → is_empty (map row_of rows) ≡ false → fits ≡ list_any (λ row. row_fits (row_of row) bits) rows → beq fits on ≡ cover_value (record { on = on; rows = map row_of rows }) bits
some_rows on fits rows bits some e = rw (some, any_of bits rows, ← e) (agrees fits on)

not_empty : (rows : List ReadRow) → 0 < length rows → is_empty (map row_of rows) ≡ false
not_empty [] h = absurd (omega arith)
not_empty (row ∷ rows) h = refl

pub by_rows : (on fits : Bool) (rows : List ReadRow) (bits : List Bool) → 0 < length rows → fits ≡ list_any (λ row. row_fits (row_of row) bits) rows → beq fits on ≡ cover_value (record { on = on; rows = map row_of rows }) bits
by_rows on fits rows bits some e = some_rows on fits rows bits (not_empty rows some) e

-- Tables of covers of no input, of one and of two.

pub table_of_none : (cover : Cover) (p : Bool) → p ≡ cover_value cover [] → HasTable (p ∷ false ∷ false ∷ false ∷ []) 0 cover
table_of_none cover p hp [] e h = hp
table_of_none cover p hp (b ∷ bits) e h = absurd (omega arith)

pub table_of_one : (cover : Cover) (p q : Bool) → p ≡ cover_value cover (false ∷ []) → q ≡ cover_value cover (true ∷ []) → HasTable (p ∷ q ∷ false ∷ false ∷ []) 1 cover
table_of_one cover p q hp hq [] e h = absurd (omega arith)
table_of_one cover p q hp hq (false ∷ []) e h = hp
table_of_one cover p q hp hq (true ∷ []) e h = hq
table_of_one cover p q hp hq (a ∷ b ∷ bits) e h = absurd (omega arith)

pub table_of_two : (cover : Cover) (p q r s : Bool) → p ≡ cover_value cover (false ∷ false ∷ []) → q ≡ cover_value cover (false ∷ true ∷ []) → r ≡ cover_value cover (true ∷ false ∷ []) → s ≡ cover_value cover (true ∷ true ∷ [])
    → HasTable (p ∷ q ∷ r ∷ s ∷ []) 2 cover
table_of_two cover p q r s hp hq hr hs [] e h = absurd (omega arith)
table_of_two cover p q r s hp hq hr hs (a ∷ []) e h = absurd (omega arith)
table_of_two cover p q r s hp hq hr hs (false ∷ false ∷ []) e h = hp
table_of_two cover p q r s hp hq hr hs (false ∷ true ∷ []) e h = hq
table_of_two cover p q r s hp hq hr hs (true ∷ false ∷ []) e h = hr
table_of_two cover p q r s hp hq hr hs (true ∷ true ∷ []) e h = hs
table_of_two cover p q r s hp hq hr hs (a ∷ b ∷ c ∷ bits) e h = absurd (omega arith)

pub table_of_wide : (table : List Bool) (inputs : ℕ) (cover : Cover) → 2 < inputs → HasTable table inputs cover
table_of_wide table inputs cover wide bits e h = absurd (omega arith)

-- The answer by a table at the bits of one net, and of two.

pub value_of_one : (table : List Bool) (cover : Cover) (row : List Bool) (ins : List NameId) (n : ℕ) (d : NameId) → 1 ≤ length ins → length ins < 2 → HasTable table (length ins) cover → n ≡ bool_byte (bit_in row (get_or ins 0 d))
    → get_or table n false ≡ cover_value cover (map (bit_in row) ins)
value_of_one table cover row [] n d l h t e = absurd (omega arith)
value_of_one table cover row (a ∷ []) n d l h t e = ap (λ (k : ℕ). get_or table k false) (e ∙ at (bit_in row a)) ∙ t (bit_in row a ∷ []) refl (omega arith)
  where
    at : (b : Bool) → bool_byte b ≡ place_of (b ∷ [])
    at true = refl
    at false = refl
value_of_one table cover row (a ∷ b ∷ ins) n d l h t e = absurd (omega arith)

pub value_of_two : (table : List Bool) (cover : Cover) (row : List Bool) (ins : List NameId) (m n : ℕ) (d : NameId) → 2 ≤ length ins → length ins < 3 → HasTable table (length ins) cover
    → m ≡ bool_byte (bit_in row (get_or ins 0 d)) → n ≡ bool_byte (bit_in row (get_or ins 1 d))
    → get_or table (2 * m + n) false ≡ cover_value cover (map (bit_in row) ins)
value_of_two table cover row [] m n d l h t e f = absurd (omega arith)
value_of_two table cover row (a ∷ []) m n d l h t e f = absurd (omega arith)
value_of_two table cover row (a ∷ b ∷ []) m n d l h t e f =
    ap₂ (λ (j k : ℕ). get_or table (2 * j + k) false) e f ∙ (ap (λ (k : ℕ). get_or table k false) (at (bit_in row a) (bit_in row b)) ∙ t (bit_in row a ∷ bit_in row b ∷ []) refl (omega arith))
  where
    at : (x y : Bool) → 2 * bool_byte x + bool_byte y ≡ place_of (x ∷ y ∷ [])
    at true true = refl
    at true false = refl
    at false true = refl
    at false false = refl
value_of_two table cover row (a ∷ b ∷ c ∷ ins) m n d l h t e f = absurd (omega arith)
