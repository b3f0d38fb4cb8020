-- Bits that are cut into rows.
use Rattle.std.proofs.Common.{◌≡◌, ℕ, zero, suc, ◌+◌, ◌*◌, ◌^◌, ◌<◌, ◌≤◌, List, [], ◌∷◌, ◌++◌, Bool, true, false, cond, Option, None, Some, length, get_or, take, drop, refl, ◌∙◌, ap, ap₂, arith, length-append, length-drop, append_assoc}
use Rattle.std.specs.Prelude.{IsSomeAnd, slice_get, slice_range, codes, ◌==◌}
use Rattle.std.proofs.lemmas.Bool.{eqb-true}
use Rattle.std.proofs.lemmas.List.{take-append-le, drop-append-le, take_all, length-take-le}
use Rattle.std.proofs.lemmas.Grind.{common_steps}
use Rattle.std.specs.Bool.{then_some}
use Rattle.netlist_spec.specs.Lines.{Word}
use Rattle.netlist_spec.specs.Netlist.{same_name}
use Rattle.netlist_spec.specs.Digits.{bit_of_char, bits_of_text}
use Rattle.netlist_spec.specs.SourceRun.{Bits}
use Rattle.stimulus_spec.specs.Stimulus.{stimulus_row}
use Rattle.sim_text.specs.Rows.{rows}
use Rattle.sim_text.proofs.BitLemmas.{gives_length, gives_more}

-- there are as many rows as are cut
pub rows_count : (width count : ℕ) (bits : Bits) → length (rows width count bits) ≡ count
rows_count width zero bits = refl
rows_count width (suc count) bits = let e = rows_count width count (drop width bits) in omega arith

pub row_inside : (width count : ℕ) (bits : Bits) (c : ℕ) → length bits ≡ count * width → c < count → c * width + width ≤ length bits
row_inside width count bits c e inside = grind arith

dropped : (width count : ℕ) (bits : Bits) → length bits ≡ suc count * width → length (drop width bits) ≡ count * width
dropped width count bits e = simp length-drop (rw e (grind arith))

-- a row is a part of the bits
pub row_at : (width count : ℕ) (bits : Bits) (c : ℕ) → length bits ≡ count * width → c < count → slice_get (rows width count bits) c ≡ Some (slice_range bits (c * width) (c * width + width))
row_at width zero bits c e inside = absurd (omega arith)
row_at width (suc count) bits zero e inside = grind (arith, common_steps)
row_at width (suc count) bits (suc c) e inside =
    row_at width count (drop width bits) c (dropped width count bits e) (omega arith) ∙ grind (arith, common_steps)

-- one more row
pub rows_more : (width count : ℕ) (bits x : Bits) → length bits ≡ count * width → length x ≡ width → rows width (suc count) (bits ++ x) ≡ rows width count bits ++ x ∷ []
rows_more width zero [] x e fits = ap (λ r. r ∷ []) (take_all width x (omega arith))
rows_more width zero (b ∷ bits) x e fits = absurd (grind arith)
rows_more width (suc count) bits x e fits =
    let wide : width ≤ length bits = grind arith in
    let later = rows_more width count (drop width bits) x (dropped width count bits e) fits in
    ap₂ (λ r rs. r ∷ rs) (take-append-le width bits x wide) (ap (rows width (suc count)) (drop-append-le width bits x wide) ∙ later)

pub length_more : (width count : ℕ) (bits x : Bits) → length bits ≡ count * width → length x ≡ width → length (bits ++ x) ≡ (count + 1) * width
length_more width count bits x e fits = simp length-append (rw (e, fits) (grind arith))

-- A row has one bit for each data input.
pub row_length : (inputs : ℕ) (ws : List Word) (row : Bits) → stimulus_row inputs ws ≡ Some row → length row ≡ inputs
row_length zero [] row e = cc e
row_length zero (w ∷ []) row e = go (same_name w (codes "-")) e
  where
    go : (b : Bool) → then_some b [] ≡ Some row → length row ≡ 0
    go true e = let nil : [] ≡ row = cc in rw (← nil) refl
    go false e = cc e
row_length zero (w ∷ v ∷ ws) row e = cc e
row_length (suc n) [] row e = cc e
row_length (suc n) (w ∷ []) row e = go (length w == suc n) refl e
  where
    go : (b : Bool) → (length w == suc n) ≡ b → cond b (bits_of_text w) None ≡ Some row → length row ≡ suc n
    go true same e = gives_length bit_of_char w row e ∙ eqb-true (length w) (suc n) same
    go false same e = cc e
row_length (suc n) (w ∷ v ∷ ws) row e = cc e

-- one more character of a row
pub pushed_more : (word : Word) (i : ℕ) (bit : Bool) (old now new : Bits) → i < length word → IsSomeAnd (bits_of_text (take i word)) (λ row. now ≡ old ++ row) → bit_of_char (get_or word i 0) ≡ Some bit → new ≡ now ++ bit ∷ [] → IsSomeAnd (bits_of_text (take (i + 1) word)) (λ row. new ≡ old ++ row)
pushed_more word i bit old now new inside so_far here push = go (bits_of_text (take i word)) refl so_far
  where
    go : (so_far : Option Bits) → bits_of_text (take i word) ≡ so_far → IsSomeAnd so_far (λ row. now ≡ old ++ row) → IsSomeAnd (bits_of_text (take (i + 1) word)) (λ row. new ≡ old ++ row)
    go None e h = absurd h
    go (Some row) e h =
        let more : bits_of_text (take (i + 1) word) ≡ Some (row ++ bit ∷ []) = gives_more bit_of_char word i 0 row bit inside e here in
        rw more (push ∙ (ap (λ bits. bits ++ bit ∷ []) h ∙ append_assoc old row (bit ∷ [])))

-- there is room for one more bit
pub room_left : (word : Word) (i : ℕ) (old now : Bits) → i < length word → length old + length word < 2 ^ 62 → IsSomeAnd (bits_of_text (take i word)) (λ row. now ≡ old ++ row) → length now < 2 ^ 62
room_left word i old now inside few so_far = go (bits_of_text (take i word)) refl so_far
  where
    go : (so_far : Option Bits) → bits_of_text (take i word) ≡ so_far → IsSomeAnd so_far (λ row. now ≡ old ++ row) → length now < 2 ^ 62
    go None e h = absurd h
    go (Some row) e h =
        let part : length row ≡ i = gives_length bit_of_char (take i word) row e ∙ length-take-le i word (omega (arith, inside)) in
        let all : length now ≡ length old + length row = ap length h ∙ length-append old row in
        omega (arith, part, all, inside, few)
