-- A check matrix as texts and as numbers.
use Rattle.std.proofs.Common.{◌≡◌, ℕ, get_or, ◌<◌, ◌≤◌, Bool, true, false, List, [], ◌∷◌, length, map, Option, None, Some, Ok, Err, option_map, refl, sym, subst, ◌∙◌, ap, arith}
use Rattle.std.specs.Prelude.{◌==◌, nat_le, is_some, if◌then◌else◌, slice_index_or, ok_or, codes}
use Rattle.std.specs.List.{list_all}
use Rattle.std.proofs.lemmas.Bool.Decides.{nat_tests}
use Rattle.std.proofs.lemmas.List.{length-map}
use Rattle.netlist_spec.specs.Digits.{each_gives, bits_of_text}
use Rattle.netlist_spec.specs.SourceRun.{Bits}
use Rattle.guard_spec.specs.Codes.{Code, bits_of}
use Rattle.guard_spec.specs.SettingsFile.{missing, bad_value, bad_shape, as_text, texts_of, bit_rows, code_of, ◌>>=◌}
use Rattle.block_code.specs.Shape.{code_of as numbers_code}
use Rattle.block_code.proofs.Words.{length_bits}
use Rattle.toml.specs.View.{view}
use Rattle.toml.specs.declared.value.Value.{Value}
use Rattle.toml.specs.Data.{Data, Members, get_member}
use Rattle.settings.specs.Matrix.{row_at, text_length, check_of}
use Rattle.settings.proofs.Steps.{none_from, some_from}
use Rattle.settings.proofs.Gives.{joined, gives_step, gives_length}

-- the rows of texts, where all have so many characters
abbrev rows_at : ℕ → List (List ℕ) → Option (List Bits)
rows_at w texts = if list_all (λ text. length text == w) texts then each_gives bits_of_text texts else None

row_text : (w : ℕ) (d : Data) (text : List ℕ) → as_text d ≡ Some text → row_at w d ≡ (if length text == w then bits_of_text text else None)
row_text w d text e = rw e refl

rows_step : (w : ℕ) (text : List ℕ) (texts : List (List ℕ)) → joined (if length text == w then bits_of_text text else None) (rows_at w texts) ≡ rows_at w (text ∷ texts)
rows_step w text texts = at (length text == w) (list_all (λ t. length t == w) texts) refl refl
  where
    none : (o : Option Bits) → joined o None ≡ None
    none None = refl
    none (Some y) = refl

    at : (a b : Bool) → (length text == w) ≡ a → list_all (λ t. length t == w) texts ≡ b → joined (if length text == w then bits_of_text text else None) (rows_at w texts) ≡ rows_at w (text ∷ texts)
    at false b p q = rw p refl
    at true false p q = rw (p, q) (none (bits_of_text text))
    at true true p q = rw (p, q) (sym (gives_step bits_of_text text texts (bits_of_text text) (each_gives bits_of_text texts) refl refl))

rows_texts : (w : ℕ) (ds : List Data) (texts : List (List ℕ)) → each_gives as_text ds ≡ Some texts → each_gives (row_at w) ds ≡ rows_at w texts
rows_texts w [] texts all = let e : [] ≡ texts = cc in rw (← e) refl
rows_texts w (d ∷ ds) texts all = at (as_text d) (each_gives as_text ds) refl refl (rows_texts w ds)
  where
    at : (o : Option (List ℕ)) (r : Option (List (List ℕ))) → as_text d ≡ o → each_gives as_text ds ≡ r → ((ts : List (List ℕ)) → each_gives as_text ds ≡ Some ts → each_gives (row_at w) ds ≡ rows_at w ts) → each_gives (row_at w) (d ∷ ds) ≡ rows_at w texts
    at None r p q later = let no = sym all ∙ gives_step as_text d ds None r p q in cc
    at (Some t) None p q later = let no = sym all ∙ gives_step as_text d ds (Some t) None p q in cc
    at (Some t) (Some ts) p q later =
        let same : texts ≡ t ∷ ts = let e = sym all ∙ gives_step as_text d ds (Some t) (Some ts) p q in cc in
        gives_step (row_at w) d ds _ _ (row_text w d t p) (later ts q) ∙ (rows_step w t ts ∙ ap (rows_at w) (sym same))

module _ (most_rows most_columns : ℕ) (ds : List Data) (texts : List (List ℕ)) (all : each_gives as_text ds ≡ Some texts) where
  pub no_rows : length ds < 1 → bit_rows most_rows most_columns texts ≡ None
  no_rows few =
      let n = gives_length as_text ds texts all in
      let a : nat_le 1 (length texts) ≡ false = grind (arith, nat_tests) in
      rw a refl

  pub many_rows : 1 ≤ most_rows → most_rows < length ds → bit_rows most_rows most_columns texts ≡ None
  many_rows some many =
      let n = gives_length as_text ds texts all in
      let a : nat_le 1 (length texts) ≡ true = grind (arith, nat_tests) in
      let b : nat_le (length texts) most_rows ≡ false = grind (arith, nat_tests) in
      rw (a, b) refl

  pub some_rows : (w : ℕ) → 1 ≤ length ds → length ds ≤ most_rows → 1 ≤ w → w ≤ most_columns → length (slice_index_or texts 0 []) ≡ w → bit_rows most_rows most_columns texts ≡ each_gives (row_at w) ds
  some_rows w some few wide narrow first =
      let n = gives_length as_text ds texts all in
      let a : nat_le 1 (length texts) ≡ true = grind (arith, nat_tests) in
      let b : nat_le (length texts) most_rows ≡ true = grind (arith, nat_tests) in
      let c : nat_le 1 w ≡ true = grind (arith, nat_tests) in
      let d : nat_le w most_columns ≡ true = grind (arith, nat_tests) in
      rw (first, a, b, c, d) (sym (rows_texts w ds texts all))

-- the first text
pub first_length : (d : Data) (ds : List Data) (texts : List (List ℕ)) (w : ℕ) → each_gives as_text (d ∷ ds) ≡ Some texts → Some w ≡ text_length d → length (slice_index_or texts 0 []) ≡ w
first_length d ds texts w all long = at (as_text d) (each_gives as_text ds) refl refl
  where
    at : (o : Option (List ℕ)) (r : Option (List (List ℕ))) → as_text d ≡ o → each_gives as_text ds ≡ r → length (slice_index_or texts 0 []) ≡ w
    at None r p q = let no = sym all ∙ gives_step as_text d ds None r p q in cc
    at (Some t) None p q = let no = sym all ∙ gives_step as_text d ds (Some t) None p q in cc
    at (Some t) (Some ts) p q =
        let same : texts ≡ t ∷ ts = let e = sym all ∙ gives_step as_text d ds (Some t) (Some ts) p q in cc in
        let here : text_length d ≡ Some (length t) = rw p refl in
        let width : w ≡ length t = let e = long ∙ here in cc in
        rw same (sym width)

pub value_rows : (most_rows most_columns : ℕ) (vs : List Value) (v : Value) (texts : List (List ℕ)) (w : ℕ) → each_gives as_text (map view vs) ≡ Some texts → 1 ≤ length vs → length vs ≤ most_rows → v ≡ get_or vs 0 v → Some w ≡ text_length (view v) → 1 ≤ w → w ≤ most_columns → bit_rows most_rows most_columns texts ≡ each_gives (row_at w) (map view vs)
value_rows most_rows most_columns [] v texts w all some few first long wide narrow = absurd (omega arith)
value_rows most_rows most_columns (u ∷ vs) v texts w all some few first long wide narrow =
    let count = length-map (u ∷ vs) view in
    let at_first = subst (λ (x : Value). Some w ≡ text_length (view x)) first long in
    some_rows most_rows most_columns (map view (u ∷ vs)) texts all w (omega arith) (omega arith) wide narrow (first_length (view u) (map view vs) texts w all at_first)

-- the code of rows that are numbers
pub numbers_are_rows : (w : ℕ) (ns : List ℕ) → 1 ≤ length ns → code_of (map (bits_of w) ns) ≡ numbers_code w ns
numbers_are_rows w [] some = absurd (omega arith)
numbers_are_rows w (n ∷ ns) some = ap (λ (c : ℕ). let code : Code = record { columns = c; rows = map (bits_of w) (n ∷ ns) } in code) (length_bits w n)

-- ---- the key

module _ (doc : Members) (d : Data) (ds : List Data) (found : ok_or (get_member (codes "check") doc) (missing (codes "check")) ≡ Ok d) (texts_are : texts_of d ≡ each_gives as_text ds) where
  checked : check_of doc ≡ (ok_or (texts_of d) (bad_value (codes "check")) >>= (λ texts. ok_or (bit_rows 12 16 texts) bad_shape))
  checked = rw found refl

  pub check_bad_value : is_some (each_gives as_text ds) ≡ false → check_of doc ≡ Err (bad_value (codes "check"))
  check_bad_value no_texts = let none : texts_of d ≡ None = texts_are ∙ none_from (each_gives as_text ds) no_texts in checked ∙ rw none refl

  check_rows : (texts : List (List ℕ)) → texts_of d ≡ Some texts → check_of doc ≡ ok_or (bit_rows 12 16 texts) bad_shape
  check_rows texts some = checked ∙ rw some refl

  rows_from : (o : Option (List Bits)) (code : Code) → Some code ≡ option_map code_of o → (o ≡ Some code.rows) × (code ≡ code_of code.rows)
  rows_from None code e = cc
  rows_from (Some rows) code e =
      let same : code ≡ code_of rows = cc in
      let rows_are : code.rows ≡ rows = ap (λ (c : Code). c.rows) same in
      (rw rows_are refl, same ∙ ap code_of (sym rows_are))

  no_rows_from : (o : Option (List Bits)) → ◌≡◌ {A = Option Code} None (option_map code_of o) → o ≡ None
  no_rows_from None e = refl
  no_rows_from (Some rows) e = cc

  pub check_ok : (code : Code) → is_some (each_gives as_text ds) ≡ true → ((texts : List (List ℕ)) → each_gives as_text ds ≡ Some texts → Some code ≡ option_map code_of (bit_rows 12 16 texts)) → (check_of doc ≡ Ok code.rows) × (code ≡ code_of code.rows)
  check_ok code are_texts gives =
      let (texts, all) = some_from (each_gives as_text ds) are_texts in
      let (rows, made) = rows_from (bit_rows 12 16 texts) code (gives texts all) in
      (check_rows texts (texts_are ∙ all) ∙ ap (λ (o : Option (List Bits)). ok_or o bad_shape) rows, made)

  pub check_bad_shape : is_some (each_gives as_text ds) ≡ true → ((texts : List (List ℕ)) → each_gives as_text ds ≡ Some texts → ◌≡◌ {A = Option Code} None (option_map code_of (bit_rows 12 16 texts))) → check_of doc ≡ Err bad_shape
  check_bad_shape are_texts gives =
      let (texts, all) = some_from (each_gives as_text ds) are_texts in
      check_rows texts (texts_are ∙ all) ∙ ap (λ (o : Option (List Bits)). ok_or o bad_shape) (no_rows_from (bit_rows 12 16 texts) (gives texts all))
