-- Linear layers as texts and as numbers, and the names that are taken.
use Rattle.std.proofs.Common.{◌≡◌, ℕ, ◌^◌, ◌<◌, ◌≤◌, Bool, true, false, List, [], ◌∷◌, length, map, Option, None, Some, option_map, Bor, refl, sym, subst, ap, ap₂, ◌∙◌, arith}
use Rattle.std.specs.Prelude.{◌==◌, is_some, find, if◌then◌else◌, option_copied, slice_index_or}
use Rattle.std.proofs.lemmas.Bool.Decides.{nat_tests}
use Rattle.netlist_spec.specs.Digits.{each_gives, bit_of_char, bits_of_text}
use Rattle.netlist_spec.specs.Netlist.{Name, same_name, stands_in}
use Rattle.netlist_spec.specs.Covers.{Linear, IsLinear, number_of}
use Rattle.netlist_spec.specs.SourceRun.{Bits}
use Rattle.guard_spec.specs.Codes.{bits_of}
use Rattle.guard_spec.specs.SettingsFile.{as_text, then_gives, bit_rows, linear_of}
use Rattle.block_code.proofs.Words.{number_bits, number_below}
use Rattle.imp_text.proofs.NamesLemmas.{same_name-comm}
use Rattle.toml.specs.Data.{Data}
use Rattle.settings.specs.Library.{layer_from, number_at}
use Rattle.settings.specs.Matrix.{row_at}
use Rattle.settings.proofs.Gives.{joined, joined_none, gives_step, gives_length, gives_each}

pub no_number : (w : ℕ) (d : Data) → None ≡ row_at w d → number_at w d ≡ None
no_number w d h = ap (option_map number_of) (sym h)

pub some_number : (w : ℕ) (d : Data) (n : ℕ) → n < 2 ^ w → Some (bits_of w n) ≡ row_at w d → number_at w d ≡ Some n
some_number w d n below h = ap (option_map number_of) (sym h) ∙ ap (λ (k : ℕ). Some k) (number_bits w n below)

row_length_of : (w : ℕ) (o : Option (List ℕ)) (bits : Bits) → then_gives o (λ text. if length text == w then bits_of_text text else None) ≡ Some bits → length bits ≡ w
row_length_of w None bits e = cc
row_length_of w (Some text) bits e = at (length text == w) refl
  where
    at : (b : Bool) → (length text == w) ≡ b → length bits ≡ w
    at true p =
        let all : bits_of_text text ≡ Some bits = rw p at e in
        let long : length text ≡ w = grind (arith, nat_tests) in
        gives_length bit_of_char text bits all ∙ long
    at false p = let no : None ≡ Some bits = rw p at e in cc

row_length : (w : ℕ) (d : Data) (bits : Bits) → row_at w d ≡ Some bits → length bits ≡ w
row_length w d bits e = row_length_of w (as_text d) bits e

number_within : (w : ℕ) (d : Data) (n : ℕ) → number_at w d ≡ Some n → n < 2 ^ w
number_within w d n e = at (row_at w d) refl
  where
    at : (o : Option Bits) → row_at w d ≡ o → n < 2 ^ w
    at None p = let no : None ≡ Some n = sym (ap (option_map number_of) p) ∙ e in cc
    at (Some bits) p =
        let some : Some (number_of bits) ≡ Some n = sym (ap (option_map number_of) p) ∙ e in
        let same : number_of bits ≡ n = cc in
        subst (λ (k : ℕ). k < 2 ^ w) same (subst (λ (k : ℕ). number_of bits < 2 ^ k) (row_length w d bits p) (number_below bits))

-- the numbers of rows are those of their bits
numbers_are : (w : ℕ) (ds : List Data) → each_gives (number_at w) ds ≡ option_map (map number_of) (each_gives (row_at w) ds)
numbers_are w [] = refl
numbers_are w (d ∷ ds) = at (row_at w d) (each_gives (row_at w) ds) refl refl (numbers_are w ds)
  where
    both : (o : Option Bits) (r : Option (List Bits)) → joined (option_map number_of o) (option_map (map number_of) r) ≡ option_map (map number_of) (joined o r)
    both None r = refl
    both (Some b) None = refl
    both (Some b) (Some bs) = refl

    at : (o : Option Bits) (r : Option (List Bits)) → row_at w d ≡ o → each_gives (row_at w) ds ≡ r → each_gives (number_at w) ds ≡ option_map (map number_of) (each_gives (row_at w) ds) → each_gives (number_at w) (d ∷ ds) ≡ option_map (map number_of) (each_gives (row_at w) (d ∷ ds))
    at o r p q later =
        gives_step (number_at w) d ds (option_map number_of o) (option_map (map number_of) r) (ap (option_map number_of) p) (later ∙ ap (option_map (map number_of)) q)
        ∙ (both o r ∙ ap (option_map (map number_of)) (sym (gives_step (row_at w) d ds o r p q)))

-- Where an element is no text, it is no row.
no_texts : (w : ℕ) (ds : List Data) → each_gives as_text ds ≡ None → each_gives (row_at w) ds ≡ None
no_texts w [] h = cc
no_texts w (d ∷ ds) h = at (as_text d) (each_gives as_text ds) refl refl (no_texts w ds)
  where
    at : (o : Option (List ℕ)) (r : Option (List (List ℕ))) → as_text d ≡ o → each_gives as_text ds ≡ r → (each_gives as_text ds ≡ None → each_gives (row_at w) ds ≡ None) → each_gives (row_at w) (d ∷ ds) ≡ None
    at None r p q later = let none : row_at w d ≡ None = rw p refl in gives_step (row_at w) d ds None (each_gives (row_at w) ds) none refl
    at (Some t) None p q later = gives_step (row_at w) d ds (row_at w d) None refl (later q) ∙ joined_none (row_at w d)
    at (Some t) (Some ts) p q later = let no = sym h ∙ gives_step as_text d ds (Some t) (Some ts) p q in cc

pub layer_none : (ds : List Data) → ((texts : List (List ℕ)) → each_gives as_text ds ≡ Some texts → bit_rows 128 128 texts ≡ None) → None ≡ layer_from ds
layer_none ds refused = at (each_gives as_text ds) refl
  where
    at : (o : Option (List (List ℕ))) → each_gives as_text ds ≡ o → None ≡ layer_from ds
    at None p = rw p refl
    at (Some texts) p = rw p (ap (option_map linear_of) (sym (refused texts p)))

pub layer_is : (ds : List Data) (w : ℕ) → ((texts : List (List ℕ)) → each_gives as_text ds ≡ Some texts → bit_rows 128 128 texts ≡ each_gives (row_at w) ds)
    → then_gives (each_gives as_text ds) (bit_rows 128 128) ≡ each_gives (row_at w) ds
layer_is ds w same = at (each_gives as_text ds) refl
  where
    at : (o : Option (List (List ℕ))) → each_gives as_text ds ≡ o → then_gives (each_gives as_text ds) (bit_rows 128 128) ≡ each_gives (row_at w) ds
    at None p = ap (λ (o : Option (List (List ℕ))). then_gives o (bit_rows 128 128)) p ∙ sym (no_texts w ds p)
    at (Some texts) p = ap (λ (o : Option (List (List ℕ))). then_gives o (bit_rows 128 128)) p ∙ same texts p

first_width : (w : ℕ) (ds : List Data) (rows : List Bits) → 1 ≤ length ds → each_gives (row_at w) ds ≡ Some rows → length (slice_index_or rows 0 []) ≡ w
first_width w [] rows some all = absurd (omega arith)
first_width w (d ∷ ds) rows some all = at (row_at w d) (each_gives (row_at w) ds) refl refl
  where
    at : (o : Option Bits) (r : Option (List Bits)) → row_at w d ≡ o → each_gives (row_at w) ds ≡ r → length (slice_index_or rows 0 []) ≡ w
    at None r p q = let no = sym all ∙ gives_step (row_at w) d ds None r p q in cc
    at (Some b) None p q = let no = sym all ∙ gives_step (row_at w) d ds (Some b) None p q in cc
    at (Some b) (Some bs) p q =
        let same : rows ≡ b ∷ bs = let e = sym all ∙ gives_step (row_at w) d ds (Some b) (Some bs) p q in cc in
        rw same (row_length w d b p)

module _ (w : ℕ) (ds : List Data) (is : then_gives (each_gives as_text ds) (bit_rows 128 128) ≡ each_gives (row_at w) ds) where
  pub layer_refused : None ≡ each_gives (number_at w) ds → None ≡ layer_from ds
  layer_refused none = at (each_gives (row_at w) ds) refl
    where
      at : (o : Option (List Bits)) → each_gives (row_at w) ds ≡ o → None ≡ layer_from ds
      at None p = ap (option_map linear_of) (sym (is ∙ p))
      at (Some rows) p = let no : None ≡ Some (map number_of rows) = none ∙ (numbers_are w ds ∙ ap (option_map (map number_of)) p) in cc

  pub layer_made : (ns : List ℕ) → 1 ≤ length ds → Some ns ≡ each_gives (number_at w) ds → Some (record { rows = ns; width = w }) ≡ layer_from ds
  layer_made ns some given = at (each_gives (row_at w) ds) refl
    where
      at : (o : Option (List Bits)) → each_gives (row_at w) ds ≡ o → Some (record { rows = ns; width = w }) ≡ layer_from ds
      at None p = let no : Some ns ≡ None = given ∙ (numbers_are w ds ∙ ap (option_map (map number_of)) p) in cc
      at (Some rows) p =
          let made : Some ns ≡ Some (map number_of rows) = given ∙ (numbers_are w ds ∙ ap (option_map (map number_of)) p) in
          let same : ns ≡ map number_of rows = cc in
          let wide : w ≡ length (slice_index_or rows 0 []) = sym (first_width w ds rows some p) in
          let layers : ◌≡◌ {A = Linear} (record { rows = ns; width = w }) (linear_of rows) = ap₂ (λ (a : List ℕ) (b : ℕ). let l : Linear = record { rows = a; width = b } in l) same wide in
          ap (λ (l : Linear). Some l) layers ∙ ap (option_map linear_of) (sym (is ∙ p))

pub layer_shape : (w : ℕ) (ds : List Data) (ns : List ℕ) → 1 ≤ length ds → length ds ≤ 128 → 1 ≤ w → w ≤ 128 → Some ns ≡ each_gives (number_at w) ds → IsLinear (record { rows = ns; width = w })
layer_shape w ds ns some few wide narrow given =
    let count : length ns ≡ length ds = gives_length (number_at w) ds ns (sym given) in
    record {
      rows = (omega arith, omega arith);
      width = (wide, narrow);
      each = gives_each (number_at w) (λ n. n < 2 ^ w) (λ d n h. number_within w d n h) ds ns (sym given);
    }

-- ---- names that are taken

pub same_some : {X : Type 0} (r : Option (Bor X)) → is_some r ≡ is_some (option_copied r)
same_some None = refl
same_some (Some x) = refl

pub found_is_taken : {X : Type 0} (name : X → Name) (n : Name) (xs : List X) → is_some (find (λ x. same_name (name x) n) xs) ≡ stands_in n (map name xs)
found_is_taken name n [] = refl
found_is_taken name n (x ∷ xs) = at (same_name (name x) n) refl (found_is_taken name n xs)
  where
    at : (b : Bool) → same_name (name x) n ≡ b → is_some (find (λ x. same_name (name x) n) xs) ≡ stands_in n (map name xs) → is_some (find (λ x. same_name (name x) n) (x ∷ xs)) ≡ stands_in n (map name (x ∷ xs))
    at true p later = let turned = same_name-comm n (name x) ∙ p in rw (p, turned) refl
    at false p later = let turned = same_name-comm n (name x) ∙ p in rw (p, turned) later
