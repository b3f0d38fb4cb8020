-- The bits of the syndromes of some words: their nets, and that one of them is 1 exactly where some word is no codeword.
use Rattle.std.proofs.Common.{◌≡◌, sym, ◌∙◌, ap, ap₂, subst, refl, ℕ, zero, suc, ◌+◌, ◌<◌, ◌⊎◌, ◌↔◌, inl, inr, Bool, true, false, List, [], ◌∷◌, ◌++◌, length, map, arith, Some, slice_get, IsTrue}
use Rattle.std.specs.Prelude.{◌||◌}
use Rattle.std.specs.List.{AllByRecursion, enumerate_from, flat_map, list_any}
use Rattle.std.proofs.lemmas.List.{length-append, length-map}
use Rattle.std.proofs.lemmas.List.Folds.{list_any-append}
use Rattle.std.proofs.Math.Seq.{take-append_seam, drop-append_seam}
use Rattle.netlist_spec.specs.Covers.{differ, parity}
use Rattle.netlist_spec.specs.SourceRun.{Bits}
use Rattle.guard_spec.specs.Codes.{Code, IsCode, IsCodeword, checks_of, sum_of, syndrome_of}
use Rattle.block_code.proofs.Coding.{ones, weight_ones, length_checks, codeword_from_zero, zero_from_codeword}
use Rattle.gate_net.specs.Words.{WordNets, nets_of}
use Rattle.predictor.specs.Columns.{column_roots}
use Rattle.predictor.proofs.Checks.{chosen_all, check_value}
use Rattle.alarm_rails.specs.Rail.{FitsCode, SomeIsNone}
use Rattle.alarm_rails.specs.Syndromes.{SyndromeBit, syndrome_bits}
use Rattle.alarm_rails.proofs.Alarms.{Holds, is_set}

abbrev pub column_bit : Code → List ℕ → ℕ × ℕ → SyndromeBit
column_bit code places p = record { check = p.1; places = column_roots code p.0 places }

-- ---- the bits of a word

bit_at : (code : Code) (places : List ℕ) (a : ℕ) (checks : List ℕ) (j c : ℕ) → slice_get checks j ≡ Some c → slice_get (map (column_bit code places) (enumerate_from a checks)) j ≡ Some (column_bit code places (a + j, c))
bit_at code places a [] j c e = cc e
bit_at code places a (d ∷ checks) zero c e =
    let same : d ≡ c = cc e in
    ap₂ (λ (b q : ℕ). Some (column_bit code places (b, q))) (let z : a ≡ a + 0 = omega arith in z) same
bit_at code places a (d ∷ checks) (suc j) c e = bit_at code places (a + 1) checks j c e ∙ ap (λ (b : ℕ). Some (column_bit code places (b, c))) (let z : a + 1 + j ≡ a + suc j = omega arith in z)

-- the bit of column j
pub word_bit : (code : Code) (w : WordNets) (j c : ℕ) → slice_get w.checks j ≡ Some c → slice_get (syndrome_bits code w) j ≡ Some (column_bit code w.places (j, c))
word_bit code w j c e = bit_at code w.places 0 w.checks j c e ∙ ap (λ (b : ℕ). Some (column_bit code w.places (b, c))) (let z : 0 + j ≡ j = omega arith in z)

pub bits_length : (code : Code) (places : List ℕ) (a : ℕ) (checks : List ℕ) → length (map (column_bit code places) (enumerate_from a checks)) ≡ length checks
bits_length code places a [] = refl
bits_length code places a (c ∷ checks) = ap suc (bits_length code places (a + 1) checks)

-- ---- their nets

all_front : (P : ℕ → Type 0) (xs ys : List ℕ) → AllByRecursion P (xs ++ ys) → AllByRecursion P xs
all_front P [] ys all = tt
all_front P (x ∷ xs) ys all = (all.0, all_front P xs ys all.1)

all_back : (P : ℕ → Type 0) (xs ys : List ℕ) → AllByRecursion P (xs ++ ys) → AllByRecursion P ys
all_back P [] ys all = all
all_back P (x ∷ xs) ys all = all_back P xs ys all.1

all_joined : {X : Type 0} (P : X → Type 0) (xs ys : List X) → AllByRecursion P xs → AllByRecursion P ys → AllByRecursion P (xs ++ ys)
all_joined P [] ys a b = b
all_joined P (x ∷ xs) ys a b = (a.0, all_joined P xs ys a.1 b)

pub places_hold : (P : ℕ → Type 0) (w : WordNets) → AllByRecursion P (nets_of w) → AllByRecursion P w.places
places_hold P w all = all_front P w.places w.checks all

pub checks_hold : (P : ℕ → Type 0) (w : WordNets) → AllByRecursion P (nets_of w) → AllByRecursion P w.checks
checks_hold P w all = all_back P w.places w.checks all

pub word_holds : (P : ℕ → Type 0) (code : Code) (w : WordNets) → AllByRecursion P (nets_of w) → AllByRecursion (Holds P) (syndrome_bits code w)
word_holds P code w all = each 0 w.checks (checks_hold P w all)
  where
    each : (a : ℕ) (checks : List ℕ) → AllByRecursion P checks → AllByRecursion (Holds P) (map (column_bit code w.places) (enumerate_from a checks))
    each a [] h = tt
    each a (c ∷ checks) h = ((h.0, chosen_all P code.rows a w.places (places_hold P w all)), each (a + 1) checks h.1)

pub words_hold : (P : ℕ → Type 0) (code : Code) (ws : List WordNets) → AllByRecursion P (flat_map nets_of ws) → AllByRecursion (Holds P) (flat_map (syndrome_bits code) ws)
words_hold P code [] all = tt
words_hold P code (w ∷ ws) all =
    all_joined (Holds P) (syndrome_bits code w) (flat_map (syndrome_bits code) ws) (word_holds P code w (all_front P (nets_of w) (flat_map nets_of ws) all)) (words_hold P code ws (all_back P (nets_of w) (flat_map nets_of ws) all))

-- the nets of one of the words
pub nets_at : (P : ℕ → Type 0) (ws : List WordNets) (i : ℕ) (w : WordNets) → AllByRecursion P (flat_map nets_of ws) → slice_get ws i ≡ Some w → AllByRecursion P (nets_of w)
nets_at P [] i w all e = cc e
nets_at P (x ∷ ws) zero w all e = let same : x ≡ w = cc e in subst (λ (y : WordNets). AllByRecursion P (nets_of y)) same (all_front P (nets_of x) (flat_map nets_of ws) all)
nets_at P (x ∷ ws) (suc i) w all e = nets_at P ws i w (all_back P (nets_of x) (flat_map nets_of ws) all) e

-- ---- what they tell

maps_append : (v : ℕ → Bool) (xs ys : List ℕ) → map v (xs ++ ys) ≡ map v xs ++ map v ys
maps_append v [] ys = refl
maps_append v (x ∷ xs) ys = ap (λ (bs : Bits). v x ∷ bs) (maps_append v xs ys)

differ_turned : (x y : Bool) → differ x y ≡ differ y x
differ_turned false false = refl
differ_turned false true = refl
differ_turned true false = refl
differ_turned true true = refl

no_ones : (bits : Bits) → ones bits ≡ 0 → list_any (λ b. b) bits ≡ false
no_ones [] e = refl
no_ones (true ∷ bits) e = absurd (omega arith)
no_ones (false ∷ bits) e = no_ones bits (omega arith)

none_set : (bits : Bits) → list_any (λ b. b) bits ≡ false → ones bits ≡ 0
none_set [] e = refl
none_set (true ∷ bits) e = cc e
none_set (false ∷ bits) e = let h = none_set bits e in omega arith

module _ (code : Code) (well : IsCode code) (v : ℕ → Bool) where
  -- the bits, and the sum of the check bits that belong to the places and of those that the word has
  any_is : (places : List ℕ) (a : ℕ) (checks : List ℕ) (sums : Bits) → length sums ≡ length checks → ((j : ℕ) → j < length checks → slice_get sums j ≡ Some (parity (map v (column_roots code (a + j) places))))
      → list_any (is_set v) (map (column_bit code places) (enumerate_from a checks)) ≡ list_any (λ b. b) (sum_of sums (map v checks))
  any_is places a [] [] long each = refl
  any_is places a [] (x ∷ sums) long each = absurd (omega arith)
  any_is places a (c ∷ checks) [] long each = absurd (omega arith)
  any_is places a (c ∷ checks) (x ∷ sums) long each =
      let first : Some x ≡ Some (parity (map v (column_roots code (a + 0) places))) = each 0 (omega arith) in
      let is : x ≡ parity (map v (column_roots code (a + 0) places)) = cc first in
      let here : x ≡ parity (map v (column_roots code a places)) = is ∙ ap (λ (b : ℕ). parity (map v (column_roots code b places))) (let z : a + 0 ≡ a = omega arith in z) in
      ap₂ (λ (p q : Bool). p || q)
      (ap (differ (v c)) (sym here) ∙ differ_turned (v c) x)
      (any_is places (a + 1) checks sums (omega arith) (λ j h. each (suc j) (omega arith) ∙ ap (λ (b : ℕ). Some (parity (map v (column_roots code b places)))) (let z : a + suc j ≡ a + 1 + j = omega arith in z)))

  module _ (w : WordNets) (fits : FitsCode code w) where
    abbrev word : Bits
    word = map v (nets_of w)

    syndrome_is : syndrome_of code (length w.places) word ≡ sum_of (checks_of code (map v w.places)) (map v w.checks)
    syndrome_is =
        let split = maps_append v w.places w.checks in
        let long : length (map v w.places) ≡ length w.places = length-map w.places v in
        ap (λ (z : Bits). syndrome_of code (length w.places) z) split
        ∙ (ap (λ (m : ℕ). syndrome_of code m (map v w.places ++ map v w.checks)) (sym long)
        ∙ ap₂ (λ (x y : Bits). sum_of (checks_of code x) y) (take-append_seam (map v w.places) (map v w.checks)) (drop-append_seam (map v w.places) (map v w.checks)))

    word_long : length word ≡ length w.places + code.columns
    word_long =
        let l = length-map (nets_of w) v in
        let a = length-append w.places w.checks in
        let c = fits.checks in
        omega arith

    any_of_word : list_any (is_set v) (syndrome_bits code w) ≡ list_any (λ b. b) (syndrome_of code (length w.places) word)
    any_of_word =
        any_is w.places 0 w.checks (checks_of code (map v w.places)) (length_checks code.columns code.rows well.full (map v w.places) ∙ sym fits.checks)
        (λ j h. let c = fits.checks in let z : j ≡ 0 + j = omega arith in check_value code.columns j code.rows w.places v (omega arith) well.full ∙ ap (λ (b : ℕ). Some (parity (map v (column_roots code b w.places)))) z)
        ∙ ap (list_any (λ b. b)) (sym syndrome_is)

    pub word_tells : IsTrue (list_any (is_set v) (syndrome_bits code w)) ↔ (IsCodeword code (length w.places) word → ⊥)
    word_tells = (there, λ not. by_bit (list_any (is_set v) (syndrome_bits code w)) refl not)
      where
        there : IsTrue (list_any (is_set v) (syndrome_bits code w)) → IsCodeword code (length w.places) word → ⊥
        there set is =
            let none = zero_from_codeword code well (length w.places) word is in
            let clear = no_ones (syndrome_of code (length w.places) word) (sym (weight_ones (syndrome_of code (length w.places) word)) ∙ none) in
            let clash : true ≡ false = sym set ∙ (any_of_word ∙ clear) in
            cc clash

        by_bit : (b : Bool) → list_any (is_set v) (syndrome_bits code w) ≡ b → (IsCodeword code (length w.places) word → ⊥) → IsTrue (list_any (is_set v) (syndrome_bits code w))
        by_bit true e not = e
        by_bit false e not =
            let clear = none_set (syndrome_of code (length w.places) word) (sym any_of_word ∙ e) in
            absurd (not (codeword_from_zero code well (length w.places) word word_long (weight_ones (syndrome_of code (length w.places) word) ∙ clear)))

  pub words_tell : (ws : List WordNets) → AllByRecursion (FitsCode code) ws → IsTrue (list_any (is_set v) (flat_map (syndrome_bits code) ws)) ↔ SomeIsNone code ws v
  words_tell [] all = (λ e. cc e, λ h. absurd h)
  words_tell (w ∷ ws) all = by_parts (list_any (is_set v) (syndrome_bits code w)) (list_any (is_set v) (flat_map (syndrome_bits code) ws)) (word_tells w all.0) (words_tell ws all.1) (list_any-append (is_set v) (syndrome_bits code w) (flat_map (syndrome_bits code) ws))
    where
      by_parts : {A B : Type 0} (x y : Bool) → IsTrue x ↔ A → IsTrue y ↔ B → {z : Bool} → z ≡ (x || y) → IsTrue z ↔ (A ⊎ B)
      by_parts {A = A} {B = B} x y p q {z = z} e = (λ h. there x p (sym e ∙ h), λ h. e ∙ back x p h)
        where
          there : (x : Bool) → IsTrue x ↔ A → (x || y) ≡ true → A ⊎ B
          there true p h = inl (p.0 refl)
          there false p h = inr (q.0 h)

          back : (x : Bool) → IsTrue x ↔ A → A ⊎ B → (x || y) ≡ true
          back true p h = refl
          back false p (inl a) = let clash = p.1 a in cc clash
          back false p (inr b) = q.1 b
