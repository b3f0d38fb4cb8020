-- Rows as numbers and as bits.
use Rattle.std.proofs.Common.{◌≡◌, sym, ◌∙◌, ap, ap₂, subst, ℕ, ◌+◌, ◌*◌, ◌/◌, ◌%◌, ◌^◌, ◌<◌, ◌≤◌, ◌↔◌, List, [], ◌∷◌, ◌++◌, length, map, take, drop, All, arith}
use Rattle.std.specs.Int.RustNames.{bit_or, bit_xor, count_ones}
use Rattle.std.specs.List.{AllByRecursion}
use Rattle.std.proofs.Math.Seq.{drop-append_seam}
use Rattle.std.proofs.lemmas.Nat.{shr_below, xor_lt, zero_from_ones}
use Rattle.std.proofs.lemmas.List.FromFn.{take-map-range_with_len}
use Rattle.std.proofs.lemmas.List.{length-map, length-take-le, take-map, get_or-take}
use Rattle.netlist_spec.specs.Covers.{has_bit}
use Rattle.netlist_spec.specs.SourceRun.{Bits}
use Rattle.guard_spec.specs.Codes.{Code, data_places, IsCode, bits_of, sum_of, checks_by, checks_of, encoded, weight, syndrome_of, IsCodeword}
use Rattle.block_code.specs.Shape.{HasShape, code_of}
use Rattle.block_code.proofs.Coding.{checks_take, codeword_from_zero, zero_from_codeword}
use Rattle.block_code.proofs.Words.{length_bits, bits_xor, bits_split, bits_joined, joined_below, joined_or, weight_bits, ones_zero}

full_rows : (r : ℕ) (rows : List ℕ) → AllByRecursion (λ (row : Bits). length row ≡ r) (map (bits_of r) rows)
full_rows r [] = tt
full_rows r (row ∷ rows) = (length_bits r row, full_rows r rows)

pub is_code : (r : ℕ) (rows : List ℕ) → HasShape (length rows) r rows → IsCode (code_of r rows)
is_code r rows shape =
    let same = length-map rows (bits_of r) in
    record {
      rows = (omega (arith, shape.places.0), omega (arith, shape.places.1));
      columns = shape.columns;
      full = full_rows r rows;
    }

-- the sum of the first m rows at the data is its check bits
pub sum_is_checks : (r m : ℕ) (rows : List ℕ) (u sum : ℕ) → m ≤ length rows → bits_of r sum ≡ checks_by r (map (bits_of r) (take m rows)) (bits_of (length (take m rows)) u) → bits_of r sum ≡ checks_of (code_of r rows) (bits_of m u)
sum_is_checks r m rows u sum fits h =
    let places = length-take-le m rows fits in
    h
    ∙ (ap₂ (λ (a : List Bits) (n : ℕ). checks_by r a (bits_of n u)) (sym (take-map (bits_of r) m rows)) places
    ∙ (ap (λ (n : ℕ). checks_by r (take n (map (bits_of r) rows)) (bits_of m u)) (sym (length_bits m u))
    ∙ checks_take r (map (bits_of r) rows) (bits_of m u)))

pub All_take : (P : ℕ → Type 0) (m : ℕ) (rows : List ℕ) → m ≤ length rows → All P rows → All P (take m rows)
All_take P m rows fits each = λ k d below.
    let places = length-take-le m rows fits in
    subst P (sym (get_or-take m rows k d (omega arith))) (each k d (omega arith))

module _ (code : Code) (is : IsCode code) (m : ℕ) (fits : m ≤ data_places code) where
  -- the check bits above the data are the codeword
  pub codeword_bits : (u sum : ℕ) → u < 2 ^ m → sum < 2 ^ code.columns → bits_of code.columns sum ≡ checks_of code (bits_of m u) → bits_of (m + code.columns) (bit_or (sum * 2 ^ m % 2 ^ 32) u) ≡ encoded code (bits_of m u)
  codeword_bits u sum low high checks =
      ap (bits_of (m + code.columns)) (joined_or m code.columns sum u (omega (arith, is.rows.1, is.columns.1)) high low)
      ∙ (bits_joined m code.columns sum u low ∙ ap (λ (bs : Bits). bits_of m u ++ bs) checks)

  pub codeword_below : (u sum : ℕ) → u < 2 ^ m → sum < 2 ^ code.columns → bit_or (sum * 2 ^ m % 2 ^ 32) u < 2 ^ (m + code.columns)
  codeword_below u sum low high = rw (joined_or m code.columns sum u (omega (arith, is.rows.1, is.columns.1)) high low) (joined_below m code.columns sum u high low)

  -- the check bits of the data and those that the word has, added
  pub syndrome_bits : (z sum : ℕ) → bits_of code.columns sum ≡ checks_of code (bits_of m z) → bits_of code.columns (bit_xor sum (z / 2 ^ m)) ≡ syndrome_of code m (bits_of (m + code.columns) z)
  syndrome_bits z sum checks =
      let high = bits_of code.columns (z / 2 ^ m) in
      let front = take-map-range_with_len (λ i. has_bit z i) 0 (m + code.columns) m (omega arith) in
      let back = ap (drop m) (bits_split m code.columns z) ∙ (ap (λ (n : ℕ). drop n (bits_of m z ++ high)) (sym (length_bits m z)) ∙ drop-append_seam (bits_of m z) high) in
      bits_xor code.columns sum (z / 2 ^ m) ∙ ap₂ (λ (a b : Bits). sum_of a b) (checks ∙ ap (checks_of code) (sym front)) (sym back)

  pub syndrome_below : (z sum : ℕ) → z < 2 ^ (m + code.columns) → sum < 2 ^ code.columns → bit_xor sum (z / 2 ^ m) < 2 ^ code.columns
  syndrome_below z sum below high = xor_lt code.columns sum (z / 2 ^ m) high (shr_below z code.columns m (subst (λ (n : ℕ). z < 2 ^ n) (turned m code.columns) below))
    where
      turned : (a b : ℕ) → a + b ≡ b + a
      turned a b = omega arith

  pub zero_on_codewords : (z s : ℕ) → s < 2 ^ code.columns → bits_of code.columns s ≡ syndrome_of code m (bits_of (m + code.columns) z) → (s ≡ 0) ↔ IsCodeword code m (bits_of (m + code.columns) z)
  zero_on_codewords z s below e =
      let word = bits_of (m + code.columns) z in
      let counted : weight (syndrome_of code m word) ≡ count_ones s = ap weight (sym e) ∙ weight_bits code.columns s below in (
        λ none. codeword_from_zero code is m word (length_bits (m + code.columns) z) (counted ∙ (ap count_ones none ∙ ones_zero)),
        λ codeword. zero_from_ones s (sym counted ∙ zero_from_codeword code is m word codeword),
      )
