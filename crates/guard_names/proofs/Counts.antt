-- How many words a partition has, and how many places.
use Rattle.std.proofs.Common.{◌≡◌, refl, sym, ◌∙◌, ap, ap₂, ℕ, zero, suc, ◌+◌, ◌*◌, ◌<◌, ◌≤◌, ◌⊎◌, inl, inr, false, cond, ◌==◌, List, [], ◌∷◌, length, map, get_or, arith, length-append, eq-eqb, ne_eqb}
use Rattle.std.proofs.Math.Nat.{mul-le-mul_left}
use Rattle.std.specs.Prelude.{nat_lt, count_by, sum_by}
use Rattle.std.specs.List.{AllByRecursion, flat_map, enumerate_from, range_with_len}
use Rattle.std.proofs.lemmas.Bool.{lt-ltb, le-ltb}
use Rattle.std.proofs.lemmas.List.{length-map}
use Rattle.std.proofs.lemmas.List.Sums.{sum_by-cons}
use Rattle.std.proofs.lemmas.List.FromFn.{length-map-range_with_len}
use Rattle.netlist_spec.specs.SourceRun.{Bits}
use Rattle.netlist_spec.specs.Written.{Label}
use Rattle.guard_spec.specs.Codes.{Code, IsCode, encoded, data_places}
use Rattle.guard_spec.specs.Words.{Words, IsPartition, all_numbers, bits_at, codewords}
use Rattle.block_code.proofs.Coding.{length_encoded}
use Rattle.size_laws.specs.Labels.{word_labels}
use Rattle.guard_laws.specs.Places.{latches_of_words}
use Rattle.guard_names.proofs.Rising.{three_ways}

-- ---- a list in which each number below n stands once

one_below : (n j : ℕ) → cond (nat_lt j (suc n)) 1 0 ≡ cond (nat_lt j n) 1 0 + cond (j == n) 1 0
one_below n j = by_order (three_ways j n)
  where
    by_order : (j < n) ⊎ ((n < j) ⊎ (j ≡ n)) → cond (nat_lt j (suc n)) 1 0 ≡ cond (nat_lt j n) 1 0 + cond (j == n) 1 0
    by_order (inl less) =
        ap (λ b. cond b 1 0) (lt-ltb j (suc n) (omega arith))
        ∙ ap₂ (λ b c. cond b 1 0 + cond c 1 0) (sym (lt-ltb j n less)) (sym (ne_eqb j n (λ e. omega arith)))
    by_order (inr (inr same)) =
        ap (λ b. cond b 1 0) (lt-ltb j (suc n) (omega arith))
        ∙ ap₂ (λ b c. cond b 1 0 + cond c 1 0) (sym (le-ltb j n (omega arith))) (sym (eq-eqb j n same))
    by_order (inr (inl more)) =
        ap (λ b. cond b 1 0) (le-ltb j (suc n) (omega arith))
        ∙ ap₂ (λ b c. cond b 1 0 + cond c 1 0) (sym (le-ltb j n (omega arith))) (sym (ne_eqb j n (λ e. omega arith)))

below_more : (n : ℕ) (xs : List ℕ) → count_by (λ j. nat_lt j (suc n)) xs ≡ count_by (λ j. nat_lt j n) xs + count_by (λ j. j == n) xs
below_more n [] = refl
below_more n (x ∷ xs) =
    let a = sum_by-cons (λ j. cond (nat_lt j (suc n)) 1 0) x xs in
    let b = sum_by-cons (λ j. cond (nat_lt j n) 1 0) x xs in
    let c = sum_by-cons (λ j. cond (j == n) 1 0) x xs in
    let rest = below_more n xs in
    let here = one_below n x in
    omega arith

none_below : (xs : List ℕ) → count_by (λ j. nat_lt j 0) xs ≡ 0
none_below [] = refl
none_below (x ∷ xs) = let a = sum_by-cons (λ j. cond (nat_lt j 0) 1 0) x xs in let rest = none_below xs in let here : cond {A = ℕ} (nat_lt x 0) 1 0 ≡ 0 = ap (λ b. cond b 1 0) (le-ltb x 0 (omega arith)) in omega arith

many_below : (n : ℕ) (xs : List ℕ) → ((i : ℕ) → i < n → count_by (λ j. j == i) xs ≡ 1) → count_by (λ j. nat_lt j n) xs ≡ n
many_below zero xs once = none_below xs
many_below (suc n) xs once = let a = below_more n xs in let b = many_below n xs (λ i h. once i (omega arith)) in let c = once n (omega arith) in omega arith

all_below : (n : ℕ) (xs : List ℕ) → AllByRecursion (λ i. i < n) xs → count_by (λ j. nat_lt j n) xs ≡ length xs
all_below n [] h = refl
all_below n (x ∷ xs) h = let a = sum_by-cons (λ j. cond (nat_lt j n) 1 0) x xs in let rest = all_below n xs h.1 in let here : cond {A = ℕ} (nat_lt x n) 1 0 ≡ 1 = ap (λ b. cond b 1 0) (lt-ltb x n h.0) in omega arith

pub numbers_long : (n k : ℕ) (words : Words) → IsPartition n k words → length (all_numbers words) ≡ n
numbers_long n k words is = sym (all_below n (all_numbers words) is.no_other) ∙ many_below n (all_numbers words) is.each_once

-- each word has a number
few_by_numbers : (k : ℕ) (words : Words) → AllByRecursion (λ w. (1 ≤ length w) × (length w ≤ k)) words → length words ≤ length (all_numbers words)
few_by_numbers k [] h = omega arith
few_by_numbers k (w ∷ words) h = let rest = few_by_numbers k words h.1 in let some = h.0.0 in let both = length-append w (all_numbers words) in omega arith

pub few_words : (n k : ℕ) (words : Words) → IsPartition n k words → length words ≤ n
few_words n k words is = let a = few_by_numbers k words is.lengths in let b = numbers_long n k words is in omega arith

pub no_words : (n k : ℕ) (words : Words) → IsPartition n k words → words ≡ [] → n ≡ 0
no_words n k words is none = sym (numbers_long n k words is) ∙ ap (λ (ws : Words). length (all_numbers ws)) none

pub short_words : (n k : ℕ) (words : Words) → IsPartition n k words → AllByRecursion (λ w. length w ≤ k) words
short_words n k words is = each words is.lengths
  where
    each : (ws : Words) → AllByRecursion (λ w. (1 ≤ length w) × (length w ≤ k)) ws → AllByRecursion (λ w. length w ≤ k) ws
    each [] h = tt
    each (w ∷ ws) h = (h.0.1, each ws h.1)

-- ---- latches

pub summed : (code : Code) (words : Words) → latches_of_words code words ≡ length (all_numbers words) + length words * code.columns
summed code [] = let z : 0 ≡ 0 + 0 * code.columns = omega arith in z
summed code (w ∷ words) =
    let a = sum_by-cons (λ v. length v + code.columns) w words in
    let rest = summed code words in
    let both = length-append w (all_numbers words) in
    let times : suc (length words) * code.columns ≡ code.columns + length words * code.columns = grind arith in
    omega arith

pub few_latches : (code : Code) (n : ℕ) (words : Words) → IsPartition n (data_places code) words → code.columns ≤ 16 → n ≤ 4096 → latches_of_words code words ≤ 69632
few_latches code n words is narrow few =
    let a = summed code words in
    let b = numbers_long n (data_places code) words is in
    let c = few_words n (data_places code) words is in
    let d : length words * code.columns ≤ 4096 * 16 = most (length words) code.columns (omega arith) narrow in
    omega arith
  where
    most : (x y : ℕ) → x ≤ 4096 → y ≤ 16 → x * y ≤ 4096 * 16
    most x y h k = omega (arith, mul-le-mul_left x k)

pub codewords_long : (code : Code) → IsCode code → (bits : Bits) (words : Words) → length (codewords code words bits) ≡ latches_of_words code words
codewords_long code is_code bits [] = refl
codewords_long code is_code bits (w ∷ words) =
    length-append (encoded code (bits_at w bits)) (codewords code words bits)
    ∙ ap₂ (λ (a b : ℕ). a + b) (length_encoded code is_code (bits_at w bits) ∙ ap (λ (n : ℕ). n + code.columns) (length-map w (λ i. get_or bits i false))) (codewords_long code is_code bits words)
    ∙ sym (sum_by-cons (λ v. length v + code.columns) w words)

-- ---- labels of places

places_from_long : (label : ℕ → ℕ → Label) (columns a : ℕ) (words : Words) → length (flat_map (λ (word : ℕ × List ℕ). map (label word.0) (range_with_len 0 (length word.1 + columns))) (enumerate_from a words)) ≡ sum_by (λ w. length w + columns) words
places_from_long label columns a [] = refl
places_from_long label columns a (w ∷ words) =
    let s = sum_by-cons (λ v. length v + columns) w words in
    let here = length-map-range_with_len (label a) 0 (length w + columns) in
    let rest = places_from_long label columns (a + 1) words in
    let both = length-append (map (label a) (range_with_len 0 (length w + columns))) (flat_map (λ (word : ℕ × List ℕ). map (label word.0) (range_with_len 0 (length word.1 + columns))) (enumerate_from (a + 1) words)) in
    omega arith

pub places_long : (label : ℕ → ℕ → Label) (code : Code) (words : Words) → length (word_labels label (λ w. length w + code.columns) words) ≡ latches_of_words code words
places_long label code words = places_from_long label code.columns 0 words

checks_from_long : (label : ℕ → ℕ → Label) (columns a : ℕ) (words : Words) → length (flat_map (λ (word : ℕ × List ℕ). map (label word.0) (range_with_len 0 columns)) (enumerate_from a words)) ≡ length words * columns
checks_from_long label columns a [] = let z : 0 ≡ 0 * columns = omega arith in z
checks_from_long label columns a (w ∷ words) =
    let here = length-map-range_with_len (label a) 0 columns in
    let rest = checks_from_long label columns (a + 1) words in
    let both = length-append (map (label a) (range_with_len 0 columns)) (flat_map (λ (word : ℕ × List ℕ). map (label word.0) (range_with_len 0 columns)) (enumerate_from (a + 1) words)) in
    let times : suc (length words) * columns ≡ columns + length words * columns = grind arith in
    omega arith

pub checks_long : (label : ℕ → ℕ → Label) (columns : ℕ) (words : Words) → length (word_labels label (λ w. columns) words) ≡ length words * columns
checks_long label columns words = checks_from_long label columns 0 words
