-- Words as numbers: the bits of sums, of shifted and of joined numbers, and the number of ones.
use Rattle.std.proofs.Common.{◌≡◌, refl, sym, ◌∙◌, ap, ap₂, subst, ℕ, zero, suc, ◌+◌, ◌*◌, ◌/◌, ◌%◌, ◌^◌, ◌<◌, ◌≤◌, List, [], ◌∷◌, ◌++◌, length, map, take, get_or, All, Bool, true, false, cond, eqb, ◌⊎◌, inl, inr, arith, add-one, zero-add}
use Rattle.std.specs.List.{range_with_len}
use Rattle.std.specs.Int.{bit_at}
use Rattle.std.specs.Int.RustNames.{bit_and, bit_or, bit_xor, count_ones}
use Rattle.std.proofs.lemmas.Nat.{pow-add, mul-add-lt, shr-shr, shr_high, shl_whole, or_shifted, xor_shr, xor_lt, ones_cat, zero_from_ones, ones_le_self}
use Rattle.std.proofs.Math.Nat.{pow-suc, eq-zero-or-pos}
use Rattle.std.proofs.lemmas.Nat.Bits.{bit_at-suc, bit_at-lt, bit_at_xor, bit_at_cat_low, shr_and_one}
use Rattle.std.proofs.lemmas.List.{map_more, length-map, length-take-le}
use Rattle.std.proofs.lemmas.List.FromFn.{fill_by_all, length-map-range_with_len, get_or-map-range_with_len, map-range_with_len_more}
use Rattle.netlist_spec.specs.Covers.{differ, has_bit, number_of}
use Rattle.netlist_spec.specs.SourceRun.{Bits}
use Rattle.guard_spec.specs.Codes.{bits_of, zeros, sum_of, checks_by, weight}
use Rattle.block_code.proofs.Coding.{ones, weight_ones, sum_zeros_right, checks_push}

pub length_bits : (w n : ℕ) → length (bits_of w n) ≡ w
length_bits w n = length-map-range_with_len (λ i. has_bit n i) 0 w

-- A number has its lowest bit first, and then the bits of its half.

bits_from : (a w n : ℕ) → map (λ i. has_bit n i) (range_with_len (a + 1) w) ≡ map (λ i. has_bit (n / 2) i) (range_with_len a w)
bits_from a zero n = refl
bits_from a (suc w) n = ap₂ (λ (b : Bool) (bs : Bits). b ∷ bs) (ap (λ (x : ℕ). eqb x 1) (ap (bit_at n) (add-one a) ∙ bit_at-suc n a)) (bits_from (a + 1) w n)

pub bits_step : (w n : ℕ) → bits_of (suc w) n ≡ has_bit n 0 ∷ bits_of w (n / 2)
bits_step w n = ap (λ (bs : Bits). has_bit n 0 ∷ bs) (bits_from 0 w n)

-- the bits of a sum

odd_sum : (x y : ℕ) → x < 2 → y < 2 → eqb ((x + y) % 2) 1 ≡ differ (eqb x 1) (eqb y 1)
odd_sum zero zero p q = refl
odd_sum zero (suc zero) p q = refl
odd_sum (suc zero) zero p q = refl
odd_sum (suc zero) (suc zero) p q = refl
odd_sum (suc (suc x)) y p q = absurd (omega arith)
odd_sum zero (suc (suc y)) p q = absurd (omega arith)
odd_sum (suc zero) (suc (suc y)) p q = absurd (omega arith)

has_bit-xor : (a b i : ℕ) → has_bit (bit_xor a b) i ≡ differ (has_bit a i) (has_bit b i)
has_bit-xor a b i = ap (λ (x : ℕ). eqb x 1) (bit_at_xor a b i) ∙ odd_sum (bit_at a i) (bit_at b i) (bit_at-lt a i) (bit_at-lt b i)

pub bits_xor : (w a b : ℕ) → bits_of w (bit_xor a b) ≡ sum_of (bits_of w a) (bits_of w b)
bits_xor zero a b = refl
bits_xor (suc w) a b =
    bits_step w (bit_xor a b)
    ∙ (ap₂ (λ (x : Bool) (bs : Bits). x ∷ bs) (has_bit-xor a b 0) (ap (bits_of w) (xor_shr a b 1) ∙ bits_xor w (a / 2) (b / 2))
    ∙ sym (ap₂ (λ (xs ys : Bits). sum_of xs ys) (bits_step w a) (bits_step w b)))

pub bits_zero : (w : ℕ) → bits_of w 0 ≡ zeros w
bits_zero zero = refl
bits_zero (suc w) = bits_step w 0 ∙ ap (λ (bs : Bits). false ∷ bs) (bits_zero w)

-- The bits of a number of m + r places are those of its first m places, and then those of the number shifted by m.
pub bits_split : (m r z : ℕ) → bits_of (m + r) z ≡ bits_of m z ++ bits_of r (z / 2 ^ m)
bits_split zero r z = ap₂ bits_of (zero-add r) (whole z)
  where
    whole : (n : ℕ) → n ≡ n / 2 ^ 0
    whole n = omega arith
bits_split (suc m) r z =
    ap (λ (n : ℕ). bits_of n z) (suc_first m r)
    ∙ (bits_step (m + r) z
    ∙ (ap (λ (bs : Bits). has_bit z 0 ∷ bs) (bits_split m r (z / 2) ∙ ap (λ (n : ℕ). bits_of m (z / 2) ++ bits_of r n) (shifted m z))
    ∙ ap (λ (bs : Bits). bs ++ bits_of r (z / 2 ^ suc m)) (sym (bits_step m z))))
  where
    suc_first : (n k : ℕ) → suc n + k ≡ suc (n + k)
    suc_first n k = omega arith

    shifted : (n k : ℕ) → k / 2 / 2 ^ n ≡ k / 2 ^ suc n
    shifted n k = shr-shr k 1 n ∙ ap (λ (x : ℕ). k / 2 ^ x) (one_more n)
      where
        one_more : (x : ℕ) → 1 + x ≡ suc x
        one_more x = omega arith

-- bits above the first m places change none of these
pub bits_low : (m hi u : ℕ) → bits_of m (hi * 2 ^ m + u) ≡ bits_of m u
bits_low m hi u =
    fill_by_all (λ i. has_bit u i) (bits_of m (hi * 2 ^ m + u)) m false (length_bits m (hi * 2 ^ m + u)) (λ k below.
    get_or-map-range_with_len (λ i. has_bit (hi * 2 ^ m + u) i) 0 m k k false below (zero-add k) ∙ ap (λ (x : ℕ). eqb x 1) (bit_at_cat_low hi m u k below))

pub bits_joined : (m r hi u : ℕ) → u < 2 ^ m → bits_of (m + r) (hi * 2 ^ m + u) ≡ bits_of m u ++ bits_of r hi
bits_joined m r hi u below =
    bits_split m r (hi * 2 ^ m + u) ∙ ap₂ (λ (a b : Bits). a ++ b) (bits_low m hi u) (ap (bits_of r) (shr_high hi m u below))

pub joined_below : (m r hi u : ℕ) → hi < 2 ^ r → u < 2 ^ m → hi * 2 ^ m + u < 2 ^ (m + r)
joined_below m r hi u high low = subst (λ (n : ℕ). hi * 2 ^ m + u < n) (turned ∙ sym (pow-add 2 m r)) (mul-add-lt hi (2 ^ m) u (2 ^ r) high low)
  where
    turned : 2 ^ m * 2 ^ r ≡ 2 ^ m * 2 ^ r
    turned = refl

-- what the shift and the `|` make at 32 bits
pub joined_or : (m r hi u : ℕ) → m + r ≤ 32 → hi < 2 ^ r → u < 2 ^ m → bit_or (hi * 2 ^ m % 2 ^ 32) u ≡ hi * 2 ^ m + u
joined_or m r hi u short high low = ap (λ (x : ℕ). bit_or x u) (shl_whole hi r m 32 high (omega arith)) ∙ or_shifted hi m u low

-- Bits and numbers go back and forth.

lowest : (x : ℕ) → x < 2 → cond (eqb x 1) 1 0 ≡ x
lowest zero h = refl
lowest (suc zero) h = refl
lowest (suc (suc x)) h = absurd (omega arith)

lowest_bit : (n : ℕ) → cond (has_bit n 0) 1 0 ≡ n % 2
lowest_bit n = lowest (bit_at n 0) (bit_at-lt n 0) ∙ ap (λ (x : ℕ). x % 2) (whole n)
  where
    whole : (k : ℕ) → k / 2 ^ 0 ≡ k
    whole k = omega arith

half_below : (w n : ℕ) → n < 2 ^ suc w → n / 2 < 2 ^ w
half_below w n h = let e = pow-suc 2 w in omega arith

pub number_bits : (w n : ℕ) → n < 2 ^ w → number_of (bits_of w n) ≡ n
number_bits zero n h = none (zero_only n h)
  where
    zero_only : (k : ℕ) → k < 2 ^ 0 → 0 ≡ k
    zero_only k q = omega arith

    none : 0 ≡ n → 0 ≡ n
    none e = e
number_bits (suc w) n h =
    ap number_of (bits_step w n)
    ∙ (ap₂ (λ (a b : ℕ). a + 2 * b) (lowest_bit n) (number_bits w (n / 2) (half_below w n h)) ∙ together n)
  where
    together : (k : ℕ) → k % 2 + 2 * (k / 2) ≡ k
    together k = omega arith

has_lowest : (b : Bool) (x : ℕ) → has_bit (cond b 1 0 + 2 * x) 0 ≡ b
has_lowest true x = ap (λ (k : ℕ). eqb k 1) (odd x)
  where
    odd : (k : ℕ) → (1 + 2 * k) / 2 ^ 0 % 2 ≡ 1
    odd k = omega arith
has_lowest false x = ap (λ (k : ℕ). eqb k 1) (even x)
  where
    even : (k : ℕ) → (0 + 2 * k) / 2 ^ 0 % 2 ≡ 0
    even k = omega arith

half_of : (b : Bool) (x : ℕ) → (cond b 1 0 + 2 * x) / 2 ≡ x
half_of true x = omega arith
half_of false x = omega arith

pub bits_number : (bs : Bits) → bits_of (length bs) (number_of bs) ≡ bs
bits_number [] = refl
bits_number (b ∷ bs) =
    bits_step (length bs) (number_of (b ∷ bs))
    ∙ ap₂ (λ (x : Bool) (xs : Bits). x ∷ xs) (has_lowest b (number_of bs)) (ap (bits_of (length bs)) (half_of b (number_of bs)) ∙ bits_number bs)

pub number_below : (bs : Bits) → number_of bs < 2 ^ length bs
number_below [] = omega arith
number_below (b ∷ bs) = below b (number_of bs) (length bs) (number_below bs)
  where
    below : (x : Bool) (n w : ℕ) → n < 2 ^ w → cond x 1 0 + 2 * n < 2 ^ suc w
    below true n w h = let e = pow-suc 2 w in omega arith
    below false n w h = let e = pow-suc 2 w in omega arith

pub same_number : (w a b : ℕ) → a < 2 ^ w → b < 2 ^ w → bits_of w a ≡ bits_of w b → a ≡ b
same_number w a b p q e = sym (number_bits w a p) ∙ (ap number_of e ∙ number_bits w b q)

-- The sum of rows at the places of a word: the first i rows, and then one more.

pub sum_none : (r : ℕ) (word : ℕ) → bits_of r 0 ≡ checks_by r [] (bits_of 0 word)
sum_none r word = bits_zero r

pub bits_push : (i n : ℕ) → bits_of (i + 1) n ≡ bits_of i n ++ has_bit n i ∷ []
bits_push i n = map-range_with_len_more (λ k. has_bit n k) 0 i i (zero-add i)

chosen_sum : (r sum row : ℕ) (b : Bool) → bits_of r (cond b (bit_xor sum row) sum) ≡ sum_of (bits_of r sum) (cond b (bits_of r row) (zeros r))
chosen_sum r sum row true = bits_xor r sum row
chosen_sum r sum row false = sum_zeros_right (bits_of r sum) r (length_bits r sum)

pub sum_more : (r i sum row word : ℕ) (rows : List ℕ) → i < length rows → row ≡ get_or rows i 0 → bits_of r sum ≡ checks_by r (map (bits_of r) (take i rows)) (bits_of i word) → bits_of r (cond (has_bit word i) (bit_xor sum row) sum) ≡ checks_by r (map (bits_of r) (take (i + 1) rows)) (bits_of (i + 1) word)
sum_more r i sum row word rows inside is so_far =
    let front = map (bits_of r) (take i rows) in
    let next = map_more (bits_of r) rows i 0 inside ∙ ap (λ (n : ℕ). front ++ bits_of r n ∷ []) (sym is) in
    let same : length front ≡ length (bits_of i word) = length-map (take i rows) (bits_of r) ∙ (length-take-le i rows (omega arith) ∙ sym (length_bits i word)) in
    chosen_sum r sum row (has_bit word i)
    ∙ (ap (λ (bs : Bits). sum_of bs (cond (has_bit word i) (bits_of r row) (zeros r))) so_far
    ∙ (sym (checks_push r front (bits_of r row) (length_bits r row) (bits_of i word) same (has_bit word i))
    ∙ sym (ap₂ (λ (a : List Bits) (b : Bits). checks_by r a b) next (bits_push i word))))

pub sum_within : (r i sum row word : ℕ) (rows : List ℕ) → i < length rows → row ≡ get_or rows i 0 → All (λ row. row < 2 ^ r) rows → sum < 2 ^ r → cond (has_bit word i) (bit_xor sum row) sum < 2 ^ r
sum_within r i sum row word rows inside is each below = chosen (has_bit word i)
  where
    chosen : (b : Bool) → cond b (bit_xor sum row) sum < 2 ^ r
    chosen true = xor_lt r sum row below (rw is (each i 0 inside))
    chosen false = below

-- what the test `word >> i & 1 == 1` chooses
set_bit : (x : ℕ) → x ≡ 1 → eqb x 1 ≡ true
set_bit x h = ap (λ (k : ℕ). eqb k 1) h

clear_bit : (x : ℕ) → x < 2 → (x ≡ 1 → ⊥) → eqb x 1 ≡ false
clear_bit zero h n = refl
clear_bit (suc zero) h n = absurd (n refl)
clear_bit (suc (suc x)) h n = absurd (omega arith)

pub chosen_where_set : (word i a b : ℕ) → bit_and (word / 2 ^ i) 1 ≡ 1 → a ≡ cond (has_bit word i) a b
chosen_where_set word i a b h = sym (ap (λ (t : Bool). cond t a b) (set_bit (bit_at word i) (sym (shr_and_one word i) ∙ h)))

pub chosen_where_clear : (word i a b : ℕ) → (bit_and (word / 2 ^ i) 1 ≡ 1 → ⊥) → b ≡ cond (has_bit word i) a b
chosen_where_clear word i a b h = sym (ap (λ (t : Bool). cond t a b) (clear_bit (bit_at word i) (bit_at-lt word i) (λ e. h (shr_and_one word i ∙ e))))

-- The weight of a word is the number of ones of its number.

pub ones_zero : count_ones 0 ≡ 0
ones_zero = omega (arith, ones_le_self 0)

pub ones_one : count_ones 1 ≡ 1
ones_one = by (eq-zero-or-pos (count_ones 1))
  where
    by : (count_ones 1 ≡ 0) ⊎ (0 < count_ones 1) → count_ones 1 ≡ 1
    by (inl e) = absurd (omega (arith, zero_from_ones 1 e))
    by (inr h) = omega (arith, ones_le_self 1)

ones_small : (x : ℕ) → x < 2 → count_ones x ≡ x
ones_small zero h = ones_zero
ones_small (suc zero) h = ones_one
ones_small (suc (suc x)) h = absurd (omega arith)

ones_half : (n : ℕ) → count_ones n ≡ n % 2 + count_ones (n / 2)
ones_half n =
    ap count_ones (parts n)
    ∙ (ones_cat 1 (n / 2) (n % 2) (rest n)
    ∙ (ap (λ (x : ℕ). count_ones (n / 2) + x) (ones_small (n % 2) (omega arith)) ∙ turned (count_ones (n / 2)) (n % 2)))
  where
    parts : (k : ℕ) → k ≡ k / 2 * 2 ^ 1 + k % 2
    parts k = omega arith

    rest : (k : ℕ) → k % 2 < 2 ^ 1
    rest k = omega arith

    turned : (x y : ℕ) → x + y ≡ y + x
    turned x y = omega arith

ones_bits : (w n : ℕ) → n < 2 ^ w → ones (bits_of w n) ≡ count_ones n
ones_bits zero n h = sym (ap count_ones (none n h) ∙ ones_zero)
  where
    none : (k : ℕ) → k < 2 ^ 0 → k ≡ 0
    none k q = omega arith
ones_bits (suc w) n h =
    ap ones (bits_step w n)
    ∙ (ap₂ (λ (a b : ℕ). a + b) (lowest_bit n) (ones_bits w (n / 2) (half_below w n h)) ∙ sym (ones_half n))

pub weight_bits : (w n : ℕ) → n < 2 ^ w → weight (bits_of w n) ≡ count_ones n
weight_bits w n h = weight_ones (bits_of w n) ∙ ones_bits w n h
