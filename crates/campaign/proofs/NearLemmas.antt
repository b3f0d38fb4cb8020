-- How far apart two words are, by the number of their sum.
use Rattle.std.proofs.Common.{drop, get_or, ◌≡◌, refl, sym, ◌∙◌, ap, ap₂, subst, ℕ, suc, ◌+◌, ◌*◌, ◌%◌, ◌^◌, ◌<◌, ◌≤◌, List, [], ◌∷◌, ◌++◌, length, Bool, true, false, cond, arith}
use mir.Val.{bool_byte}
use Rattle.std.specs.Int.RustNames.{bit_or, bit_xor}
use Rattle.std.proofs.lemmas.Nat.{xor_lt}
use Rattle.std.proofs.lemmas.List.{length-map}
use Rattle.netlist_spec.specs.Covers.{differ, number_of}
use Rattle.netlist_spec.specs.SourceRun.{Bits}
use Rattle.guard_spec.specs.Words.{bits_at}
use Rattle.guard_spec.specs.Codes.{Code, encoded, bits_of, sum_of, weight, apart}
use Rattle.encode_state.proofs.ListedLemmas.{drop_less}
use Rattle.block_code.proofs.Coding.{ones, weight_ones}
use Rattle.block_code.proofs.Words.{bits_xor, bits_joined, bits_number, joined_below, joined_or, number_below, length_bits}

ones_sum : (a b : Bits) → length a ≡ length b → ones (sum_of a b) ≡ apart a b
ones_sum [] [] e = refl
ones_sum [] (y ∷ ys) e = absurd (omega (arith, e))
ones_sum (x ∷ xs) [] e = absurd (omega (arith, e))
ones_sum (x ∷ xs) (y ∷ ys) e = ap (λ (n : ℕ). cond (differ x y) 1 0 + n) (ones_sum xs ys (omega (arith, e)))

-- the weight of the sum of two words is the number of places in which they differ
pub weight_sum : (a b : Bits) → length a ≡ length b → weight (sum_of a b) ≡ apart a b
weight_sum a b e = weight_ones (sum_of a b) ∙ ones_sum a b e

-- The bits of two parts that are joined by a shift and an `|`.
pub joined_bits : (low high : Bits) (m r : ℕ) → length low ≡ m → length high ≡ r → m + r ≤ 32
    → bits_of (m + r) (bit_or (number_of high * 2 ^ m % 2 ^ 32) (number_of low)) ≡ low ++ high
joined_bits low high m r e f short =
    let under : number_of low < 2 ^ m = subst (λ (k : ℕ). number_of low < 2 ^ k) e (number_below low) in
    let over : number_of high < 2 ^ r = subst (λ (k : ℕ). number_of high < 2 ^ k) f (number_below high) in
    ap (bits_of (m + r)) (joined_or m r (number_of high) (number_of low) short over under)
    ∙ (bits_joined m r (number_of high) (number_of low) under
    ∙ ap₂ (λ (a b : Bits). a ++ b) (subst (λ (k : ℕ). bits_of k (number_of low) ≡ low) e (bits_number low)) (subst (λ (k : ℕ). bits_of k (number_of high) ≡ high) f (bits_number high)))

pub joined_small : (low high : Bits) (m r : ℕ) → length low ≡ m → length high ≡ r → m + r ≤ 32 → bit_or (number_of high * 2 ^ m % 2 ^ 32) (number_of low) < 2 ^ (m + r)
joined_small low high m r e f short =
    let under : number_of low < 2 ^ m = subst (λ (k : ℕ). number_of low < 2 ^ k) e (number_below low) in
    let over : number_of high < 2 ^ r = subst (λ (k : ℕ). number_of high < 2 ^ k) f (number_below high) in
    subst (λ (n : ℕ). n < 2 ^ (m + r)) (sym (joined_or m r (number_of high) (number_of low) short over under)) (joined_below m r (number_of high) (number_of low) over under)

-- The weight of the sum of two numbers, as the number of places in which their bits differ.
pub weight_apart : (places x y w : ℕ) (a b : Bits) → bits_of places x ≡ a → bits_of places y ≡ b → x < 2 ^ places → y < 2 ^ places
    → ((n : ℕ) → bit_xor x y < 2 ^ n → w ≡ weight (bits_of n (bit_xor x y))) → w ≡ apart a b
weight_apart places x y w a b e f small below is =
    is places (xor_lt places x y small below)
    ∙ (ap weight (bits_xor places x y)
    ∙ (weight_sum (bits_of places x) (bits_of places y) (length_bits places x ∙ sym (length_bits places y))
    ∙ ap₂ (λ (p q : Bits). apart p q) e f))

-- the number of some bits, and of one more before them
pub bit_before : (bits : Bits) (i j n b : ℕ) → i ≡ suc j → j < length bits → n ≡ number_of (drop i bits) → b ≡ cond (get_or bits j false) 1 0 → n * 2 + b ≡ number_of (drop j bits)
bit_before bits i j n b e h is bit = rw (drop_less bits i j false e h) (omega (arith, is, bit))

pub byte_is : (b : Bool) → bool_byte b ≡ cond b 1 0
byte_is true = refl
byte_is false = refl

places_of : (word : List ℕ) (bits : Bits) → length (bits_at word bits) ≡ length word
places_of word bits = length-map word (λ i. get_or bits i false)

pub small_number : (word : List ℕ) (bits : Bits) (n : ℕ) → n ≡ number_of (bits_at word bits) → n < 2 ^ length word
small_number word bits n e =
    subst (λ (k : ℕ). k < 2 ^ length word) (sym e) (subst (λ (k : ℕ). number_of (bits_at word bits) < 2 ^ k) (places_of word bits) (number_below (bits_at word bits)))

-- the weight that is taken of an output word and of the codeword
pub near_word : (code : Code) (word : List ℕ) (y z checks : Bits) (u hi lo wanted w : ℕ) → length checks ≡ code.columns → length word + code.columns ≤ 32
    → u ≡ number_of (bits_at word y) → hi ≡ number_of checks → lo ≡ number_of (bits_at word z)
    → bits_of (length word + code.columns) wanted ≡ encoded code (bits_of (length word) u) → wanted < 2 ^ (length word + code.columns)
    → ((n : ℕ) → bit_xor (bit_or (hi * 2 ^ length word % 2 ^ 32) lo) wanted < 2 ^ n → w ≡ weight (bits_of n (bit_xor (bit_or (hi * 2 ^ length word % 2 ^ 32) lo) wanted)))
    → w ≡ apart (bits_at word z ++ checks) (encoded code (bits_at word y))
near_word code word y z checks u hi lo wanted w long short is_u is_hi is_lo e below is =
    let m = length word in
    let r = code.columns in
    let shown = bit_or (hi * 2 ^ m % 2 ^ 32) lo in
    let same : bit_or (number_of checks * 2 ^ m % 2 ^ 32) (number_of (bits_at word z)) ≡ shown = ap₂ (λ (a b : ℕ). bit_or (a * 2 ^ m % 2 ^ 32) b) (sym is_hi) (sym is_lo) in
    let spelled : bits_of m u ≡ bits_at word y = ap (bits_of m) is_u ∙ subst (λ (k : ℕ). bits_of k (number_of (bits_at word y)) ≡ bits_at word y) (places_of word y) (bits_number (bits_at word y)) in
    weight_apart (m + r) shown wanted w (bits_at word z ++ checks) (encoded code (bits_at word y))
    (ap (bits_of (m + r)) (sym same) ∙ joined_bits (bits_at word z) checks m r (places_of word z) long short)
    (e ∙ ap (encoded code) spelled)
    (subst (λ (k : ℕ). k < 2 ^ (m + r)) same (joined_small (bits_at word z) checks m r (places_of word z) long short))
    below is
