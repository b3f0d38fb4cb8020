-- One more bit among bits that are packed.
use Rattle.std.proofs.Common.{◌≡◌, ◌≢◌, ◌<◌, ◌≤◌, ◌+◌, ◌-◌, ◌*◌, ◌/◌, ◌%◌, ◌^◌, ℕ, zero, suc, Bool, true, false, cond, List, [], ◌∷◌, ◌++◌, length, get_or, set, refl, sym, ap, ◌∙◌, arith, take, drop, length-append, length-drop, length-set, get_or-set_same, get_or-set_other}
use Rattle.std.specs.Prelude.{◌==◌, slice_range}
use Rattle.std.specs.Int.{bit_at}
use Rattle.std.proofs.lemmas.List.{ext_get_or, get_or-take, get_or-drop, length-take-le}
use Rattle.std.proofs.lemmas.Nat.Bits.{bit_at_above, bit_at_cat_low, bit_at_cat_high}
use Rattle.std.proofs.lemmas.List.FromFn.{length-map-range_with_len, get_or-map-range_with_len, map-range_with_len_more, fill_by_all}
use Rattle.std.proofs.lemmas.Grind.{get_or_default_zero}
use Rattle.std.proofs.Math.Nat.{pow-suc}
use Rattle.std.proofs.Math.ListN.{get_or-eq_default}
use Rattle.netlist_spec.specs.Covers.{has_bit}
use Rattle.sim_text.specs.Packed.{packed_bit, unpacked, IsPacked}

-- as many bits as there are
pub unpacked_length : (len : ℕ) (bytes : List ℕ) → length (unpacked len bytes) ≡ len
unpacked_length len bytes = length-map-range_with_len (packed_bit bytes) 0 len

pub unpacked_at : (len : ℕ) (bytes : List ℕ) (i : ℕ) → i < len → get_or (unpacked len bytes) i false ≡ packed_bit bytes i
unpacked_at len bytes i h = get_or-map-range_with_len (packed_bit bytes) 0 len i i false h (omega arith)

-- a byte of 0 at the end is what is read there already
zero_behind : (bytes : List ℕ) (j : ℕ) → get_or (bytes ++ 0 ∷ []) j 0 ≡ get_or bytes j 0
zero_behind [] zero = refl
zero_behind [] (suc j) = refl
zero_behind (b ∷ bytes) zero = refl
zero_behind (b ∷ bytes) (suc j) = zero_behind bytes j

-- the byte with this bit at this place
abbrev pub with_bit : ℕ → ℕ → Bool → ℕ
with_bit byte place bit = cond bit (byte + 2 ^ place) byte

bit_below : (byte place j : ℕ) (bit : Bool) → j < place → has_bit (with_bit byte place bit) j ≡ has_bit byte j
bit_below byte place j false h = refl
bit_below byte place j true h =
    let e : byte + 2 ^ place ≡ 1 * 2 ^ place + byte = omega arith in
    ap (λ b. b == 1) (ap (λ n. bit_at n j) e ∙ bit_at_cat_low 1 place byte j h)

bit_here : (byte place : ℕ) (bit : Bool) → byte < 2 ^ place → has_bit (with_bit byte place bit) place ≡ bit
bit_here byte place false h = ap (λ b. b == 1) (bit_at_above byte place place h (omega arith))
bit_here byte place true h =
    let e : byte + 2 ^ place ≡ 1 * 2 ^ place + byte = omega arith in
    let first : place - place ≡ 0 = omega arith in
    ap (λ b. b == 1) (ap (λ n. bit_at n place) e ∙ (bit_at_cat_high 1 place byte place h (omega arith) ∙ ap (bit_at 1) first))

rest_more : (byte place : ℕ) (bit : Bool) → byte < 2 ^ place → with_bit byte place bit < 2 ^ suc place
rest_more byte place false h = let e = pow-suc 2 place in omega (arith, e, h)
rest_more byte place true h = let e = pow-suc 2 place in omega (arith, e, h)

-- The bytes among which the next bit has its byte.
pub record IsReady (len : ℕ) (old bytes : List ℕ) : Type 0 where
  pub same : (j : ℕ) → get_or bytes j 0 ≡ get_or old j 0
  pub whole : length bytes ≡ len / 8 + 1

pub ready_new : (len : ℕ) (old bytes : List ℕ) → IsPacked len old → len % 8 ≡ 0 → bytes ≡ old ++ 0 ∷ [] → IsReady len old bytes
ready_new len old bytes is h e = record {
  same = λ j. ap (λ bs. get_or bs j 0) e ∙ zero_behind old j;
  whole = let w = is.whole in let long = ap length e ∙ length-append old (0 ∷ []) in omega (arith, w, long, h);
}

pub ready_old : (len : ℕ) (old bytes : List ℕ) → IsPacked len old → len % 8 ≢ 0 → bytes ≡ old → IsReady len old bytes
ready_old len old bytes is h e = record {
  same = λ j. ap (λ bs. get_or bs j 0) e;
  whole = let w = is.whole in let long = ap length e in omega (arith, w, long, h);
}

-- the bits before the next one stay
stays : (len : ℕ) (old bytes : List ℕ) (bit : Bool) (value i : ℕ) → IsReady len old bytes → value ≡ with_bit (get_or bytes (len / 8) 0) (len % 8) bit → i < len → packed_bit (set bytes (len / 8) value) i ≡ packed_bit old i
stays len old bytes bit value i ready v inside = go (i / 8 == len / 8) refl
  where
    go : (b : Bool) → (i / 8 == len / 8) ≡ b → packed_bit (set bytes (len / 8) value) i ≡ packed_bit old i
    go true e =
        let same : i / 8 ≡ len / 8 = grind (arith, e) in
        let below : i % 8 < len % 8 = omega (arith, same, inside) in
        let there : len / 8 < length bytes = let w = ready.whole in omega (arith, w) in
        let byte = ap (λ k. get_or (set bytes (len / 8) value) k 0) same ∙ (get_or-set_same bytes (len / 8) value 0 there ∙ v) in
        ap (λ b. has_bit b (i % 8)) byte
        ∙ (bit_below (get_or bytes (len / 8) 0) (len % 8) (i % 8) bit below
        ∙ ap (λ b. has_bit b (i % 8)) (ready.same (len / 8) ∙ ap (λ k. get_or old k 0) (sym same)))
    go false e =
        let other : i / 8 ≢ len / 8 = grind (arith, e) in
        ap (λ b. has_bit b (i % 8)) (get_or-set_other bytes (len / 8) (i / 8) value 0 other ∙ ready.same (i / 8))

value_there : (len : ℕ) (old bytes : List ℕ) (value : ℕ) → IsReady len old bytes → get_or (set bytes (len / 8) value) (len / 8) 0 ≡ value
value_there len old bytes value ready =
    let there : len / 8 < length bytes = let w = ready.whole in omega (arith, w) in
    get_or-set_same bytes (len / 8) value 0 there

rest_of : (len : ℕ) (old bytes : List ℕ) → IsPacked len old → IsReady len old bytes → get_or bytes (len / 8) 0 < 2 ^ (len % 8)
rest_of len old bytes is ready = let same = ready.same (len / 8) in let rest = is.rest in omega (arith, same, rest)

-- one more bit
unpacked_more : (len : ℕ) (old bytes : List ℕ) (bit : Bool) (value : ℕ) → IsPacked len old → IsReady len old bytes → value ≡ with_bit (get_or bytes (len / 8) 0) (len % 8) bit → unpacked (len + 1) (set bytes (len / 8) value) ≡ unpacked len old ++ bit ∷ []
unpacked_more len old bytes bit value is ready v =
    let new = set bytes (len / 8) value in
    let before : unpacked len new ≡ unpacked len old = fill_by_all (packed_bit old) (unpacked len new) len false (unpacked_length len new) (λ k h. unpacked_at len new k h ∙ stays len old bytes bit value k ready v h) in
    let last : packed_bit new len ≡ bit = ap (λ b. has_bit b (len % 8)) (value_there len old bytes value ready ∙ v) ∙ bit_here (get_or bytes (len / 8) 0) (len % 8) bit (rest_of len old bytes is ready) in
    map-range_with_len_more (packed_bit new) 0 len len (omega arith) ∙ (ap (λ bs. bs ++ packed_bit new len ∷ []) before ∙ ap (λ b. unpacked len old ++ b ∷ []) last)

rest_behind : (len : ℕ) (old bytes : List ℕ) (bit : Bool) (value : ℕ) → IsPacked len old → IsReady len old bytes → value ≡ with_bit (get_or bytes (len / 8) 0) (len % 8) bit → get_or (set bytes (len / 8) value) ((len + 1) / 8) 0 < 2 ^ ((len + 1) % 8)
rest_behind len old bytes bit value is ready v = go (len % 8 == 7) refl
  where
    go : (b : Bool) → (len % 8 == 7) ≡ b → get_or (set bytes (len / 8) value) ((len + 1) / 8) 0 < 2 ^ ((len + 1) % 8)
    go true e =
        let full : len % 8 ≡ 7 = grind (arith, e) in
        let next : (len + 1) / 8 ≡ len / 8 + 1 = omega (arith, full) in
        let first : (len + 1) % 8 ≡ 0 = omega (arith, full) in
        let long : length (set bytes (len / 8) value) ≤ (len + 1) / 8 = let w = ready.whole in let s = length-set bytes (len / 8) value in omega (arith, w, s, next) in
        let none = get_or-eq_default (set bytes (len / 8) value) 0 long in
        rw (none, first) (omega arith)
    go false e =
        let room : len % 8 ≢ 7 = grind (arith, e) in
        let same : (len + 1) / 8 ≡ len / 8 = omega (arith, room) in
        let more : (len + 1) % 8 ≡ suc (len % 8) = omega (arith, room) in
        let there = value_there len old bytes value ready ∙ v in
        rw (same, more, there) (rest_more (get_or bytes (len / 8) 0) (len % 8) bit (rest_of len old bytes is ready))

packed_more : (len : ℕ) (old bytes : List ℕ) (bit : Bool) (value : ℕ) → IsPacked len old → IsReady len old bytes → value ≡ with_bit (get_or bytes (len / 8) 0) (len % 8) bit → IsPacked (len + 1) (set bytes (len / 8) value)
packed_more len old bytes bit value is ready v = record {
  whole = let w = ready.whole in let s = length-set bytes (len / 8) value in omega (arith, w, s);
  rest = rest_behind len old bytes bit value is ready v;
}

-- the bytes that a push leaves
pub pushed : (len : ℕ) (old bytes : List ℕ) (bit : Bool) (byte value : ℕ) → IsPacked len old → IsReady len old bytes → byte ≡ get_or bytes (len / 8) byte → value ≡ with_bit byte (len % 8) bit
    → IsPacked (len + 1) (set bytes (len / 8) value) × (unpacked (len + 1) (set bytes (len / 8) value) ≡ unpacked len old ++ bit ∷ [])
pushed len old bytes bit byte value is ready read v =
    let there : len / 8 < length bytes = let w = ready.whole in omega (arith, w) in
    let at_zero : byte ≡ get_or bytes (len / 8) 0 = read ∙ get_or_default_zero bytes (len / 8) byte there in
    let made = v ∙ ap (λ b. with_bit b (len % 8) bit) at_zero in
    (packed_more len old bytes bit value is ready made, unpacked_more len old bytes bit value is ready made)

-- a part of the bits, copied one by one
pub copied : (xs ys : List Bool) (start n : ℕ) → length xs ≡ n → start + n ≤ length ys → ((k : ℕ) → k < n → get_or xs k false ≡ get_or ys (start + k) false) → xs ≡ slice_range ys start (start + n)
copied xs ys start n long inside each =
    let part = drop start ys in
    let rest : length part ≡ length ys - start = length-drop start ys in
    let width : start + n - start ≡ n = omega arith in
    let all : length (take n part) ≡ n = length-take-le n part (omega (arith, rest, inside)) in
    ext_get_or false xs (take n part) (long ∙ sym all) (λ k h. let below : k < n = omega (arith, h, long) in each k below ∙ sym (get_or-take n part k false below ∙ get_or-drop start ys k false))
    ∙ ap (λ w. take w part) (sym width)
