-- The places of a row as numbers, gathered from the first place on.
use Rattle.std.proofs.Common.{◌≡◌, ◌≢◌, ℕ, ◌+◌, ◌*◌, ◌^◌, ◌%◌, ◌<◌, ◌≤◌, List, [], ◌∷◌, ◌++◌, length, map, take, get_or, true, false, None, Some, ap, sym, subst, ◌∙◌, refl, arith, lit<, lit≤}
use Rattle.std.specs.Prelude.{◌==◌}
use Rattle.std.proofs.lemmas.Bool.Decides.{nat_tests}
use Rattle.std.proofs.lemmas.List.{length-map, length-take-le, map_more}
use Rattle.std.proofs.Math.Pow.{pow_mono}
use Rattle.std.proofs.Math.Nat.{pow-succ'}
use Rattle.netlist_spec.specs.Statements.{Cell}
use Rattle.netlist_spec.specs.Reads.{care_bit, value_bit, number_by}
use Rattle.netlist_spec.specs.Said.{char_cell}

pub small-care : (c : Cell) → care_bit c ≤ 1
small-care None = lit≤ tt
small-care (Some b) = lit≤ tt

pub small-value : (c : Cell) → value_bit c ≤ 1
small-value None = lit≤ tt
small-value (Some false) = lit≤ tt
small-value (Some true) = lit≤ tt

pub number-below : (f : Cell → ℕ) → ((c : Cell) → f c ≤ 1) → (cells : List Cell) → number_by f cells < 2 ^ length cells
number-below f small [] = lit< tt
number-below f small (c ∷ cs) =
    let h = number-below f small cs in
    let s = small c in
    rw (pow-succ' 2 (length cs)) (omega arith)

pub number-push : (f : Cell → ℕ) (cells : List Cell) (c : Cell) → number_by f (cells ++ c ∷ []) ≡ number_by f cells + 2 ^ length cells * f c
number-push f [] c = omega arith
number-push f (d ∷ cs) c =
    let h = number-push f cs c in
    rw (pow-succ' 2 (length cs)) (omega arith)

-- a place's bit, which fits 16 bits
bit-is : (i : ℕ) → i < 16 → (1 * 2 ^ i) % 65536 ≡ 2 ^ i
bit-is i h = let small : 2 ^ i ≤ 2 ^ 15 = pow_mono {i = i} {j = 15} (omega arith) in omega arith

cells-long : (cells : List ℕ) (i : ℕ) → i < length cells → length (map char_cell (take i cells)) ≡ i
cells-long cells i h = length-map (take i cells) char_cell ∙ length-take-le i cells (omega arith)

pub cell-fits : (f : Cell → ℕ) → ((c : Cell) → f c ≤ 1) → (cells : List ℕ) (i n : ℕ) → length cells ≤ 16 → i < length cells → n ≡ number_by f (map char_cell (take i cells)) → n + (1 * 2 ^ i) % 65536 < 65536
cell-fits f small cells i n few h is =
    let below = number-below f small (map char_cell (take i cells)) in
    let low = subst (λ (k : ℕ). number_by f (map char_cell (take i cells)) < 2 ^ k) (cells-long cells i h) below in
    let most : 2 ^ i ≤ 2 ^ 15 = pow_mono {i = i} {j = 15} (omega arith) in
    omega (arith, bit-is i (omega arith))

pub cell-next : (f : Cell → ℕ) (cells : List ℕ) (i n m b : ℕ) → i < length cells → n ≡ number_by f (map char_cell (take i cells)) → f (char_cell (get_or cells i 0)) ≡ b → m ≡ n + 2 ^ i * b → m ≡ number_by f (map char_cell (take (i + 1) cells))
cell-next f cells i n m b h was bit is =
    let cs = map char_cell (take i cells) in
    is ∙ ap (λ (k : ℕ). k + 2 ^ i * b) was ∙ ap (λ (k : ℕ). number_by f cs + 2 ^ i * k) (sym bit)
    ∙ ap (λ (k : ℕ). number_by f cs + 2 ^ k * f (char_cell (get_or cells i 0))) (sym (cells-long cells i h))
    ∙ sym (number-push f cs (char_cell (get_or cells i 0)))
    ∙ ap (number_by f) (sym (map_more char_cell cells i 0 h))

-- with the bit of the place
pub cell-one : (f : Cell → ℕ) (cells : List ℕ) (i n m : ℕ) → length cells ≤ 16 → i < length cells → n ≡ number_by f (map char_cell (take i cells)) → f (char_cell (get_or cells i 0)) ≡ 1 → m ≡ n + (1 * 2 ^ i) % 65536 → m ≡ number_by f (map char_cell (take (i + 1) cells))
cell-one f cells i n m few h was bit is = cell-next f cells i n m 1 h was bit (omega (arith, is, bit-is i (omega arith)))

-- without it
pub cell-none : (f : Cell → ℕ) (cells : List ℕ) (i n m : ℕ) → i < length cells → n ≡ number_by f (map char_cell (take i cells)) → f (char_cell (get_or cells i 0)) ≡ 0 → m ≡ n → m ≡ number_by f (map char_cell (take (i + 1) cells))
cell-none f cells i n m h was bit is = cell-next f cells i n m 0 h was bit (omega (arith, is))

pub other-char : (c : ℕ) → c ≢ 48 → c ≢ 49 → char_cell c ≡ None
other-char c h k =
    let zero : (c == 48) ≡ false = grind (arith, nat_tests) in
    let one : (c == 49) ≡ false = grind (arith, nat_tests) in
    rw (zero, one) refl
