-- How many gates a rail takes.
use Rattle.std.proofs.Common.{◌≡◌, ◌∙◌, ap, refl, ℕ, zero, suc, ◌+◌, ◌*◌, ◌≤◌, Bool, true, false, cond, List, [], ◌∷◌, length, map, get_or, take, drop, sum_by, arith, Some, slice_get}
use Rattle.std.specs.List.{AllByRecursion, enumerate_from, flat_map}
use Rattle.std.proofs.lemmas.List.{length-append}
use Rattle.std.proofs.lemmas.List.Sums.{sum_by-cons}
use Rattle.netlist_spec.specs.SourceRun.{Bits}
use Rattle.guard_spec.specs.Codes.{Code, weight}
use Rattle.guard_spec.specs.Plain.{ones}
use Rattle.block_code.proofs.Coding.{weight_ones, ones as set_bits}
use Rattle.gate_net.specs.Words.{WordNets}
use Rattle.predictor.proofs.Checks.{chosen_roots, one_root, first_root}
use Rattle.predictor.specs.Columns.{column_roots}
use Rattle.alarm_rails.specs.Rail.{FitsCode}
use Rattle.alarm_rails.specs.Syndromes.{syndrome_bits}
use Rattle.alarm_rails.proofs.Alarms.{cells, cells_append}

-- the places that n columns from column `a` on choose
abbrev all_chosen : List Bits → List ℕ → ℕ → ℕ → ℕ
all_chosen rows places a zero = 0
all_chosen rows places a (suc n) = length (chosen_roots rows a places) + all_chosen rows places (suc a) n

-- the ones of a row in these columns
abbrev row_ones : Bits → ℕ → ℕ → ℕ
row_ones row a zero = 0
row_ones row a (suc n) = cond (get_or row a false) 1 0 + row_ones row (suc a) n

ones_from : (row : Bits) (a : ℕ) → cond (get_or row a false) 1 0 + set_bits (drop (suc a) row) ≤ set_bits (drop a row)
ones_from [] a = none a
  where
    none : (a : ℕ) → cond (get_or [] a false) 1 0 + set_bits (drop (suc a) []) ≤ set_bits (drop a [])
    none zero = omega arith
    none (suc a) = omega arith
ones_from (b ∷ row) zero = omega arith
ones_from (b ∷ row) (suc a) = ones_from row a

row_few : (row : Bits) (a n : ℕ) → row_ones row a n ≤ set_bits (drop a row)
row_few row a zero = omega arith
row_few row a (suc n) = let h = row_few row (suc a) n in let k = ones_from row a in omega arith

no_row : (places : List ℕ) (a n : ℕ) → all_chosen [] places a n ≡ 0
no_row places a zero = refl
no_row [] a (suc n) = let h = no_row [] (suc a) n in omega arith
no_row (p ∷ places) a (suc n) = let h = no_row (p ∷ places) (suc a) n in omega arith

no_place : (rows : List Bits) (a n : ℕ) → all_chosen rows [] a n ≡ 0
no_place rows a zero = refl
no_place rows a (suc n) = let h = no_place rows (suc a) n in omega arith

one_row : (row : Bits) (rows : List Bits) (p : ℕ) (places : List ℕ) (a n : ℕ) → all_chosen (row ∷ rows) (p ∷ places) a n ≡ row_ones row a n + all_chosen rows places a n
one_row row rows p places a zero = refl
one_row row rows p places a (suc n) =
    let whole = ap length (first_root row rows a p places) ∙ length-append (one_root row a p) (chosen_roots rows a places) in
    let one = one_long (get_or row a false) in
    let h = one_row row rows p places (suc a) n in
    omega arith
  where
    one_long : (b : Bool) → length (cond b (p ∷ []) []) ≡ cond b 1 0
    one_long true = refl
    one_long false = refl

few_chosen : (rows : List Bits) (places : List ℕ) (n : ℕ) → all_chosen rows places 0 n ≤ sum_by weight (take (length places) rows)
few_chosen rows [] n = let h = no_place rows 0 n in omega arith
few_chosen [] (p ∷ places) n = let h = no_row (p ∷ places) 0 n in omega arith
few_chosen (row ∷ rows) (p ∷ places) n =
    let e = one_row row rows p places 0 n in
    let one = row_few row 0 n in
    let same = weight_ones row in
    let rest = few_chosen rows places n in
    let s = sum_by-cons weight row (take (length places) rows) in
    omega arith

bits_cells : (code : Code) (places : List ℕ) (a : ℕ) (checks : List ℕ) → cells (map (λ (p : ℕ × ℕ). record { check = p.1; places = column_roots code p.0 places }) (enumerate_from a checks)) ≡ all_chosen code.rows places a (length checks) + length checks
bits_cells code places a [] = refl
bits_cells code places a (c ∷ checks) =
    let h = bits_cells code places (a + 1) checks in
    let e = ap (λ (b : ℕ). all_chosen code.rows places b (length checks)) (let z : a + 1 ≡ suc a = omega arith in z) in
    omega arith

-- a word takes no more gates than it costs
pub word_cells : (code : Code) (w : WordNets) → FitsCode code w → cells (syndrome_bits code w) ≤ ones code (length w.places) + 2 * code.columns
word_cells code w fits =
    let e = bits_cells code w.places 0 w.checks in
    let few = few_chosen code.rows w.places (length w.checks) in
    let long = fits.checks in
    omega arith

-- nor do some words
pub words_cells : (code : Code) (ws : List WordNets) → AllByRecursion (FitsCode code) ws → cells (flat_map (syndrome_bits code) ws) ≤ sum_by (λ w. ones code (length w.places) + 2 * code.columns) ws
words_cells code [] all = omega arith
words_cells code (w ∷ ws) all =
    let a = cells_append (syndrome_bits code w) (flat_map (syndrome_bits code) ws) in
    let one = word_cells code w all.0 in
    let rest = words_cells code ws all.1 in
    let s = sum_by-cons (λ w. ones code (length w.places) + 2 * code.columns) w ws in
    omega arith

-- where a word follows others, there is room for its gates
pub words_room : (code : Code) (ws : List WordNets) (i : ℕ) (w : WordNets) → AllByRecursion (FitsCode code) ws → slice_get ws i ≡ Some w
    → cells (flat_map (syndrome_bits code) (take i ws)) + cells (syndrome_bits code w) ≤ sum_by (λ w. ones code (length w.places) + 2 * code.columns) ws
words_room code [] i w all e = cc e
words_room code (x ∷ ws) zero w all e =
    let same : x ≡ w = cc e in
    let bits = ap (λ (y : WordNets). cells (syndrome_bits code y)) same in
    let one = word_cells code x all.0 in
    let s = sum_by-cons (λ w. ones code (length w.places) + 2 * code.columns) x ws in
    omega arith
words_room code (x ∷ ws) (suc i) w all e =
    let a = cells_append (syndrome_bits code x) (flat_map (syndrome_bits code) (take i ws)) in
    let one = word_cells code x all.0 in
    let rest = words_room code ws i w all.1 e in
    let s = sum_by-cons (λ w. ones code (length w.places) + 2 * code.columns) x ws in
    omega arith
