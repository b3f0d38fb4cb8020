-- The bits of a syndrome, and how many gates they take.
use Rattle.std.proofs.Common.{◌≡◌, sym, ◌∙◌, ap, ap₂, refl, ℕ, zero, suc, ◌+◌, ◌*◌, ◌<◌, ◌≤◌, Bool, true, false, cond, List, [], ◌∷◌, ◌++◌, length, map, get_or, take, drop, sum_by, arith, Some, slice_get}
use Rattle.std.proofs.lemmas.Option.{slice_get-get_or}
use Rattle.std.proofs.lemmas.List.{append-nil, length-append, length-map, get_or-map, map-append, take_more}
use Rattle.std.proofs.lemmas.List.Sums.{sum_by-cons}
use Rattle.std.proofs.Math.Seq.{take-append_seam, drop-append_seam}
use Rattle.netlist_spec.specs.Covers.{differ, has_bit, parity}
use Rattle.netlist_spec.specs.SourceRun.{Bits}
use Rattle.netlist_spec.specs.Gates.{bit_number}
use Rattle.guard_spec.specs.Codes.{Code, IsCode, checks_of, sum_of, syndrome_of, weight}
use Rattle.block_code.proofs.Coding.{length_checks, length_sum, weight_ones, ones as set_bits}
use Rattle.gate_net.specs.declared.gate.NetId.{NetId}
use Rattle.gate_net.specs.Gate.{net_number}
use Rattle.predictor.proofs.Checks.{chosen_roots, one_root, first_root, chosen_more, check_value}
use Rattle.corrector.proofs.Decoding.{sum_at}

pub number_at : (ns : List NetId) (i : ℕ) (d : NetId) → i < length ns → slice_get (map net_number ns) i ≡ Some (get_or ns i d).0
number_at ns i d h = let l = length-map ns net_number in slice_get-get_or (map net_number ns) i 0 (omega arith) ∙ ap (λ (n : ℕ). Some n) (get_or-map net_number ns i d 0 h)

-- the nets of a column, one place more

pub chosen_push : (rows : List Bits) (j : ℕ) (roots : List ℕ) (i n : ℕ) (row : Bits) → slice_get rows i ≡ Some row → slice_get roots i ≡ Some n → get_or row j false ≡ true → chosen_roots rows j (take (i + 1) roots) ≡ chosen_roots rows j (take i roots) ++ n ∷ []
chosen_push rows j roots i n row e f set = chosen_more rows j roots i n row e f ∙ ap (λ (b : Bool). chosen_roots rows j (take i roots) ++ cond b (n ∷ []) []) set

pub chosen_skip : (rows : List Bits) (j : ℕ) (roots : List ℕ) (i n : ℕ) (row : Bits) → slice_get rows i ≡ Some row → slice_get roots i ≡ Some n → get_or row j false ≡ false → chosen_roots rows j (take (i + 1) roots) ≡ chosen_roots rows j (take i roots)
chosen_skip rows j roots i n row e f clear = chosen_more rows j roots i n row e f ∙ (ap (λ (b : Bool). chosen_roots rows j (take i roots) ++ cond b (n ∷ []) []) clear ∙ append-nil (chosen_roots rows j (take i roots)))

pub chosen_take : (rows : List Bits) (j : ℕ) (roots : List ℕ) (k : ℕ) → length (chosen_roots rows j (take k roots)) ≤ length (chosen_roots rows j roots)
chosen_take rows j [] zero = omega arith
chosen_take rows j [] (suc k) = omega arith
chosen_take rows j (n ∷ roots) zero = omega arith
chosen_take [] j (n ∷ roots) (suc k) = omega arith
chosen_take (row ∷ rows) j (n ∷ roots) (suc k) =
    let a = ap length (first_root row rows j n roots) ∙ length-append (one_root row j n) (chosen_roots rows j roots) in
    let b = ap length (first_root row rows j n (take k roots)) ∙ length-append (one_root row j n) (chosen_roots rows j (take k roots)) in
    let h = chosen_take rows j roots k in
    omega arith

-- ---- sums

pub xor_answer : (a b : Bool) → has_bit 6 (2 * bit_number a + bit_number b) ≡ differ a b
xor_answer false false = refl
xor_answer false true = refl
xor_answer true false = refl
xor_answer true true = refl

differ_assoc : (a b c : Bool) → differ (differ a b) c ≡ differ a (differ b c)
differ_assoc false b c = refl
differ_assoc true false c = refl
differ_assoc true true false = refl
differ_assoc true true true = refl

differ_none : (a : Bool) → differ a false ≡ a
differ_none false = refl
differ_none true = refl

parity_push : (v : ℕ → Bool) (ns : List ℕ) (n : ℕ) → differ (parity (map v ns)) (v n) ≡ parity (map v (ns ++ n ∷ []))
parity_push v [] n = sym (differ_none (v n))
parity_push v (k ∷ ns) n = differ_assoc (v k) (parity (map v ns)) (v n) ∙ ap (differ (v k)) (parity_push v ns n)

pub no_sum : (v : ℕ → Bool) (n : ℕ) → v n ≡ differ (v n) (parity (map v []))
no_sum v n = sym (differ_none (v n))

-- one net more in a sum
pub sum_push : (v : ℕ → Bool) (c n : ℕ) (ns all : List ℕ) → all ≡ ns ++ n ∷ [] → has_bit 6 (2 * bit_number (differ (v c) (parity (map v ns))) + bit_number (v n)) ≡ differ (v c) (parity (map v all))
sum_push v c n ns all e =
    xor_answer (differ (v c) (parity (map v ns))) (v n)
    ∙ (differ_assoc (v c) (parity (map v ns)) (v n)
    ∙ ap (differ (v c)) (parity_push v ns n ∙ ap (λ (ks : List ℕ). parity (map v ks)) (sym e)))

-- ---- the bits of a syndrome

differ_turned : (a b : Bool) → differ a b ≡ differ b a
differ_turned false false = refl
differ_turned false true = refl
differ_turned true false = refl
differ_turned true true = refl

got : {A : Type 0} (xs : List A) (i : ℕ) (x d : A) → slice_get xs i ≡ Some x → get_or xs i d ≡ x
got [] i x d e = cc e
got (y ∷ xs) zero x d e = cc e
got (y ∷ xs) (suc i) x d e = got xs i x d e

got_bit : (v : ℕ → Bool) (ns : List ℕ) (i n : ℕ) → slice_get ns i ≡ Some n → get_or (map v ns) i false ≡ v n
got_bit v [] i n e = cc e
got_bit v (k ∷ ns) zero n e = ap v (let same : k ≡ n = cc e in same)
got_bit v (k ∷ ns) (suc i) n e = got_bit v ns i n e

-- The syndrome of a word whose nets have these bits.
module _ (code : Code) (is_code : IsCode code) (places checks : List ℕ) (m : ℕ) (size : m ≡ length places) (long : length checks ≡ code.columns) (v : ℕ → Bool) where
  pub syndrome_parts : syndrome_of code m (map v (places ++ checks)) ≡ sum_of (checks_of code (map v places)) (map v checks)
  syndrome_parts =
      let mapped : map v (places ++ checks) ≡ map v places ++ map v checks = map-append v places checks in
      let count = size ∙ sym (length-map places v) in
      ap₂ (λ (a b : Bits). sum_of (checks_of code a) b)
      (ap₂ (λ (k : ℕ) (bs : Bits). take k bs) count mapped ∙ take-append_seam (map v places) (map v checks))
      (ap₂ (λ (k : ℕ) (bs : Bits). drop k bs) count mapped ∙ drop-append_seam (map v places) (map v checks))

  same_length : length (checks_of code (map v places)) ≡ length (map v checks)
  same_length = length_checks code.columns code.rows is_code.full (map v places) ∙ (sym long ∙ sym (length-map checks v))

  pub syndrome_long : length (syndrome_of code m (map v (places ++ checks))) ≡ code.columns
  syndrome_long = ap length syndrome_parts ∙ (length_sum (checks_of code (map v places)) (map v checks) same_length ∙ length_checks code.columns code.rows is_code.full (map v places))

  syndrome_at : (j n : ℕ) → j < code.columns → slice_get checks j ≡ Some n → get_or (syndrome_of code m (map v (places ++ checks))) j false ≡ differ (v n) (parity (map v (chosen_roots code.rows j places)))
  syndrome_at j n h at =
      ap (λ (bs : Bits). get_or bs j false) syndrome_parts
      ∙ (sum_at (checks_of code (map v places)) (map v checks) j same_length
      ∙ (ap₂ differ (got (checks_of code (map v places)) j (parity (map v (chosen_roots code.rows j places))) false (check_value code.columns j code.rows places v h is_code.full)) (got_bit v checks j n at)
      ∙ differ_turned (parity (map v (chosen_roots code.rows j places))) (v n)))

  pub syndrome_more : (j n : ℕ) → j < code.columns → slice_get checks j ≡ Some n
      → take j (syndrome_of code m (map v (places ++ checks))) ++ differ (v n) (parity (map v (chosen_roots code.rows j places))) ∷ [] ≡ take (j + 1) (syndrome_of code m (map v (places ++ checks)))
  syndrome_more j n h at =
      ap (λ (b : Bool). take j (syndrome_of code m (map v (places ++ checks))) ++ b ∷ []) (sym (syndrome_at j n h at))
      ∙ sym (take_more (syndrome_of code m (map v (places ++ checks))) j false (let l = syndrome_long in omega arith))

-- ---- how many gates it takes

-- the nets that the first columns add
abbrev pub column_sizes : List Bits → List ℕ → ℕ → ℕ
column_sizes rows places zero = 0
column_sizes rows places (suc j) = column_sizes rows places j + length (chosen_roots rows j places)

-- the ones of a row in the first columns
abbrev pub row_ones : Bits → ℕ → ℕ
row_ones row zero = 0
row_ones row (suc j) = row_ones row j + cond (get_or row j false) 1 0

pub row_none : (j : ℕ) → row_ones [] j ≡ 0
row_none zero = refl
row_none (suc j) = let h = row_none j in omega arith

row_first : (b : Bool) (row : Bits) (j : ℕ) → row_ones (b ∷ row) (suc j) ≡ cond b 1 0 + row_ones row j
row_first b row zero = omega arith
row_first b row (suc j) = let h = row_first b row j in omega arith

pub row_few : (row : Bits) (j : ℕ) → row_ones row j ≤ set_bits row
row_few row zero = omega arith
row_few [] (suc j) = let h = row_none (suc j) in omega arith
row_few (b ∷ row) (suc j) = let e = row_first b row j in let h = row_few row j in omega arith

no_place : (rows : List Bits) (j : ℕ) → column_sizes rows [] j ≡ 0
no_place rows zero = refl
no_place rows (suc j) = let h = no_place rows j in omega arith

no_row : (places : List ℕ) (j : ℕ) → column_sizes [] places j ≡ 0
no_row places zero = refl
no_row [] (suc j) = let h = no_row [] j in omega arith
no_row (p ∷ places) (suc j) = let h = no_row (p ∷ places) j in omega arith

one_row : (row : Bits) (rows : List Bits) (p : ℕ) (places : List ℕ) (j : ℕ) → column_sizes (row ∷ rows) (p ∷ places) j ≡ row_ones row j + column_sizes rows places j
one_row row rows p places zero = refl
one_row row rows p places (suc j) =
    let whole = ap length (first_root row rows j p places) ∙ length-append (one_root row j p) (chosen_roots rows j places) in
    let one = one_long (get_or row j false) in
    let h = one_row row rows p places j in
    omega arith
  where
    one_long : (b : Bool) → length (cond b (p ∷ []) []) ≡ cond b 1 0
    one_long true = refl
    one_long false = refl

-- the ones of the first rows
abbrev pub ones_of : List Bits → ℕ → ℕ
ones_of rows m = sum_by weight (take m rows)

pub few_added : (rows : List Bits) (places : List ℕ) (j : ℕ) → column_sizes rows places j ≤ ones_of rows (length places)
few_added rows [] j = let h = no_place rows j in omega arith
few_added [] (p ∷ places) j = let h = no_row (p ∷ places) j in omega arith
few_added (row ∷ rows) (p ∷ places) j =
    let e = one_row row rows p places j in
    let one = row_few row j in
    let same = weight_ones row in
    let rest = few_added rows places j in
    let s = sum_by-cons weight row (take (length places) rows) in
    omega arith

pub next_column : (rows : List Bits) (places : List ℕ) (j : ℕ) → column_sizes rows places (j + 1) ≡ column_sizes rows places j + length (chosen_roots rows j places)
next_column rows places j = ap (column_sizes rows places) (let e : j + 1 ≡ suc j = omega arith in e)
