-- The roots of a column, and their xor.
use Rattle.std.proofs.Common.{◌≡◌, sym, ◌∙◌, ap, ap₂, subst, refl, ℕ, zero, suc, ◌+◌, ◌<◌, ◌≤◌, Bool, true, false, cond, List, [], ◌∷◌, ◌++◌, length, map, get_or, take, filter, Some, slice_get, Ok, Err, Result, IfOk, ◌==◌, ◌/◌, ◌^◌, ne_eqb, arith}
use Rattle.std.specs.List.{AllByRecursion, zip}
use Rattle.std.proofs.lemmas.Option.{slice_get-get_or}
use Rattle.std.proofs.lemmas.List.{append-nil, append_assoc, length-replicate, get_or-replicate}
use Rattle.std.proofs.lemmas.List.FromFn.{get_or-map-range_with_len}
use Rattle.std.proofs.lemmas.Nat.Bits.{shr_and_one}
use Rattle.std.specs.Int.{bit_at}
use Rattle.std.specs.Int.RustNames.{bit_and}
use Rattle.std.specs.declared.alloc.AllocError.{AllocError}
use Rattle.netlist_spec.specs.Gates.{GateList}
use Rattle.netlist_spec.specs.Covers.{differ, has_bit, parity}
use Rattle.netlist_spec.specs.SourceRun.{Bits}
use Rattle.guard_spec.specs.Codes.{Code, IsCode, zeros, sum_of, checks_by, bits_of}
use Rattle.gate_net.specs.declared.gate.NetId.{NetId}
use Rattle.cone_split.specs.Ranges.{IsCopy}
use Rattle.predictor.specs.Columns.{column_roots, IsCheckBit}

-- the roots of column j, given the rows
abbrev pub chosen_roots : List Bits → ℕ → List ℕ → List ℕ
chosen_roots rows j roots = map (λ p. p.0) (filter (λ p. get_or p.1 j false) (zip roots rows))

-- the root, where the row has the column
abbrev pub one_root : Bits → ℕ → ℕ → List ℕ
one_root row j n = cond (get_or row j false) (n ∷ []) []

pub first_root : (row : Bits) (rows : List Bits) (j n : ℕ) (ns : List ℕ) → chosen_roots (row ∷ rows) j (n ∷ ns) ≡ one_root row j n ++ chosen_roots rows j ns
first_root row rows j n ns = by_bit (get_or row j false) refl
  where
    by_bit : (b : Bool) → get_or row j false ≡ b → chosen_roots (row ∷ rows) j (n ∷ ns) ≡ one_root row j n ++ chosen_roots rows j ns
    by_bit true e = rw e refl
    by_bit false e = rw e refl

-- one root more
pub chosen_more : (rows : List Bits) (j : ℕ) (roots : List ℕ) (i n : ℕ) (row : Bits) → slice_get rows i ≡ Some row → slice_get roots i ≡ Some n → chosen_roots rows j (take (i + 1) roots) ≡ chosen_roots rows j (take i roots) ++ one_root row j n
chosen_more [] j roots i n row e f = cc e
chosen_more (r ∷ rows) j [] i n row e f = cc f
chosen_more (r ∷ rows) j (m ∷ roots) zero n row e f =
    let one : r ≡ row = cc e in
    let same : m ≡ n = cc f in
    first_root r rows j m [] ∙ (append-nil (one_root r j m) ∙ ap₂ (λ (x : Bits) (k : ℕ). one_root x j k) one same)
chosen_more (r ∷ rows) j (m ∷ roots) (suc i) n row e f =
    ap (λ (k : ℕ). chosen_roots (r ∷ rows) j (take k (m ∷ roots))) (let z : suc i + 1 ≡ suc (i + 1) = omega arith in z)
    ∙ (first_root r rows j m (take (i + 1) roots)
    ∙ (ap (λ (ns : List ℕ). one_root r j m ++ ns) (chosen_more rows j roots i n row e f)
    ∙ (sym (append_assoc (one_root r j m) (chosen_roots rows j (take i roots)) (one_root row j n))
    ∙ ap (λ (ns : List ℕ). ns ++ one_root row j n) (sym (first_root r rows j m (take i roots))))))

-- the chosen roots are roots
pub chosen_all : (P : ℕ → Type 0) (rows : List Bits) (j : ℕ) (roots : List ℕ) → AllByRecursion P roots → AllByRecursion P (chosen_roots rows j roots)
chosen_all P rows j [] all = tt
chosen_all P [] j (n ∷ roots) all = tt
chosen_all P (row ∷ rows) j (n ∷ roots) all =
    subst (λ (ns : List ℕ). AllByRecursion P ns) (sym (first_root row rows j n roots)) (by_bit (get_or row j false) (chosen_all P rows j roots all.1))
  where
    by_bit : (b : Bool) → AllByRecursion P (chosen_roots rows j roots) → AllByRecursion P (cond b (n ∷ []) [] ++ chosen_roots rows j roots)
    by_bit true rest = (all.0, rest)
    by_bit false rest = rest

-- and not more of them
pub chosen_length : (rows : List Bits) (j : ℕ) (roots : List ℕ) → length (chosen_roots rows j roots) ≤ length roots
chosen_length rows j [] = omega arith
chosen_length [] j (n ∷ roots) = omega arith
chosen_length (row ∷ rows) j (n ∷ roots) =
    let whole = ap length (first_root row rows j n roots) in
    let step = by_bit (get_or row j false) (chosen_length rows j roots) in
    omega arith
  where
    by_bit : (b : Bool) → length (chosen_roots rows j roots) ≤ length roots → length (cond b (n ∷ []) [] ++ chosen_roots rows j roots) ≤ length (n ∷ roots)
    by_bit true rest = omega arith
    by_bit false rest = omega arith

-- ---- a bit of a sum of rows

sum_at : (a b : Bits) (j : ℕ) (x y : Bool) → slice_get a j ≡ Some x → slice_get b j ≡ Some y → slice_get (sum_of a b) j ≡ Some (differ x y)
sum_at [] b j x y e f = cc e
sum_at (p ∷ a) [] j x y e f = cc f
sum_at (p ∷ a) (q ∷ b) zero x y e f = let g : p ≡ x = cc e in let h : q ≡ y = cc f in ap₂ (λ (s t : Bool). Some (differ s t)) g h
sum_at (p ∷ a) (q ∷ b) (suc j) x y e f = sum_at a b j x y e f

zeros_at : (r j : ℕ) → j < r → slice_get (zeros r) j ≡ Some false
zeros_at r j h = let l = length-replicate r false in slice_get-get_or (zeros r) j false (omega arith) ∙ ap (λ (b : Bool). Some b) (get_or-replicate r j false false h)

row_at : (b : Bool) (row : Bits) (r j : ℕ) → length row ≡ r → j < r → slice_get (cond b row (zeros r)) j ≡ Some (cond b (get_or row j false) false)
row_at true row r j e h = slice_get-get_or row j false (omega arith)
row_at false row r j e h = zeros_at r j h

chosen_bit : (u : ℕ → Bool) (n : ℕ) (x : Bool) (ns : List ℕ) → parity (map u (cond x (n ∷ []) [] ++ ns)) ≡ differ (cond (u n) x false) (parity (map u ns))
chosen_bit u n true ns = ap (λ (b : Bool). differ b (parity (map u ns))) (itself (u n))
  where
    itself : (b : Bool) → b ≡ cond b true false
    itself true = refl
    itself false = refl
chosen_bit u n false ns = ap (λ (b : Bool). differ b (parity (map u ns))) (none (u n))
  where
    none : (b : Bool) → false ≡ cond b false false
    none true = refl
    none false = refl

-- the xor of the roots of column j is check bit j
pub check_value : (r j : ℕ) (rows : List Bits) (roots : List ℕ) (u : ℕ → Bool) → j < r → AllByRecursion (λ row. length row ≡ r) rows → slice_get (checks_by r rows (map u roots)) j ≡ Some (parity (map u (chosen_roots rows j roots)))
check_value r j rows [] u h full = zeros_at r j h
check_value r j [] (n ∷ roots) u h full = zeros_at r j h
check_value r j (row ∷ rows) (n ∷ roots) u h full =
    sum_at (cond (u n) row (zeros r)) (checks_by r rows (map u roots)) j _ _ (row_at (u n) row r j full.0 h) (check_value r j rows roots u h full.1)
    ∙ ap (λ (b : Bool). Some b) (sym (ap (λ (ns : List ℕ). parity (map u ns)) (first_root row rows j n roots) ∙ chosen_bit u n (get_or row j false) (chosen_roots rows j roots)))

-- ---- bits of a row's number

pub row_bit : (width row j : ℕ) → j < width → get_or (bits_of width row) j false ≡ has_bit row j
row_bit width row j h = get_or-map-range_with_len (λ (i : ℕ). has_bit row i) 0 width j j false h (omega arith)

-- a test of a bit by a shift
pub test_set : (row j : ℕ) → bit_and (row / 2 ^ j) 1 ≡ 1 → has_bit row j ≡ true
test_set row j h = let e : bit_at row j ≡ 1 = sym (shr_and_one row j) ∙ h in ap (λ (n : ℕ). n == 1) e

pub test_clear : (row j : ℕ) → (bit_and (row / 2 ^ j) 1 ≡ 1 → ⊥) → has_bit row j ≡ false
test_clear row j h = ne_eqb (bit_at row j) 1 (λ e. h (shr_and_one row j ∙ e))

-- ---- the whole call

pub column_copies : (src : GateList) (roots chosen leaf : List ℕ) (code : Code) (j : ℕ) (old new : GateList) (r : Result NetId AllocError) → IsCode code → j < code.columns → chosen ≡ column_roots code j roots → IfOk r (λ n. IsCopy src chosen leaf old new n.0) → IfOk r (λ n. IsCheckBit src roots leaf code j old new n.0)
column_copies src roots chosen leaf code j old new (Err e) well h same copy = tt
column_copies src roots chosen leaf code j old new (Ok n) well h same copy = λ v u answers evaluation.
    ap (λ (b : Bool). Some b) (copy.value v u answers evaluation)
    ∙ (ap (λ (ns : List ℕ). Some (parity (map u ns))) same ∙ sym (check_value code.columns j code.rows roots u h well.full))
