-- The cost of a word, bit by bit.
use Rattle.std.proofs.Common.{◌≡◌, sym, ◌∙◌, ap, ap₂, refl, ℕ, zero, suc, ◌+◌, min, inr, inl, ◌⊎◌, ◌*◌, ◌<◌, ◌≤◌, Bool, true, false, cond, List, [], ◌∷◌, ◌++◌, length, get_or, arith}
use Rattle.std.specs.Prelude.{sum_by}
use Rattle.std.specs.List.{AllZip, range_with_len, zip}
use Rattle.std.proofs.lemmas.List.Elements.{All-from_recursion}
use Rattle.std.proofs.lemmas.List.Sums.{sum_by-append, sum_by-cons, sum_by-le-sum_by}
use Rattle.netlist_spec.specs.SourceRun.{Bits}
use Rattle.guard_spec.specs.Codes.{Code, IsCode, data_places, weight}
use Rattle.guard_spec.specs.Plain.{column_cost, word_cost}

-- what one bit adds to a column, where its row is given
abbrev part : ℕ → ℕ × Bits → ℕ
part j p = cond (get_or p.1 j false) p.0 0

sum_of_parts : {A : Type 0} (f g h : A → ℕ) → ((x : A) → f x ≡ g x + h x) → (xs : List A) → sum_by f xs ≡ sum_by g xs + sum_by h xs
sum_of_parts f g h e [] = refl
sum_of_parts f g h e (x ∷ xs) =
    let a = sum_by-cons f x xs in
    let b = sum_by-cons g x xs in
    let c = sum_by-cons h x xs in
    let d = e x in
    let rest = sum_of_parts f g h e xs in
    omega arith

-- ---- one bit more

column_more : (costs : List ℕ) (c : ℕ) (rows : List Bits) (j : ℕ) → sum_by (part j) (zip (costs ++ c ∷ []) rows) ≡ sum_by (part j) (zip costs rows) + part j (c, get_or rows (length costs) [])
column_more [] c [] j = refl
column_more [] c (row ∷ rows) j = refl
column_more (k ∷ costs) c [] j = refl
column_more (k ∷ costs) c (row ∷ rows) j =
    let a = sum_by-cons (part j) (k, row) (zip (costs ++ c ∷ []) rows) in
    let b = sum_by-cons (part j) (k, row) (zip costs rows) in
    let rest = column_more costs c rows j in
    omega arith

-- a bit of cost c adds it to each column in which its row has a 1
row_sum : (c a : ℕ) (row : Bits) (n : ℕ) (bit : ℕ → Bool) → length row ≡ n → ((i : ℕ) → bit (a + i) ≡ get_or row i false) → sum_by (λ j. cond (bit j) c 0) (range_with_len a n) ≡ c * weight row
row_sum c a [] zero bit e f = let z : c * 0 ≡ 0 = omega arith in sym z
row_sum c a [] (suc n) bit e f = absurd (omega arith)
row_sum c a (b ∷ row) zero bit e f = absurd (omega arith)
row_sum c a (b ∷ row) (suc n) bit e f =
    let h = sum_by-cons (λ j. cond (bit j) c 0) a (range_with_len (a + 1) n) in
    let w = sum_by-cons (λ (x : Bool). cond x 1 0) b row in
    let first : bit a ≡ b = ap bit (let z : a ≡ a + 0 = omega arith in z) ∙ f 0 in
    let rest = row_sum c (a + 1) row n bit (omega arith) (λ i. ap bit (let z : a + 1 + i ≡ a + suc i = omega arith in z) ∙ f (suc i)) in
    h ∙ (ap₂ (λ (x y : ℕ). x + y) (ap (λ (x : Bool). cond x c 0) first) rest ∙ (by_bit b ∙ ap (λ (x : ℕ). c * x) (sym w)))
  where
    by_bit : (b : Bool) → cond b c 0 + c * weight row ≡ c * (cond b 1 0 + weight row)
    by_bit true = omega arith
    by_bit false = omega arith

pub word_cost_none : (code : Code) → word_cost code [] ≡ code.columns
word_cost_none code = go 0 code.columns
  where
    go : (a n : ℕ) → 0 + sum_by (column_cost code []) (range_with_len a n) ≡ n
    go a zero = refl
    go a (suc n) =
        let h = sum_by-cons (column_cost code []) a (range_with_len (a + 1) n) in
        let rest = go (a + 1) n in
        omega arith

pub word_cost_more : (code : Code) (costs : List ℕ) (c : ℕ) → IsCode code → length costs < data_places code → word_cost code (costs ++ c ∷ []) ≡ word_cost code costs + c * (1 + weight (get_or code.rows (length costs) []))
word_cost_more code costs c is inside =
    let row = get_or code.rows (length costs) [] in
    let full : length row ≡ code.columns = All-from_recursion (λ (r : Bits). length r ≡ code.columns) code.rows is.full (length costs) [] inside in
    let columns = sum_of_parts (column_cost code (costs ++ c ∷ [])) (column_cost code costs) (λ j. part j (c, row)) (λ j. let e = column_more costs c code.rows j in omega arith) (range_with_len 0 code.columns) in
    let added = row_sum c 0 row code.columns (λ j. get_or row j false) full (λ i. ap (λ k. get_or row k false) (let z : 0 + i ≡ i = omega arith in z)) in
    let bits = sum_by-append (λ (n : ℕ). n) costs (c ∷ []) in
    let one : sum_by (λ (n : ℕ). n) (c ∷ []) ≡ c = omega arith in
    omega arith

-- ---- the first bits

column_front : (costs more : List ℕ) (rows : List Bits) (j : ℕ) → sum_by (part j) (zip costs rows) ≤ sum_by (part j) (zip (costs ++ more) rows)
column_front [] more rows j = omega arith
column_front (k ∷ costs) more [] j = omega arith
column_front (k ∷ costs) more (row ∷ rows) j =
    let a = sum_by-cons (part j) (k, row) (zip (costs ++ more) rows) in
    let b = sum_by-cons (part j) (k, row) (zip costs rows) in
    let rest = column_front costs more rows j in
    omega arith

pub word_cost_front : (code : Code) (costs more : List ℕ) → word_cost code costs ≤ word_cost code (costs ++ more)
word_cost_front code costs more =
    let columns = sum_by-le-sum_by (column_cost code costs) (column_cost code (costs ++ more)) (range_with_len 0 code.columns) (λ j. let e = column_front costs more code.rows j in omega arith) in
    let bits = sum_by-append (λ (n : ℕ). n) costs more in
    omega arith

-- ---- costs that are cut at a limit

abbrev AreCut : ℕ → List ℕ → List ℕ → Type 0
AreCut most costs cut = AllZip (λ c k. k ≡ min c most) costs cut

small_or_large : (most c : ℕ) → (c ≤ most) ⊎ (most < c)
small_or_large most c = grind arith

same_or_large : (most : ℕ) (costs cut : List ℕ) → AreCut most costs cut → (cut ≡ costs) ⊎ ((most ≤ sum_by (λ n. n) costs) × (most ≤ sum_by (λ n. n) cut))
same_or_large most [] [] a = inl refl
same_or_large most [] (k ∷ cut) a = absurd a
same_or_large most (c ∷ costs) [] a = absurd a
same_or_large most (c ∷ costs) (k ∷ cut) a = by_case (small_or_large most c) (same_or_large most costs cut a.1) (sum_by-cons (λ (n : ℕ). n) c costs) (sum_by-cons (λ (n : ℕ). n) k cut) a.0
  where
    by_case : (c ≤ most) ⊎ (most < c) → (cut ≡ costs) ⊎ ((most ≤ sum_by (λ n. n) costs) × (most ≤ sum_by (λ n. n) cut)) → sum_by (λ n. n) (c ∷ costs) ≡ c + sum_by (λ n. n) costs → sum_by (λ n. n) (k ∷ cut) ≡ k + sum_by (λ n. n) cut → k ≡ min c most
        → (k ∷ cut ≡ c ∷ costs) ⊎ ((most ≤ sum_by (λ n. n) (c ∷ costs)) × (most ≤ sum_by (λ n. n) (k ∷ cut)))
    by_case (inl small) (inl same) h l e = inl (ap₂ (λ z zs. z ∷ zs) (let f : k ≡ c = omega arith in f) same)
    by_case (inl small) (inr large) h l e = let a = large.0 in let b = large.1 in inr (omega arith, omega arith)
    by_case (inr large) rest h l e = inr (omega arith, omega arith)

pub word_cost_cut : (code : Code) (most : ℕ) (costs cut : List ℕ) → AllZip (λ c k. k ≡ min c most) costs cut → min (word_cost code cut) most ≡ min (word_cost code costs) most
word_cost_cut code most costs cut a = by_case (same_or_large most costs cut a)
  where
    by_case : (cut ≡ costs) ⊎ ((most ≤ sum_by (λ n. n) costs) × (most ≤ sum_by (λ n. n) cut)) → min (word_cost code cut) most ≡ min (word_cost code costs) most
    by_case (inl same) = ap (λ (ns : List ℕ). min (word_cost code ns) most) same
    by_case (inr large) =
        let low : most ≤ word_cost code costs = (let h = large.0 in omega arith) in
        let high : most ≤ word_cost code cut = (let h = large.1 in omega arith) in
        omega arith
