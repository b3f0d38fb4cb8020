-- Binomial coefficients, and what correctors and rails cost.
use Rattle.std.proofs.Common.{◌≡◌, refl, sym, ◌∙◌, ap, subst, ℕ, zero, suc, ◌+◌, ◌-◌, ◌*◌, ◌/◌, ◌^◌, ◌<◌, ◌≤◌, ◌⊎◌, inl, inr, min, List, [], ◌∷◌, ◌++◌, map, arith, add-one, All}
use Rattle.std.specs.Prelude.{sum_by, count_ones, slice_get, Some}
use Rattle.std.specs.List.{range_with_len}
use Rattle.std.proofs.Math.Pow.{pow_mono}
use Rattle.std.proofs.Math.Nat.{mul-div_cancel_left}
use Rattle.std.proofs.lemmas.Bool.{cases_lt}
use Rattle.std.proofs.lemmas.List.{get_or-map, length-map}
use Rattle.std.proofs.lemmas.List.Sums.{sum_by_more, sum_by-cons, sum_by-append}
use Rattle.std.proofs.lemmas.Option.{slice_get_within, get_or_from_slice_get}
use Rattle.block_code.proofs.Words.{weight_bits}
use Rattle.guard_spec.specs.Codes.{Code, weight, bits_of}
use Rattle.guard_spec.specs.Plain.{choose, ones}

-- ---- binomial coefficients

choose_none : (n : ℕ) → choose n zero ≡ 1
choose_none zero = refl
choose_none (suc n) = refl

choose_past : (n i : ℕ) → n < i → choose n i ≡ 0
choose_past n zero h = absurd (omega arith)
choose_past zero (suc i) h = refl
choose_past (suc n) (suc i) h = let a = choose_past n i (omega arith) in let b = choose_past n (suc i) (omega arith) in omega arith

step_within : (i k a b c : ℕ) → suc i * b ≡ suc k * a → suc (suc i) * c ≡ k * b → suc (suc i) * (b + c) ≡ suc k * (a + b)
step_within i k a b c e f = omega arith

choose_step : (n i : ℕ) → suc i * choose n (suc i) ≡ (n - i) * choose n i → suc (suc i) * choose n (suc (suc i)) ≡ (n - suc i) * choose n (suc i) → (i < n) ⊎ (n ≤ i)
    → suc (suc i) * (choose n (suc i) + choose n (suc (suc i))) ≡ (n - i) * (choose n i + choose n (suc i))
choose_step n i e f (inl less) =
    let k : ℕ = n - suc i in
    let one : n - i ≡ suc k = omega arith in
    let first : suc i * choose n (suc i) ≡ suc k * choose n i = e ∙ ap (λ (x : ℕ). x * choose n i) one in
    step_within i k (choose n i) (choose n (suc i)) (choose n (suc (suc i))) first f ∙ ap (λ (x : ℕ). x * (choose n i + choose n (suc i))) (sym one)
choose_step n i e f (inr past) =
    let a = choose_past n (suc i) (omega arith) in
    let b = choose_past n (suc (suc i)) (omega arith) in
    let none : n - i ≡ 0 = omega arith in
    ap (λ (x : ℕ). suc (suc i) * (x + choose n (suc (suc i)))) a ∙ (ap (λ (x : ℕ). suc (suc i) * (0 + x)) b ∙ (omega arith ∙ ap (λ (x : ℕ). x * (choose n i + choose n (suc i))) (sym none)))

-- each coefficient from the one before
pub choose_next : (n i : ℕ) → suc i * choose n (suc i) ≡ (n - i) * choose n i
choose_next zero zero = omega arith
choose_next zero (suc i) = omega arith
choose_next (suc n) zero =
    let e = choose_next n zero in
    let a = choose_none n in
    let b : choose n 1 ≡ n = (let f : 1 * choose n 1 ≡ (n - 0) * 1 = e ∙ ap (λ (x : ℕ). (n - 0) * x) a in omega arith) in
    omega arith
choose_next (suc n) (suc i) =
    let less : suc n - suc i ≡ n - i = omega arith in
    choose_step n i (choose_next n i) (choose_next n (suc i)) (cases_lt i n) ∙ ap (λ (x : ℕ). x * (choose n i + choose n (suc i))) (sym less)

pub choose_small : (n i : ℕ) → choose n i ≤ 2 ^ n
choose_small n zero = let a = choose_none n in let h : 0 ≤ n = omega arith in let p : 2 ^ 0 ≤ 2 ^ n = pow_mono h in omega arith
choose_small zero (suc i) = omega arith
choose_small (suc n) (suc i) = let a = choose_small n i in let b = choose_small n (suc i) in let p : 2 ^ suc n ≡ 2 ^ n + 2 ^ n = omega arith in omega arith

pub choose_few : (n i : ℕ) → n ≤ 28 → choose n i ≤ 2 ^ 28
choose_few n i h = let a = choose_small n i in let p : 2 ^ n ≤ 2 ^ 28 = pow_mono {i = n} {j = 28} h in omega arith

-- what the code computes
pub next_level : (n i level rest : ℕ) → level ≡ choose n i → rest ≡ n - i → level * rest / (i + 1) ≡ choose n (i + 1)
next_level n i level rest e f =
    let whole : level * rest ≡ suc i * choose n (suc i) = ap (λ (x : ℕ). x * rest) e ∙ (ap (λ (x : ℕ). choose n i * x) f ∙ (omega arith ∙ sym (choose_next n i))) in
    let one : i + 1 ≡ suc i = add-one i in
    ap (λ (x : ℕ). x / (i + 1)) whole ∙ (ap (λ (x : ℕ). suc i * choose n (suc i) / x) one ∙ (mul-div_cancel_left (choose n (suc i)) (omega arith) ∙ ap (choose n) (sym one)))

range_more : (a k : ℕ) → range_with_len a (k + 1) ≡ range_with_len a k ++ (a + k) ∷ []
range_more a zero = ap (λ (x : ℕ). x ∷ []) (omega arith)
range_more a (suc k) =
    let one : suc k + 1 ≡ suc (k + 1) = omega arith in
    let last : (a + 1) + k ≡ a + suc k = omega arith in
    ap (range_with_len a) one ∙ ap (λ (l : List ℕ). a ∷ l) (range_more (a + 1) k ∙ ap (λ (x : ℕ). range_with_len (a + 1) k ++ x ∷ []) last)

pub sum_level : (f : ℕ → ℕ) (i : ℕ) → sum_by f (range_with_len 1 (i + 1)) ≡ sum_by f (range_with_len 1 i) + f (i + 1)
sum_level f i =
    let e : 1 + i ≡ i + 1 = omega arith in
    ap (sum_by f) (range_more 1 i) ∙ (sum_by-append f (range_with_len 1 i) ((1 + i) ∷ []) ∙ ap (λ (x : ℕ). sum_by f (range_with_len 1 i) + x) (one (1 + i) ∙ ap f e))
  where
    one : (k : ℕ) → sum_by f (k ∷ []) ≡ f k
    one k = sum_by-cons f k [] ∙ omega arith

-- ---- ones

pub ones_more : (code : Code) (i row : ℕ) → slice_get code.rows i ≡ Some (bits_of code.columns row) → row < 2 ^ code.columns → ones code (i + 1) ≡ ones code i + count_ones row
ones_more code i row at small =
    sum_by_more weight code.rows i [] (slice_get_within code.rows i (bits_of code.columns row) at)
    ∙ ap (λ (x : ℕ). ones code i + x) (ap weight (get_or_from_slice_get code.rows i (bits_of code.columns row) [] at) ∙ weight_bits code.columns row small)

-- ---- sums that are cut

pub cut_product : (count n : ℕ) → min (count * min n 1000001) 1000001 ≡ min (count * n) 1000001
cut_product zero n = omega arith
cut_product (suc count) n = by_size (cases_lt n 1000001)
  where
    by_size : (n < 1000001) ⊎ (1000001 ≤ n) → min (suc count * min n 1000001) 1000001 ≡ min (suc count * n) 1000001
    by_size (inl small) = ap (λ (x : ℕ). min (suc count * x) 1000001) (let e : min n 1000001 ≡ n = omega arith in e)
    by_size (inr large) =
        let e : min n 1000001 ≡ 1000001 = omega arith in
        let a : min (suc count * 1000001) 1000001 ≡ 1000001 = omega arith in
        let b : min (suc count * n) 1000001 ≡ 1000001 = omega arith in
        ap (λ (x : ℕ). min (suc count * x) 1000001) e ∙ (a ∙ sym b)

-- what holds of mapped elements
pub mapped_all : {A B : Type 0} (P : B → Type 0) (f : A → B) (xs : List A) → All P (map f xs) → All (λ x. P (f x)) xs
mapped_all P f xs all = λ k d h. subst P (get_or-map f xs k d (f d) h) (all k (f d) (let l = length-map xs f in omega arith))

-- words as lists
pub map_sum : {A B : Type 0} (f : A → ℕ) (g : B → A) (xs : List B) → sum_by f (map g xs) ≡ sum_by (λ x. f (g x)) xs
map_sum f g [] = refl
map_sum f g (x ∷ xs) = sum_by-cons f (g x) (map g xs) ∙ (ap (λ (k : ℕ). f (g x) + k) (map_sum f g xs) ∙ sym (sum_by-cons (λ x. f (g x)) x xs))
