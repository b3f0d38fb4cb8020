-- The numbers that bits spell, and tests at each number of a range.
use Rattle.std.proofs.Common.{◌≡◌, ◌≢◌, sym, ◌∙◌, ap, ap₂, refl, ℕ, zero, suc, ◌+◌, ◌*◌, ◌^◌, ◌<◌, ◌≤◌, Bool, true, false, ◌&&◌, ◌||◌, not, cond, eqb, List, [], ◌∷◌, ◌++◌, length, map, arith, add-one}
use Rattle.std.proofs.lemmas.Bool.{eqb-true, eqb-false, eq-eqb}
use Rattle.std.proofs.Math.Nat.{pow-suc}
use Rattle.std.proofs.Math.Pow.{pow_mono}
use Rattle.std.specs.List.{list_any, range_with_len}
use Rattle.netlist_spec.specs.Covers.{number_of}

pub and_false : (a : Bool) → (a && false) ≡ false
and_false true = refl
and_false false = refl

pub and_true : (a : Bool) → (a && true) ≡ a
and_true true = refl
and_true false = refl

pub or_false : (a : Bool) → (a || false) ≡ a
or_false true = refl
or_false false = refl

-- Tests of equality.

pub unequal : (a b : ℕ) → a ≢ b → eqb a b ≡ false
unequal a b n = by_test (eqb a b) refl
  where
    by_test : (t : Bool) → eqb a b ≡ t → t ≡ false
    by_test true e = absurd (n (eqb-true a b e))
    by_test false e = refl

pub same_test : (a b c d : ℕ) → (a ≡ b → c ≡ d) → (c ≡ d → a ≡ b) → eqb a b ≡ eqb c d
same_test a b c d f g = by_test (eqb a b) refl
  where
    by_test : (t : Bool) → eqb a b ≡ t → t ≡ eqb c d
    by_test true e = sym (eq-eqb c d (f (eqb-true a b e)))
    by_test false e = sym (unequal c d (λ h. eqb-false a b e (g h)))

-- Ranges.

pub range_append : (a m n : ℕ) → range_with_len a (m + n) ≡ range_with_len a m ++ range_with_len (a + m) n
range_append a zero n =
    let e : 0 + n ≡ n = omega arith in
    let h : a ≡ a + 0 = omega arith in
    ap (range_with_len a) e ∙ ap (λ b. range_with_len b n) h
range_append a (suc m) n =
    let e : suc m + n ≡ suc (m + n) = omega arith in
    let h : a + 1 + m ≡ a + suc m = omega arith in
    ap (range_with_len a) e ∙ ap (λ (rest : List ℕ). a ∷ rest) (range_append (a + 1) m n ∙ ap (λ b. range_with_len (a + 1) m ++ range_with_len b n) h)

pub range_push : (n : ℕ) → range_with_len 0 (n + 1) ≡ range_with_len 0 n ++ n ∷ []
range_push n = let e : 0 + n ≡ n = omega arith in range_append 0 n 1 ∙ ap (λ k. range_with_len 0 n ++ k ∷ []) e

pub any_same : (p q : ℕ → Bool) (a n : ℕ) → ((k : ℕ) → a ≤ k → k < a + n → p k ≡ q k) → list_any p (range_with_len a n) ≡ list_any q (range_with_len a n)
any_same p q a zero same = refl
any_same p q a (suc n) same = ap₂ (λ (x y : Bool). x || y) (same a (omega arith) (omega arith)) (any_same p q (a + 1) n (λ k l h. same k (omega arith) (omega arith)))

any_none : (f : ℕ → Bool) (number a n : ℕ) → number < a → list_any (λ k. f k && eqb number k) (range_with_len a n) ≡ false
any_none f number a zero h = refl
any_none f number a (suc n) h =
    ap₂ (λ (x y : Bool). x || y)
    (ap (λ t. f a && t) (unequal number a (λ e. absurd (omega arith))) ∙ and_false (f a))
    (any_none f number (a + 1) n (omega arith))

-- one place alone is that of the number
pub any_picks : (f : ℕ → Bool) (number a n : ℕ) → a ≤ number → number < a + n → list_any (λ k. f k && eqb number k) (range_with_len a n) ≡ f number
any_picks f number a zero l h = absurd (omega arith)
any_picks f number a (suc n) l h = by_test (eqb number a) refl (λ l' h'. any_picks f number (a + 1) n l' h')
  where
    by_test : (t : Bool) → eqb number a ≡ t → (a + 1 ≤ number → number < a + 1 + n → list_any (λ k. f k && eqb number k) (range_with_len (a + 1) n) ≡ f number)
        → list_any (λ k. f k && eqb number k) (range_with_len a (suc n)) ≡ f number
    by_test true e rest =
        let same = eqb-true number a e in
        ap₂ (λ (x y : Bool). x || y) (ap (λ t. f a && t) e ∙ (and_true (f a) ∙ ap f (sym same))) (any_none f number (a + 1) n (omega arith)) ∙ or_false (f number)
    by_test false e rest =
        let apart : number ≢ a = eqb-false number a e in
        ap₂ (λ (x y : Bool). x || y) (ap (λ t. f a && t) e ∙ and_false (f a)) (rest (omega arith) (omega arith))

-- Numbers by their bits.

abbrev worth : Bool → ℕ → ℕ
worth b p = cond b p 0

pub number_push : (bs : List Bool) (b : Bool) → number_of (bs ++ b ∷ []) ≡ number_of bs + worth b (2 ^ length bs)
number_push [] true = refl
number_push [] false = refl
number_push (x ∷ bs) true = let h = number_push bs true in let e = pow-suc 2 (length bs) in omega arith
number_push (x ∷ bs) false = let h = number_push bs false in omega arith

pub number_below : (bs : List Bool) → number_of bs < 2 ^ length bs
number_below [] = omega arith
number_below (true ∷ bs) = let h = number_below bs in let e = pow-suc 2 (length bs) in omega arith
number_below (false ∷ bs) = let h = number_below bs in let e = pow-suc 2 (length bs) in omega arith

-- The tests with one more bit, which is worth p.
module _ (number p : ℕ) (small : number < p) where
  low_test : (b : Bool) (k : ℕ) → k < p → eqb (number + worth b p) k ≡ (eqb number k && not b)
  low_test true k h = unequal (number + p) k (λ e. absurd (omega arith)) ∙ sym (and_false (eqb number k))
  low_test false k h = same_test (number + 0) k number k (λ e. omega arith) (λ e. omega arith) ∙ sym (and_true (eqb number k))

  high_test : (b : Bool) (k : ℕ) → eqb (number + worth b p) (p + k) ≡ (eqb number k && b)
  high_test true k = same_test (number + p) (p + k) number k (λ e. omega arith) (λ e. omega arith) ∙ sym (and_true (eqb number k))
  high_test false k = unequal (number + 0) (p + k) (λ e. absurd (omega arith)) ∙ sym (and_false (eqb number k))

  low_tests : (b : Bool) (a n : ℕ) → a + n ≤ p → map (λ k. eqb (number + worth b p) k) (range_with_len a n) ≡ map (λ t. t && not b) (map (λ k. eqb number k) (range_with_len a n))
  low_tests b a zero h = refl
  low_tests b a (suc n) h = ap₂ (λ (t : Bool) (rest : List Bool). t ∷ rest) (low_test b a (omega arith)) (low_tests b (a + 1) n (omega arith))

  high_tests : (b : Bool) (a n : ℕ) → map (λ k. eqb (number + worth b p) k) (range_with_len (p + a) n) ≡ map (λ t. t && b) (map (λ k. eqb number k) (range_with_len a n))
  high_tests b a zero = refl
  high_tests b a (suc n) =
      let e : p + a + 1 ≡ p + (a + 1) = omega arith in
      ap₂ (λ (t : Bool) (rest : List Bool). t ∷ rest) (high_test b a)
      (ap (λ c. map (λ k. eqb (number + worth b p) k) (range_with_len c n)) e ∙ high_tests b (a + 1) n)

map_append : (f : ℕ → Bool) (xs ys : List ℕ) → map f (xs ++ ys) ≡ map f xs ++ map f ys
map_append f [] ys = refl
map_append f (x ∷ xs) ys = ap (λ rest. f x ∷ rest) (map_append f xs ys)

-- The tests of all numbers with one more bit: first those where it is 0.
pub tests_more : (bs : List Bool) (b : Bool) (i : ℕ) → length bs ≡ i
    → map (λ k. eqb (number_of (bs ++ b ∷ [])) k) (range_with_len 0 (2 ^ (i + 1)))
    ≡ map (λ t. t && not b) (map (λ k. eqb (number_of bs) k) (range_with_len 0 (2 ^ i))) ++ map (λ t. t && b) (map (λ k. eqb (number_of bs) k) (range_with_len 0 (2 ^ i)))
tests_more bs b i long =
    let p = 2 ^ i in
    let all : ℕ → Bool = λ k. eqb (number_of bs + worth b p) k in
    let small : number_of bs < p = let h = number_below bs in let e = ap (λ n. 2 ^ n) long in omega arith in
    let number = number_push bs b ∙ ap (λ n. number_of bs + worth b (2 ^ n)) long in
    let twice : 2 ^ (i + 1) ≡ p + p = let e = ap (λ n. 2 ^ n) (add-one i) in let h = pow-suc 2 i in omega arith in
    let zero_first : 0 + p ≡ p + 0 = omega arith in
    ap₂ (λ (n m : ℕ). map (λ k. eqb n k) (range_with_len 0 m)) number twice
    ∙ (ap (map all) (range_append 0 p p ∙ ap (λ c. range_with_len 0 p ++ range_with_len c p) zero_first)
    ∙ (map_append all (range_with_len 0 p) (range_with_len (p + 0) p)
    ∙ ap₂ (λ (x y : List Bool). x ++ y) (low_tests (number_of bs) p small b 0 p (omega arith)) (high_tests (number_of bs) p small b 0 p)))

-- Costs of the terms, one input after another.
pub double : (i : ℕ) → 2 ^ (i + 1) ≡ 2 * 2 ^ i
double i = let e = ap (λ n. 2 ^ n) (add-one i) in let h = pow-suc 2 i in omega arith

pub cost_bound : (i a old now new terms : ℕ) → i < a → terms ≡ 2 ^ i → now + 1 ≤ old + 2 * 2 ^ i → new ≤ now + 2 * terms → new + 1 ≤ old + 2 * 2 ^ a
cost_bound i a old now new terms h e c d = let m = pow_mono {i = i + 1} {j = a} (omega arith) in let t = double i in omega arith
