-- A sum over the numbers of a partition is one over all numbers, so what words cost is what their bits and their check bits cost.
use Rattle.std.proofs.Common.{◌≡◌, refl, sym, ◌∙◌, ap, ℕ, zero, suc, ◌+◌, ◌*◌, ◌<◌, ◌≤◌, ◌==◌, ◌⊎◌, inl, inr, Bool, true, false, cond, List, [], ◌∷◌, ◌++◌, length, get_or, arith, eq-eqb, ne_eqb}
use Rattle.std.specs.Prelude.{count_by, sum, sum_by}
use Rattle.std.specs.List.{AllByRecursion, range_with_len}
use Rattle.std.proofs.lemmas.Bool.{cases_eq}
use Rattle.std.proofs.lemmas.List.Sums.{sum_by-append, sum_by-cons}
use Rattle.std.proofs.lemmas.List.FromFn.{fill_by_all}
use Rattle.guard_spec.specs.Codes.{Code}
use Rattle.guard_spec.specs.Plain.{word_cost}
use Rattle.guard_spec.specs.Words.{IsPartition, Words, all_numbers}
use Rattle.guard_cells.specs.Cells.{bit_costs, checks_cost, nets_at, words_cost}
use Rattle.guard_net.specs.Built.{all_checks_cost}

abbrev times : ℕ → List ℕ → ℕ
times i xs = count_by (λ j. j == i) xs

-- ---- sums over all numbers of a range

module _ (f : ℕ → ℕ) where
  -- what one number adds
  abbrev at : ℕ → ℕ → ℕ
  at x i = cond (x == i) (f i) 0

  none_there : (x a n : ℕ) → x < a → sum_by (at x) (range_with_len a n) ≡ 0
  none_there x a zero h = refl
  none_there x a (suc n) h =
      let here : at x a ≡ 0 = ap (λ b. cond {A = ℕ} b (f a) 0) (ne_eqb x a (λ e. omega arith)) in
      let rest = none_there x (a + 1) n (omega arith) in
      let both = sum_by-cons (at x) a (range_with_len (a + 1) n) in
      omega (arith, here, rest, both)

  one_there : (x a n : ℕ) → a ≤ x → x < a + n → sum_by (at x) (range_with_len a n) ≡ f x
  one_there x a zero h k = absurd (omega arith)
  one_there x a (suc n) h k = by_place (cases_eq x a) (λ g. one_there x (a + 1) n g (omega arith))
    where
      both : sum_by (at x) (range_with_len a (suc n)) ≡ at x a + sum_by (at x) (range_with_len (a + 1) n)
      both = sum_by-cons (at x) a (range_with_len (a + 1) n)

      by_place : (x ≡ a) ⊎ (x ≡ a → ⊥) → (a + 1 ≤ x → sum_by (at x) (range_with_len (a + 1) n) ≡ f x) → sum_by (at x) (range_with_len a (suc n)) ≡ f x
      by_place (inl e) later =
          let here : at x a ≡ f a = ap (λ b. cond {A = ℕ} b (f a) 0) (eq-eqb x a e) in
          let same : f x ≡ f a = ap f e in
          let rest = none_there x (a + 1) n (omega arith) in
          let b = both in
          omega (arith, here, same, rest, b)
      by_place (inr other) later =
          let here : at x a ≡ 0 = ap (λ b. cond {A = ℕ} b (f a) 0) (ne_eqb x a other) in
          let rest = later (above other) in
          let b = both in
          omega (arith, here, rest, b)
        where
          above : (x ≡ a → ⊥) → a + 1 ≤ x
          above ne = grind arith

  abbrev weighed : List ℕ → ℕ → ℕ
  weighed xs i = times i xs * f i

  nothing_weighed : (a n : ℕ) → sum_by (weighed []) (range_with_len a n) ≡ 0
  nothing_weighed a zero = refl
  nothing_weighed a (suc n) =
      let both = sum_by-cons (weighed []) a (range_with_len (a + 1) n) in
      let rest = nothing_weighed (a + 1) n in
      let here : weighed [] a ≡ 0 = none (f a) in
      omega (arith, both, rest, here)
    where
      none : (k : ℕ) → 0 * k ≡ 0
      none k = omega arith

  weighed_more : (x : ℕ) (xs : List ℕ) (a n : ℕ) → sum_by (weighed (x ∷ xs)) (range_with_len a n) ≡ sum_by (at x) (range_with_len a n) + sum_by (weighed xs) (range_with_len a n)
  weighed_more x xs a zero = refl
  weighed_more x xs a (suc n) =
      let all = sum_by-cons (weighed (x ∷ xs)) a (range_with_len (a + 1) n) in
      let one = sum_by-cons (at x) a (range_with_len (a + 1) n) in
      let others = sum_by-cons (weighed xs) a (range_with_len (a + 1) n) in
      let rest = weighed_more x xs (a + 1) n in
      let counted : times a (x ∷ xs) ≡ cond (x == a) 1 0 + times a xs = sum_by-cons (λ (j : ℕ). cond (j == a) 1 0) x xs in
      let here : weighed (x ∷ xs) a ≡ at x a + weighed xs a = ap (λ (k : ℕ). k * f a) counted ∙ by_test (x == a) (times a xs) (f a) in
      omega (arith, all, one, others, rest, here)
    where
      by_test : (b : Bool) (k v : ℕ) → (cond b 1 0 + k) * v ≡ cond b v 0 + k * v
      by_test true k v = grind arith
      by_test false k v = grind arith

  over_numbers : (n : ℕ) (xs : List ℕ) → AllByRecursion (λ i. i < n) xs → sum_by f xs ≡ sum_by (weighed xs) (range_with_len 0 n)
  over_numbers n [] h = sym (nothing_weighed 0 n)
  over_numbers n (x ∷ xs) h =
      let a = sum_by-cons f x xs in
      let b = weighed_more x xs 0 n in
      let c = one_there x 0 n (omega arith) (let k = h.0 in omega arith) in
      let d = over_numbers n xs h.1 in
      omega (arith, a, b, c, d)

  once_each : (xs : List ℕ) (a n : ℕ) → ((i : ℕ) → a ≤ i → i < a + n → times i xs ≡ 1) → sum_by (weighed xs) (range_with_len a n) ≡ sum_by f (range_with_len a n)
  once_each xs a zero h = refl
  once_each xs a (suc n) h =
      let all = sum_by-cons (weighed xs) a (range_with_len (a + 1) n) in
      let plain = sum_by-cons f a (range_with_len (a + 1) n) in
      let rest = once_each xs (a + 1) n (λ i g k. h i (omega arith) (omega arith)) in
      let here : weighed xs a ≡ f a = ap (λ (k : ℕ). k * f a) (h a (omega arith) (omega arith)) ∙ one (f a) in
      omega (arith, all, plain, rest, here)
    where
      one : (k : ℕ) → 1 * k ≡ k
      one k = omega arith

  over_partition : (n k : ℕ) (words : Words) → IsPartition n k words → sum_by f (all_numbers words) ≡ sum_by f (range_with_len 0 n)
  over_partition n k words is =
      over_numbers n (all_numbers words) is.no_other
      ∙ once_each (all_numbers words) 0 n (λ i g h. is.each_once i (omega arith))

  word_by_word : (words : Words) → sum_by f (all_numbers words) ≡ sum_by (λ (w : List ℕ). sum_by f w) words
  word_by_word [] = refl
  word_by_word (w ∷ words) =
      let a : sum_by f (w ++ all_numbers words) ≡ sum_by f w + sum_by f (all_numbers words) = sum_by-append f w (all_numbers words) in
      let b = sum_by-cons (λ (v : List ℕ). sum_by f v) w words in
      let c = word_by_word words in
      omega (arith, a, b, c)

-- ---- what words cost

module _ (cost : ℕ → ℕ) (all : List ℕ) where
  abbrev bit_at : ℕ → ℕ
  bit_at i = 2 + cost (get_or all i 0)

  of_word : (w : List ℕ) → sum (bit_costs cost (nets_at all w)) ≡ sum_by bit_at w
  of_word [] = refl
  of_word (j ∷ w) =
      let a : sum (bit_at j ∷ bit_costs cost (nets_at all w)) ≡ bit_at j + sum (bit_costs cost (nets_at all w)) = sum_by-cons (λ (k : ℕ). k) (bit_at j) (bit_costs cost (nets_at all w)) in
      let b = sum_by-cons bit_at j w in
      let c = of_word w in
      omega (arith, a, b, c)

  of_all : sum (bit_costs cost all) ≡ sum_by bit_at (range_with_len 0 (length all))
  of_all = ap (λ (ns : List ℕ). sum (bit_costs cost ns)) (fill_by_all (λ i. get_or all i 0) all (length all) 0 refl (λ i h. refl)) ∙ of_word (range_with_len 0 (length all))

  parted : (code : Code) (words : Words) → words_cost cost code all words ≡ sum_by (λ (w : List ℕ). sum_by bit_at w) words + all_checks_cost cost code all words
  parted code [] = refl
  parted code (w ∷ words) =
      let a = sum_by-cons (λ (v : List ℕ). word_cost code (bit_costs cost (nets_at all v))) w words in
      let b = sum_by-cons (λ (v : List ℕ). sum_by bit_at v) w words in
      let c = sum_by-cons (λ (v : List ℕ). checks_cost cost code (nets_at all v)) w words in
      let d = parted code words in
      let e : word_cost code (bit_costs cost (nets_at all w)) ≡ sum_by bit_at w + checks_cost cost code (nets_at all w) = ap (λ (k : ℕ). k + checks_cost cost code (nets_at all w)) (of_word w) in
      omega (arith, a, b, c, d, e)

  pub bits_and_checks : (code : Code) (k : ℕ) (words : Words) → IsPartition (length all) k words → words_cost cost code all words ≡ sum (bit_costs cost all) + all_checks_cost cost code all words
  bits_and_checks code k words is =
      parted code words
      ∙ ap (λ (n : ℕ). n + all_checks_cost cost code all words) (sym (word_by_word bit_at words) ∙ (over_partition bit_at (length all) k words is ∙ sym of_all))
