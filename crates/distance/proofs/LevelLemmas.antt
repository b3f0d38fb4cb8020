-- Levels: the numbers of so many places by their ones, each made from those with one less.
use Rattle.std.proofs.Common.{◌≡◌, sym, ◌∙◌, ap, subst, ℕ, ◌+◌, ◌-◌, ◌*◌, ◌%◌, ◌^◌, ◌<◌, ◌≤◌, List, [], ◌∷◌, ◌++◌, length, map, drop, get_or, take_while, nat_lt, Bool, cond, ◌⊎◌, inl, inr, arith, append_assoc, add-one, drop-cons}
use Rattle.std.specs.Int.RustNames.{bit_or, count_ones}
use Rattle.std.proofs.lemmas.Nat.{one_shl, or_shifted, ones_cat, pow_pos, pow_below, zero_from_ones}
use Rattle.std.proofs.lemmas.Bool.{lt-ltb, le-ltb, cases_lt}
use Rattle.std.proofs.Math.Nat.{pow-suc}
use Rattle.std.specs.List.{AllByRecursion}
use Rattle.std.proofs.lemmas.List.Sums.{take_while-cons}
use Rattle.block_code.proofs.Words.{ones_zero, ones_one}
use Rattle.distance.specs.Levels.{IsLevel}
use Rattle.distance.proofs.PairLemmas.{every_weaken, every_append, every_map, Pairs, pairs_append, pairs_map, pairs_from, pairs_to, In, in_left, in_right, in_map, every_in, in_to, in_from}

-- a number below a place, with a 1 at that place
pub with_place : (place x : ℕ) → place < 32 → x < 2 ^ place → bit_or (1 * 2 ^ place % 2 ^ 32) x ≡ 2 ^ place + x
with_place place x short below =
    ap (λ (n : ℕ). bit_or n x) (one_shl place 32 short ∙ once (2 ^ place)) ∙ (or_shifted 1 place x below ∙ ap (λ (n : ℕ). n + x) (sym (once (2 ^ place))))
  where
    once : (n : ℕ) → n ≡ 1 * n
    once n = omega arith

-- the numbers from the front on that are below an end
abbrev pub front : ℕ → List ℕ → List ℕ
front end xs = take_while (λ x. nat_lt x end) xs

pub front_cons : (end x : ℕ) (xs : List ℕ) → x < end → front end (x ∷ xs) ≡ x ∷ front end xs
front_cons end x xs below = take_while-cons (λ y. nat_lt y end) x xs ∙ ap (λ (b : Bool). cond b (x ∷ front end xs) []) (lt-ltb x end below)

pub front_stop : (end x : ℕ) (xs : List ℕ) → end ≤ x → front end (x ∷ xs) ≡ []
front_stop end x xs above = take_while-cons (λ y. nat_lt y end) x xs ∙ ap (λ (b : Bool). cond b (x ∷ front end xs) []) (le-ltb x end above)

module _ (place : ℕ) (words : List ℕ) (i : ℕ) where
  -- a loop over the words: one more is put behind, or the rest is left
  pub front_more : (out new old : List ℕ) → place < 32 → i < length words → get_or words i 0 < 1 * 2 ^ place % 2 ^ 32 → new ≡ out ++ bit_or (1 * 2 ^ place % 2 ^ 32) (get_or words i 0) ∷ [] → out ++ map (λ x. 2 ^ place + x) (front (2 ^ place) (drop i words)) ≡ old → new ++ map (λ x. 2 ^ place + x) (front (2 ^ place) (drop (i + 1) words)) ≡ old
  front_more out new old short inside test pushed so_far =
      let below = subst (λ (n : ℕ). get_or words i 0 < n) (one_shl place 32 short) test in
      let x = get_or words i 0 in
      let rest = map (λ y. 2 ^ place + y) (front (2 ^ place) (drop (i + 1) words)) in
      let next : map (λ y. 2 ^ place + y) (front (2 ^ place) (drop i words)) ≡ (2 ^ place + x) ∷ rest = ap (λ (xs : List ℕ). map (λ y. 2 ^ place + y) (front (2 ^ place) xs)) (drop-cons words i 0 inside ∙ ap (λ (n : ℕ). x ∷ drop n words) (sym (add-one i))) ∙ ap (λ (xs : List ℕ). map (λ y. 2 ^ place + y) xs) (front_cons (2 ^ place) x (drop (i + 1) words) below) in
      ap (λ (xs : List ℕ). xs ++ rest) (pushed ∙ ap (λ (n : ℕ). out ++ n ∷ []) (with_place place x short below))
      ∙ (append_assoc out ((2 ^ place + x) ∷ []) rest ∙ (ap (λ (xs : List ℕ). out ++ xs) (sym next) ∙ so_far))

-- The front of a rising list has its elements below the end.

front_every : (end : ℕ) (P : ℕ → Type 0) (xs : List ℕ) → AllByRecursion P xs → AllByRecursion (λ x. (x < end) × P x) (front end xs)
front_every end P [] h = tt
front_every end P (x ∷ xs) h = step (front_every end P xs h.1) (cases_lt x end)
  where
    step : AllByRecursion (λ y. (y < end) × P y) (front end xs) → (x < end) ⊎ (end ≤ x) → AllByRecursion (λ y. (y < end) × P y) (front end (x ∷ xs))
    step k (inl below) = rw (front_cons end x xs below) ((below, h.0), k)
    step k (inr above) = rw (front_stop end x xs above) tt

front_pairs : (end : ℕ) (R : ℕ → ℕ → Type 0) (xs : List ℕ) → Pairs R xs → Pairs R (front end xs)
front_pairs end R [] h = tt
front_pairs end R (x ∷ xs) h = step (front_pairs end R xs h.1) (cases_lt x end)
  where
    step : Pairs R (front end xs) → (x < end) ⊎ (end ≤ x) → Pairs R (front end (x ∷ xs))
    step k (inl below) = rw (front_cons end x xs below) (every_weaken (λ y. (y < end) × R x y) (R x) (λ y p. p.1) (front end xs) (front_every end (R x) xs h.0), k)
    step k (inr above) = rw (front_stop end x xs above) tt

front_in : (end : ℕ) (xs : List ℕ) (x : ℕ) → Pairs (λ a b. a < b) xs → x < end → In xs x → In (front end xs) x
front_in end [] x h below k = k
front_in end (y ∷ xs) x h below (inl e) = rw (front_cons end y xs (subst (λ (n : ℕ). n < end) (sym e) below)) (inl e)
front_in end (y ∷ xs) x h below (inr k) =
    let before = every_in (λ b. y < b) xs x h.0 k in
    rw (front_cons end y xs (omega arith)) (inr (front_in end xs x h.1 below k))

-- A number below a place has one 1 less than with a 1 there.
ones_with_place : (place x : ℕ) → x < 2 ^ place → count_ones (2 ^ place + x) ≡ count_ones x + 1
ones_with_place place x below =
    ap (λ (n : ℕ). count_ones (n + x)) (once (2 ^ place)) ∙ (ones_cat place 1 x below ∙ (ap (λ (n : ℕ). n + count_ones x) ones_one ∙ turned (count_ones x)))
  where
    once : (n : ℕ) → n ≡ 1 * n
    once n = omega arith

    turned : (n : ℕ) → 1 + n ≡ n + 1
    turned n = omega arith

-- One place more: the words without a 1 there, and those with one.
module _ (places ones place : ℕ) (words out : List ℕ) (inside : place < places) (level : IsLevel places ones words) (lower : IsLevel place (ones + 1) out) where
  below_place : List ℕ
  below_place = front (2 ^ place) words

  double : 2 ^ (place + 1) ≡ 2 ^ place + 2 ^ place
  double = ap (λ (n : ℕ). 2 ^ n) (add-one place) ∙ (pow-suc 2 place ∙ twice (2 ^ place))
    where
      twice : (n : ℕ) → n * 2 ≡ n + n
      twice n = omega arith

  known : AllByRecursion (λ x. (x < 2 ^ place) × ((x < 2 ^ places) × (count_ones x ≡ ones))) (front (2 ^ place) words)
  known = front_every (2 ^ place) (λ x. (x < 2 ^ places) × (count_ones x ≡ ones)) words level.each

  each_with : AllByRecursion (λ x. (x < 2 ^ (place + 1)) × (count_ones x ≡ ones + 1)) (map (λ x. 2 ^ place + x) (front (2 ^ place) words))
  each_with = every_map (λ x. 2 ^ place + x) _ _ (λ x h. (omega (arith, double), ones_with_place place x h.0 ∙ ap (λ (n : ℕ). n + 1) h.1.1)) (front (2 ^ place) words) known

  above : AllByRecursion (λ x. 2 ^ place ≤ x) (map (λ x. 2 ^ place + x) (front (2 ^ place) words))
  above = every_map (λ x. 2 ^ place + x) _ (λ x. 2 ^ place ≤ x) (λ x h. omega arith) (front (2 ^ place) words) known

  rising_with : Pairs (λ a b. a < b) (map (λ x. 2 ^ place + x) (front (2 ^ place) words))
  rising_with = pairs_map (λ x. 2 ^ place + x) _ (λ a b. a < b) (λ a b. a < b) (λ a b p q h. omega arith) (front (2 ^ place) words) known (front_pairs (2 ^ place) (λ a b. a < b) words (pairs_from (λ a b. a < b) words level.rising))

  all_with : (x : ℕ) → x < 2 ^ (place + 1) → count_ones x ≡ ones + 1 → (x < 2 ^ place) ⊎ (2 ^ place ≤ x) → In (out ++ map (λ y. 2 ^ place + y) (front (2 ^ place) words)) x
  all_with x below count (inl low) = in_left out _ x (in_from out x (lower.all x low count))
  all_with x below count (inr high) =
      let rest = x - 2 ^ place in
      let back : 2 ^ place + rest ≡ x = omega arith in
      let small : rest < 2 ^ place = omega (arith, double) in
      let less : count_ones rest ≡ ones = one_less (sym (ones_with_place place rest small) ∙ (ap count_ones back ∙ count)) in
      let wide : rest < 2 ^ places = omega (arith, pow_below place places inside) in
      in_right out _ x (subst (In (map (λ y. 2 ^ place + y) (front (2 ^ place) words))) back (in_map (λ y. 2 ^ place + y) (front (2 ^ place) words) rest (front_in (2 ^ place) words rest (pairs_from (λ a b. a < b) words level.rising) small (in_from words rest (level.all rest wide less)))))
    where
      one_less : {a : ℕ} → a + 1 ≡ ones + 1 → a ≡ ones
      one_less e = omega arith

  pub level_more : IsLevel (place + 1) (ones + 1) (out ++ map (λ x. 2 ^ place + x) (front (2 ^ place) words))
  level_more = record {
    each = every_append _ out _ (every_weaken (λ x. (x < 2 ^ place) × (count_ones x ≡ ones + 1)) _ (λ x h. (omega (arith, double), h.1)) out lower.each) each_with;
    rising = pairs_to (λ a b. a < b) _ (pairs_append (λ a b. a < b) out _ (pairs_from (λ a b. a < b) out lower.rising) rising_with (every_weaken (λ x. (x < 2 ^ place) × (count_ones x ≡ ones + 1)) _ (λ x h. every_weaken (λ y. 2 ^ place ≤ y) (λ y. x < y) (λ y k. omega arith) _ above) out lower.each));
    all = λ x below count. in_to _ x (all_with x below count (cases_lt x (2 ^ place)));
  }

-- The one number without ones is 0.
pub level_zero : (places : ℕ) → IsLevel places 0 (0 ∷ [])
level_zero places = record {
  each = ((pow_pos places, ones_zero), tt);
  rising = pairs_to (λ a b. a < b) (0 ∷ []) (tt, tt);
  all = λ x below none. in_to (0 ∷ []) x (inl (sym (zero_from_ones x none)));
}

-- the words of one 1 more, where their places are given as a sum
pub level_next : (m r columns ones : ℕ) (xs words ys : List ℕ) → r ≡ columns → IsLevel (m + columns) ones xs → words ≡ xs → ((n : ℕ) → IsLevel (m + r) n words → IsLevel (m + r) (n + 1) ys) → IsLevel (m + columns) (ones + 1) ys
level_next m r columns ones xs words ys same level is more =
    let places = ap (λ (n : ℕ). m + n) same in
    let here = subst (λ (zs : List ℕ). IsLevel (m + columns) ones zs) (sym is) level in
    subst (λ (n : ℕ). IsLevel n (ones + 1) ys) places (more ones (subst (λ (n : ℕ). IsLevel n ones words) (sym places) here))
