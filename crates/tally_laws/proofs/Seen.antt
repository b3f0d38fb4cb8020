-- What is seen of a run decides its outcome.
use Rattle.std.proofs.Common.{◌≡◌, refl, sym, ◌∙◌, ap, ℕ, zero, suc, ◌+◌, List, [], ◌∷◌, ◌++◌, length, take, Bool, true, false, ◌&&◌, ◌||◌, cond, arith, length-append}
use Rattle.std.specs.List.{list_all, list_any, range_with_len}
use Rattle.netlist_spec.specs.SourceRun.{Bits}
use Rattle.guard_spec.specs.Codes.{Code, Mode, detect, correct}
use Rattle.guard_spec.specs.Words.{Layout}
use Rattle.guard_spec.specs.Contained.{at_cycle, is_alarmed}
use Rattle.guard_spec.specs.Tally.{right, alarmed, decoded, wrong, is_right_at, is_right, is_alarmed_in_time, is_near, outcome_of}
use Rattle.tally_laws.specs.Seen.{Seen, nothing_seen, then_seen, is_right_cycle, is_near_cycle, seen_cycle, seen, outcome_seen}

-- ---- truth values

and_assoc : (a b c : Bool) → ((a && b) && c) ≡ (a && (b && c))
and_assoc true b c = refl
and_assoc false b c = refl

or_assoc : (a b c : Bool) → ((a || b) || c) ≡ (a || (b || c))
or_assoc true b c = refl
or_assoc false b c = refl

and_true : (a : Bool) → (a && true) ≡ a
and_true true = refl
and_true false = refl

or_false : (a : Bool) → (a || false) ≡ a
or_false true = refl
or_false false = refl

or_true : (a : Bool) → (a || true) ≡ true
or_true true = refl
or_true false = refl

in_time_assoc : (i r j q k : Bool) → ((i && (r || j)) && ((r || q) || k)) ≡ (i && (r || (j && (q || k))))
in_time_assoc false r j q k = refl
in_time_assoc true true j q k = refl
in_time_assoc true false j q k = refl

pub in_row : (a b c : Seen) → then_seen (then_seen a b) c ≡ then_seen a (then_seen b c)
in_row a b c =
    λ i. record {
      right = and_assoc a.right b.right c.right i;
      raised = or_assoc a.raised b.raised c.raised i;
      in_time = in_time_assoc a.in_time a.raised b.in_time b.raised c.in_time i;
      near = and_assoc a.near b.near c.near i;
    }

pub none_first : (a : Seen) → then_seen nothing_seen a ≡ a
none_first a = refl

pub none_last : (a : Seen) → then_seen a nothing_seen ≡ a
none_last a =
    λ i. record {
      right = and_true a.right i;
      raised = or_false a.raised i;
      in_time = (ap (λ (b : Bool). a.in_time && b) (or_true a.raised) ∙ and_true a.in_time) i;
      near = and_true a.near i;
    }

-- ---- tests over cycles

all_from : (p q : ℕ → Bool) (a b n : ℕ) → ((k : ℕ) → p (a + k) ≡ q (b + k)) → list_all p (range_with_len a n) ≡ list_all q (range_with_len b n)
all_from p q a b zero h = refl
all_from p q a b (suc n) h =
    let here : p a ≡ q b = ap p (let e : a ≡ a + 0 = omega arith in e) ∙ (h 0 ∙ ap q (let e : b + 0 ≡ b = omega arith in e)) in
    let rest = all_from p q (a + 1) (b + 1) n (λ k. ap p (let e : a + 1 + k ≡ a + suc k = omega arith in e) ∙ (h (suc k) ∙ ap q (let e : b + suc k ≡ b + 1 + k = omega arith in e))) in
    λ i. here i && rest i

tail_all : (p q : ℕ → Bool) (n : ℕ) → ((k : ℕ) → p (suc k) ≡ q k) → list_all p (range_with_len 0 (suc n)) ≡ (p 0 && list_all q (range_with_len 0 n))
tail_all p q n h =
    ap (λ (b : Bool). p 0 && b) (all_from p q (0 + 1) 0 n (λ k. ap p (let e : 0 + 1 + k ≡ suc k = omega arith in e) ∙ (h k ∙ ap q (let e : k ≡ 0 + k = omega arith in e))))

split_all : (b : Bool) (r s : ℕ → Bool) (a n : ℕ) → list_all (λ k. r k || (b || s k)) (range_with_len a n) ≡ (b || list_all (λ k. r k || s k) (range_with_len a n))
split_all false r s a n = refl
split_all true r s a zero = refl
split_all true r s a (suc n) = λ i. or_true (r a) i && split_all true r s (a + 1) n i

first_any : (p : Bits → Bool) (z : Bits) (zs : List Bits) → list_any p (take 1 (z ∷ zs)) ≡ p z
first_any p z [] = or_false (p z)
first_any p z (y ∷ zs) = or_false (p z)

module _ (code : Code) (l : Layout) (p t : ℕ) where
  right_seen : (ys zs : List Bits) → length zs ≡ length ys → is_right p ys zs ≡ (seen code l p t ys zs).right
  right_seen [] zs e = refl
  right_seen (y ∷ ys) [] e = absurd (omega arith)
  right_seen (y ∷ ys) (z ∷ zs) e =
      tail_all (is_right_at p (y ∷ ys) (z ∷ zs)) (is_right_at p ys zs) (length ys) (λ k. refl)
      ∙ ap (λ (b : Bool). is_right_cycle code l p t y z && b) (right_seen ys zs (omega arith))

  near_seen : (ys zs : List Bits) → length zs ≡ length ys → is_near code l p t ys zs ≡ (seen code l p t ys zs).near
  near_seen [] zs e = refl
  near_seen (y ∷ ys) [] e = absurd (omega arith)
  near_seen (y ∷ ys) (z ∷ zs) e =
      tail_all (λ c. is_near_cycle code l p t (at_cycle (y ∷ ys) c) (at_cycle (z ∷ zs) c)) (λ c. is_near_cycle code l p t (at_cycle ys c) (at_cycle zs c)) (length ys) (λ k. refl)
      ∙ ap (λ (b : Bool). is_near_cycle code l p t y z && b) (near_seen ys zs (omega arith))

  in_time_seen : (ys zs : List Bits) → length zs ≡ length ys → is_alarmed_in_time code l p ys zs ≡ (seen code l p t ys zs).in_time
  in_time_seen [] zs e = refl
  in_time_seen (y ∷ ys) [] e = absurd (omega arith)
  in_time_seen (y ∷ ys) (z ∷ zs) e =
      tail_all (λ c. is_right_at p (y ∷ ys) (z ∷ zs) c || list_any (is_alarmed code l p) (take (c + 1) (z ∷ zs)))
      (λ c. is_right_at p ys zs c || (is_alarmed code l p z || list_any (is_alarmed code l p) (take (c + 1) zs))) (length ys)
      (λ k. ap (λ n. is_right_at p ys zs k || list_any (is_alarmed code l p) (take n (z ∷ zs))) (let e : suc k + 1 ≡ suc (k + 1) = omega arith in e))
      ∙ (ap (λ (b : Bool). (is_right_cycle code l p t y z || b) && list_all (λ c. is_right_at p ys zs c || (is_alarmed code l p z || list_any (is_alarmed code l p) (take (c + 1) zs))) (range_with_len 0 (length ys))) (first_any (is_alarmed code l p) z zs)
      ∙ (ap (λ (b : Bool). (is_right_cycle code l p t y z || is_alarmed code l p z) && b) (split_all (is_alarmed code l p z) (is_right_at p ys zs) (λ c. list_any (is_alarmed code l p) (take (c + 1) zs)) 0 (length ys))
      ∙ ap (λ (b : Bool). (is_right_cycle code l p t y z || is_alarmed code l p z) && (is_alarmed code l p z || b)) (in_time_seen ys zs (omega arith))))

  pub outcome_is_seen : (mode : Mode) (ys zs : List Bits) → length zs ≡ length ys → outcome_of code l p mode t ys zs ≡ outcome_seen mode (seen code l p t ys zs)
  outcome_is_seen detect ys zs e = λ i. cond (right_seen ys zs e i) right (cond (in_time_seen ys zs e i) alarmed wrong)
  outcome_is_seen correct ys zs e = λ i. cond (right_seen ys zs e i) right (cond (near_seen ys zs e i) decoded wrong)

  pub seen_parts : (ys zs more later : List Bits) → length zs ≡ length ys → seen code l p t (ys ++ more) (zs ++ later) ≡ then_seen (seen code l p t ys zs) (seen code l p t more later)
  seen_parts [] [] more later e = sym (none_first (seen code l p t more later))
  seen_parts [] (z ∷ zs) more later e = absurd (omega arith)
  seen_parts (y ∷ ys) [] more later e = absurd (omega arith)
  seen_parts (y ∷ ys) (z ∷ zs) more later e =
      ap (then_seen (seen_cycle code l p t y z)) (seen_parts ys zs more later (omega arith))
      ∙ sym (in_row (seen_cycle code l p t y z) (seen code l p t ys zs) (seen code l p t more later))

  pub outcome_by_parts : (mode : Mode) (ys zs wanted shown more later : List Bits) → length zs ≡ length ys → length shown ≡ length wanted → length later ≡ length more
      → outcome_of code l p mode t (ys ++ (wanted ++ more)) (zs ++ (shown ++ later)) ≡ outcome_seen mode (then_seen (then_seen (seen code l p t ys zs) (seen code l p t wanted shown)) (seen code l p t more later))
  outcome_by_parts mode ys zs wanted shown more later e f g =
      let a = length-append zs (shown ++ later) in
      let b = length-append shown later in
      let c = length-append ys (wanted ++ more) in
      let d = length-append wanted more in
      outcome_is_seen mode (ys ++ (wanted ++ more)) (zs ++ (shown ++ later)) (omega arith)
      ∙ ap (outcome_seen mode)
      (seen_parts ys zs (wanted ++ more) (shown ++ later) e
      ∙ (ap (then_seen (seen code l p t ys zs)) (seen_parts wanted shown more later f)
      ∙ sym (in_row (seen code l p t ys zs) (seen code l p t wanted shown) (seen code l p t more later))))
