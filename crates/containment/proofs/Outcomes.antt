-- Contained runs are not wrong.
use Rattle.std.proofs.Common.{◌≡◌, refl, sym, ◌∙◌, ap, subst, ℕ, zero, suc, ◌+◌, ◌<◌, ◌≤◌, List, [], ◌∷◌, ◌++◌, length, map, take, get_or, Bool, true, false, cond, ◌||◌, ◌==◌, nat_le, ◌⊎◌, inl, inr, arith, eqb-true, le-leb, ext_get_or, get_or-take, length-take-le}
use Rattle.std.proofs.lemmas.Bool.{cases_Bool, and_from, or_left, or_right}
use Rattle.std.specs.Bool.{beq}
use Rattle.std.specs.List.{AllByRecursion, list_all, list_any, enumerate_from, range_with_len}
use Rattle.std.specs.Cmp.Lexicographic.{pointwise}
use Rattle.netlist_spec.specs.SourceRun.{Bits}
use Rattle.guard_spec.specs.Codes.{Code, encoded, apart, Decodes, detect, correct}
use Rattle.guard_spec.specs.Words.{output_word, Words, Layout, IsPartition, bits_at, all_numbers}
use Rattle.guard_spec.specs.Contained.{at_cycle, is_alarmed, IsWholeAt, DecodesAt, IsUpBy, IsDetected}
use Rattle.guard_spec.specs.Tally.{right, alarmed, decoded, wrong, is_right_at, is_right, is_alarmed_in_time, is_near, outcome_of}
use Rattle.containment.specs.Outcomes.{HaveOutputs}
use Rattle.containment.proofs.Counting.{number, number_counts}

-- Whole words show the right outputs.

same_front : (f h : ℕ → Bool) (w : List ℕ) (xs ys : Bits) → map f w ++ xs ≡ map h w ++ ys → AllByRecursion (λ i. f i ≡ h i) w
same_front f h [] xs ys e = tt
same_front f h (i ∷ w) xs ys e = ((let k : f i ≡ h i = cc in k), same_front f h w xs ys (let k : map f w ++ xs ≡ map h w ++ ys = cc in k))

All_both : (P : ℕ → Type 0) (xs ys : List ℕ) → AllByRecursion P xs → AllByRecursion P ys → AllByRecursion P (xs ++ ys)
All_both P [] ys a b = b
All_both P (x ∷ xs) ys a b = (a.0, All_both P xs ys a.1 b)

in_all_words : (code : Code) (l : Layout) (p : ℕ) (y z : Bits) (k : ℕ) (ws : Words) → AllByRecursion (λ (w : ℕ × List ℕ). output_word code p z w ≡ encoded code (bits_at w.1 y)) (enumerate_from k ws) → AllByRecursion (λ i. get_or z i false ≡ get_or y i false) (all_numbers ws)
in_all_words code l p y z k [] all = tt
in_all_words code l p y z k (w ∷ ws) all =
    All_both (λ i. get_or z i false ≡ get_or y i false) w (all_numbers ws)
    (same_front (λ i. get_or z i false) (λ i. get_or y i false) w _ _ all.0)
    (in_all_words code l p y z (k + 1) ws all.1)

-- what holds of each number of a list holds of one that stands in it
holds_of : (P : ℕ → Type 0) (ks : List ℕ) (i : ℕ) → AllByRecursion P ks → 0 < number (λ k. k == i) ks → P i
holds_of P [] i all some = absurd (omega arith)
holds_of P (k ∷ ks) i all some = by_case (cases_Bool (k == i)) (holds_of P ks i all.1)
  where
    later : (b : Bool) (n : ℕ) → b ≡ false → 0 < cond b 1 0 + n → 0 < n
    later true n e h = cc e
    later false n e h = omega arith

    by_case : ((k == i) ≡ true) ⊎ ((k == i) ≡ false) → (0 < number (λ k. k == i) ks → P i) → P i
    by_case (inl e) rest = subst P (eqb-true k i e) all.0
    by_case (inr e) rest = rest (later (k == i) _ e some)

pub whole_is_right : (code : Code) (l : Layout) (p k : ℕ) → IsPartition p k l.output → (y z : Bits) → length y ≡ p → p ≤ length z → IsWholeAt code l p y z → take p z ≡ y
whole_is_right code l p k words y z long room whole =
    ext_get_or false (take p z) y (length-take-le p z room ∙ sym long) (λ i h.
    let small : i < p = subst (λ (n : ℕ). i < n) (length-take-le p z room) h in
    get_or-take p z i false small ∙ holds_of (λ i. get_or z i false ≡ get_or y i false) (all_numbers l.output) i (in_all_words code l p y z 0 l.output whole)
    (let e = number_counts (λ j. j == i) (all_numbers l.output) in let f = words.each_once i small in omega arith))

-- Tests over all cycles.

all_pass : (p : ℕ → Bool) (a n : ℕ) → ((k : ℕ) → a ≤ k → k < a + n → p k ≡ true) → list_all p (range_with_len a n) ≡ true
all_pass p a zero h = refl
all_pass p a (suc n) h = and_from (p a) _ (h a (omega arith) (omega arith)) (all_pass p (a + 1) n (λ k low high. h k (omega arith) (omega arith)))

each_passes_test : {A : Type 0} (p : A → Bool) (xs : List A) → AllByRecursion (λ x. p x ≡ true) xs → list_all p xs ≡ true
each_passes_test p [] a = refl
each_passes_test p (x ∷ xs) a = and_from (p x) _ a.0 (each_passes_test p xs a.1)

some_passes : (p : Bits → Bool) (xs : List Bits) (i : ℕ) → i < length xs → p (get_or xs i []) ≡ true → list_any p xs ≡ true
some_passes p [] i h t = absurd (omega arith)
some_passes p (x ∷ xs) zero h t = or_left (p x) _ t
some_passes p (x ∷ xs) (suc i) h t = or_right (p x) _ (some_passes p xs i (omega arith) t)

same_test : (bs : Bits) → pointwise beq bs bs ≡ true
same_test [] = refl
same_test (true ∷ bs) = same_test bs
same_test (false ∷ bs) = same_test bs

module _ (code : Code) (l : Layout) (p k t : ℕ) (words : IsPartition p k l.output) (ys zs : List Bits) (have : HaveOutputs p ys zs) where
  in_time : IsDetected code l p (length ys) ys zs → is_alarmed_in_time code l p ys zs ≡ true
  in_time detected = all_pass (λ c. is_right_at p ys zs c || list_any (is_alarmed code l p) (take (c + 1) zs)) 0 (length ys) (λ c low high. let h : c < length ys = omega arith in at c h (detected c h))
    where
      at : (c : ℕ) → c < length ys → ((i : ℕ) → i ≤ c → IsWholeAt code l p (at_cycle ys i) (at_cycle zs i)) ⊎ IsUpBy code l p zs c → (is_right_at p ys zs c || list_any (is_alarmed code l p) (take (c + 1) zs)) ≡ true
      at c h (inl whole) =
          let sizes = have.1 c h in
          or_left _ _ (subst (λ (bs : Bits). pointwise beq bs (at_cycle ys c) ≡ true) (sym (whole_is_right code l p k words (at_cycle ys c) (at_cycle zs c) sizes.0 sizes.1 (whole c (omega arith)))) (same_test (at_cycle ys c)))
      at c h (inr (i, before, up)) =
          let same = have.0 in
          let all_long : length (take (c + 1) zs) ≡ c + 1 = length-take-le (c + 1) zs (omega arith) in
          or_right _ _ (some_passes (is_alarmed code l p) (take (c + 1) zs) i (omega arith) (ap (is_alarmed code l p) (get_or-take (c + 1) zs i [] (omega arith)) ∙ up))

  -- In detection a contained run is right or alarmed, and in correction right or decoded.
  pub detected_outcome : IsDetected code l p (length ys) ys zs → (outcome_of code l p detect t ys zs ≡ right) ⊎ (outcome_of code l p detect t ys zs ≡ alarmed)
  detected_outcome detected = by_tests (is_right p ys zs) (is_alarmed_in_time code l p ys zs) (in_time detected)
    where
      by_tests : (a b : Bool) → b ≡ true → (cond a right (cond b alarmed wrong) ≡ right) ⊎ (cond a right (cond b alarmed wrong) ≡ alarmed)
      by_tests true b e = inl refl
      by_tests false true e = inr refl
      by_tests false false e = cc e

module _ (code : Code) (l : Layout) (p t : ℕ) (ys zs : List Bits) where
  pub corrected_outcome : ((c : ℕ) → c < length ys → DecodesAt code l p t (at_cycle ys c) (at_cycle zs c)) → (outcome_of code l p correct t ys zs ≡ right) ⊎ (outcome_of code l p correct t ys zs ≡ decoded)
  corrected_outcome all = by_tests (is_right p ys zs) (is_near code l p t ys zs) near
    where
      each : (y z : Bits) (ws : List (ℕ × List ℕ)) → AllByRecursion (λ (w : ℕ × List ℕ). Decodes code t (output_word code p z w) (bits_at w.1 y)) ws → AllByRecursion (λ (w : ℕ × List ℕ). nat_le (apart (output_word code p z w) (encoded code (bits_at w.1 y))) t ≡ true) ws
      each y z [] a = tt
      each y z (w ∷ ws) a = (le-leb _ t a.0.near, each y z ws a.1)

      near : is_near code l p t ys zs ≡ true
      near = all_pass _ 0 (length ys) (λ c low high. each_passes_test _ (enumerate_from 0 l.output) (each (at_cycle ys c) (at_cycle zs c) (enumerate_from 0 l.output) (all c (omega arith))))

      by_tests : (a b : Bool) → b ≡ true → (cond a right (cond b decoded wrong) ≡ right) ⊎ (cond a right (cond b decoded wrong) ≡ decoded)
      by_tests true b e = inl refl
      by_tests false true e = inr refl
      by_tests false false e = cc e
