-- A size exists and is one, where the cones have one cost and the latches on which a net rests are decided.
use Rattle.std.proofs.Common.{◌≡◌, ◌∙◌, ap, ap₂, subst, refl, ℕ, ◌+◌, ◌*◌, ◌<◌, List, [], ◌∷◌, length, Contains}
use Rattle.std.specs.Prelude.{sum_by}
use Rattle.std.specs.List.{AllByRecursion, AllZip}
use Rattle.guard_spec.specs.Codes.{Code, Mode, detect, correct}
use Rattle.guard_spec.specs.Words.{Words, Layout, all_numbers}
use Rattle.netlist_spec.specs.Cones.{marked_sum}
use Rattle.guard_spec.specs.Plain.{AreNets, corrector_cost, word_cost, rail_cost, CorrectorCost, BitCost, WordCost, WordsCost, IsPlainSize}
use Rattle.netlist_spec.proofs.OneValue.{All_front, All_back}
use Rattle.size_laws.specs.Sizes.{Decided, HoldsOfOne, Fits}
use Rattle.size_laws.proofs.Lists.{some_decided, marks_for, one_sum, element_at, one_element}

-- ---- nets of words

pub nets_of : {X : Type 0} (all : List X) (word : List ℕ) → AllByRecursion (λ i. i < length all) word → (nets : List X) × AreNets all word nets
nets_of all [] within = ([], tt)
nets_of all (i ∷ word) within =
    let (x, is) = element_at all i within.0 in
    let (nets, are) = nets_of all word within.1 in
    (x ∷ nets, (is, are))

pub one_list_of_nets : {X : Type 0} (all : List X) (word : List ℕ) (nets others : List X) → AreNets all word nets → AreNets all word others → nets ≡ others
one_list_of_nets all [] [] [] a b = refl
one_list_of_nets all [] [] (y ∷ ys) a b = absurd b
one_list_of_nets all [] (x ∷ xs) ys a b = absurd a
one_list_of_nets all (i ∷ word) [] ys a b = absurd a
one_list_of_nets all (i ∷ word) (x ∷ xs) [] a b = absurd b
one_list_of_nets all (i ∷ word) (x ∷ xs) (y ∷ ys) a b = ap₂ (λ z zs. z ∷ zs) (one_element all i x y a.0 b.0) (one_list_of_nets all word xs ys a.1 b.1)

each_word : (n : ℕ) (words : Words) → AllByRecursion (λ i. i < n) (all_numbers words) → AllByRecursion (λ w. AllByRecursion (λ i. i < n) w) words
each_word n [] within = tt
each_word n (w ∷ words) within = (All_front (λ i. i < n) w (all_numbers words) within, each_word n words (All_back (λ i. i < n) w (all_numbers words) within))

-- ---- costs of the elements of a list

-- the costs of a list, and no others
abbrev AreOneList : {A : Type 0} → (A → ℕ → Type 0) → List A → List ℕ → Type 0
AreOneList R xs costs = AllZip R xs costs × ((others : List ℕ) → AllZip R xs others → others ≡ costs)

one_list : {A : Type 0} (P : A → Type 0) (R : A → ℕ → Type 0) → ((x : A) → P x → HoldsOfOne (R x)) → (xs : List A) → AllByRecursion P xs → (costs : List ℕ) × AreOneList R xs costs
one_list P R f [] h = ([], (tt, none))
  where
    none : (others : List ℕ) → AllZip R [] others → others ≡ []
    none [] a = refl
    none (c ∷ cs) a = absurd a
one_list P R f (x ∷ xs) h =
    let (c, one) = f x h.0 in
    let (costs, (are, alone)) = one_list P R f xs h.1 in
    (c ∷ costs, ((one.holds, are), both c costs one.alone alone))
  where
    both : (c : ℕ) (costs : List ℕ) → ((k : ℕ) → R x k → k ≡ c) → ((others : List ℕ) → AllZip R xs others → others ≡ costs) → (others : List ℕ) → AllZip R (x ∷ xs) others → others ≡ c ∷ costs
    both c costs first rest [] a = absurd a
    both c costs first rest (k ∷ ks) a = ap₂ (λ z zs. z ∷ zs) (first k a.0) (rest ks a.1)

each_all : {A : Type 0} (xs : List A) → AllByRecursion (λ (x : A). Unit {0}) xs
each_all [] = tt
each_all (x ∷ xs) = (tt, each_all xs)

module _ {X : Type 0} (ConeCost : X → ℕ → Type 0) (RestsOn : X → ℕ → Type 0) (code : Code) (mode : Mode) (radius : ℕ) (cones : (x : X) → HoldsOfOne (ConeCost x)) (rests : (x : X) (i : ℕ) → Decided (RestsOn x i)) where
  one_corrector_cost : (mode : Mode) (state : Words) (x : X) → HoldsOfOne (CorrectorCost ConeCost RestsOn code mode radius mode state x)
  one_corrector_cost detect state x = (0, record { holds = refl; alone = λ k e. e })
  one_corrector_cost correct state x =
      let (marks, are) = marks_for (λ w. (i : ℕ) × Contains w i × RestsOn x i) (λ w. some_decided (RestsOn x) (rests x) w) state in (
        marked_sum (λ w. corrector_cost code radius (length w)) state marks,
        record {
          holds = (marks, are, refl);
          alone = λ k h. h.2 ∙ one_sum (λ w. (i : ℕ) × Contains w i × RestsOn x i) (λ w. corrector_cost code radius (length w)) state h.0 marks h.1 are;
        },
      )

  pub one_bit_cost : (state : Words) (x : X) → HoldsOfOne (BitCost ConeCost RestsOn code mode radius state x)
  one_bit_cost state x =
      let (cone, c) = cones x in
      let (correctors, r) = one_corrector_cost mode state x in (
        2 + cone + correctors,
        record {
          holds = record { cone = cone; is_cone = c.holds; correctors = correctors; are_correctors = r.holds; total = refl };
          alone = λ k b. b.total ∙ ap₂ (λ (p q : ℕ). 2 + p + q) (c.alone b.cone b.is_cone) (r.alone b.correctors b.are_correctors);
        },
      )

  pub one_word_cost : (state : Words) (nets : List X) → HoldsOfOne (WordCost ConeCost RestsOn code mode radius state nets)
  one_word_cost state nets =
      let (costs, (are, alone)) = one_list (λ x. Unit {0}) (BitCost ConeCost RestsOn code mode radius state) (λ x h. one_bit_cost state x) nets (each_all nets) in (
        word_cost code costs,
        record {
          holds = (costs, are, refl);
          alone = λ k w. w.2 ∙ ap (word_cost code) (alone w.0 w.1);
        },
      )

  abbrev pub IsCostAt : Layout → List X → List ℕ → ℕ → Type 0
  IsCostAt l all word cost = (nets : List X) × AreNets all word nets × WordCost ConeCost RestsOn code mode radius l.state nets cost

  pub one_cost_at : (l : Layout) (all : List X) (word : List ℕ) → AllByRecursion (λ i. i < length all) word → HoldsOfOne (IsCostAt l all word)
  one_cost_at l all word within =
      let (nets, are) = nets_of all word within in
      let (n, one) = one_word_cost l.state nets in (
        n,
        record {
          holds = (nets, are, one.holds);
          alone = λ k h. one.alone k (subst (λ (xs : List X). WordCost ConeCost RestsOn code mode radius l.state xs k) (one_list_of_nets all word h.0 nets h.1 are) h.2);
        },
      )

  pub one_words_cost : (l : Layout) (all : List X) (words : Words) → AllByRecursion (λ i. i < length all) (all_numbers words) → HoldsOfOne (WordsCost ConeCost RestsOn code mode radius l all words)
  one_words_cost l all words within =
      let (costs, (are, alone)) = one_list (λ w. AllByRecursion (λ i. i < length all) w) (IsCostAt l all) (one_cost_at l all) words (each_word (length all) words within) in (
        sum_by (λ c. c) costs,
        record {
          holds = (costs, are, refl);
          alone = λ k w. w.2 ∙ ap (sum_by (λ c. c)) (alone w.0 w.1);
        },
      )

  pub one_size : (rails : ℕ) (l : Layout) (stores outs : List X) → Fits (length stores) (length outs) l → HoldsOfOne (IsPlainSize ConeCost RestsOn code mode radius rails l stores outs)
  one_size rails l stores outs fits =
      let (state, s) = one_words_cost l stores l.state fits.state in
      let (output, o) = one_words_cost l outs l.output fits.output in (
        sum_by (λ w. length w + code.columns) l.state + state + output + rails * rail_cost code l,
        record {
          holds = record { state_cost = state; is_state_cost = s.holds; output_cost = output; is_output_cost = o.holds; total = refl };
          alone = λ k p. p.total ∙ ap₂ (λ (a b : ℕ). sum_by (λ w. length w + code.columns) l.state + a + b + rails * rail_cost code l) (s.alone p.state_cost p.is_state_cost) (o.alone p.output_cost p.is_output_cost);
        },
      )
