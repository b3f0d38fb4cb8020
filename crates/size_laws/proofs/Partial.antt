-- A sum over some of the words is at most the whole size.
use Rattle.std.proofs.Common.{◌≡◌, sym, ◌∙◌, ap, ap₂, subst, refl, ℕ, ◌+◌, ◌≤◌, List, [], ◌∷◌, ◌++◌, arith}
use Rattle.std.specs.Prelude.{sum_by}
use Rattle.std.specs.List.{AllZip}
use Rattle.std.proofs.lemmas.List.Sums.{sum_by-append, sum_by-cons}
use Rattle.guard_spec.specs.Codes.{Code, Mode}
use Rattle.guard_spec.specs.Words.{Words, Layout}
use Rattle.guard_spec.specs.Plain.{AreNets, word_cost, BitCost, WordCost, WordsCost}
use Rattle.size_laws.specs.Sizes.{Decided, HoldsOfOne}
use Rattle.size_laws.proofs.OneSize.{one_list_of_nets, one_bit_cost, one_word_cost}
use Rattle.size_laws.proofs.WordCosts.{word_cost_front}

abbrev total_of : List ℕ → ℕ
total_of costs = sum_by (λ c. c) costs

pub one_value : (P : ℕ → Type 0) → HoldsOfOne P → (a b : ℕ) → P a → P b → a ≡ b
one_value P one a b p q = one.1.alone a p ∙ sym (one.1.alone b q)

-- The costs of the first elements stand in front of those of all.
costs_front : {A : Type 0} (R : A → ℕ → Type 0) → ((x : A) (a b : ℕ) → R x a → R x b → a ≡ b) → (xs more : List A) (front costs : List ℕ) → AllZip R xs front → AllZip R (xs ++ more) costs → (rest : List ℕ) × AllZip R more rest × (costs ≡ front ++ rest)
costs_front R one [] more [] costs a b = (costs, b, refl)
costs_front R one [] more (c ∷ front) costs a b = absurd a
costs_front R one (x ∷ xs) more [] costs a b = absurd a
costs_front R one (x ∷ xs) more (c ∷ front) [] a b = absurd b
costs_front R one (x ∷ xs) more (c ∷ front) (d ∷ costs) a b =
    let (rest, are, e) = costs_front R one xs more front costs a.1 b.1 in
    (rest, are, ap₂ (λ z zs. z ∷ zs) (one x d c b.0 a.0) e)

costs_more : {A : Type 0} (R : A → ℕ → Type 0) (xs : List A) (x : A) (costs : List ℕ) (c : ℕ) → AllZip R xs costs → R x c → AllZip R (xs ++ x ∷ []) (costs ++ c ∷ [])
costs_more R [] x [] c a r = (r, tt)
costs_more R [] x (d ∷ costs) c a r = absurd a
costs_more R (y ∷ xs) x [] c a r = absurd a
costs_more R (y ∷ xs) x (d ∷ costs) c a r = (a.0, costs_more R xs x costs c a.1 r)

module _ {X : Type 0} (ConeCost : X → ℕ → Type 0) (RestsOn : X → ℕ → Type 0) (code : Code) (mode : Mode) (radius : ℕ) (cones : (x : X) → HoldsOfOne (ConeCost x)) (rests : (x : X) (i : ℕ) → Decided (RestsOn x i)) where
  one_bit : (state : Words) (x : X) (a b : ℕ) → BitCost ConeCost RestsOn code mode radius state x a → BitCost ConeCost RestsOn code mode radius state x b → a ≡ b
  one_bit state x = one_value (BitCost ConeCost RestsOn code mode radius state x) (one_bit_cost ConeCost RestsOn code mode radius cones rests state x)

  abbrev CostAt : Layout → List X → List ℕ → ℕ → Type 0
  CostAt l all word cost = (nets : List X) × AreNets all word nets × WordCost ConeCost RestsOn code mode radius l.state nets cost

  one_cost : (l : Layout) (all : List X) (word : List ℕ) (a b : ℕ) → CostAt l all word a → CostAt l all word b → a ≡ b
  one_cost l all word a b p q =
      one_value (WordCost ConeCost RestsOn code mode radius l.state q.0) (one_word_cost ConeCost RestsOn code mode radius cones rests l.state q.0) a b
      (subst (λ (xs : List X). WordCost ConeCost RestsOn code mode radius l.state xs a) (one_list_of_nets all word p.0 q.0 p.1 q.1) p.2) q.2

  -- the costs of the first words, and one word more
  pub words_more : (l : Layout) (all : List X) (done : Words) (word : List ℕ) (nets : List X) (a c : ℕ) → WordsCost ConeCost RestsOn code mode radius l all done a → AreNets all word nets → WordCost ConeCost RestsOn code mode radius l.state nets c → WordsCost ConeCost RestsOn code mode radius l all (done ++ word ∷ []) (a + c)
  words_more l all done word nets a c w are cost =
      (w.0 ++ c ∷ [], costs_more (CostAt l all) done word w.0 c w.1 (nets, are, cost), (let e = sum_by-append (λ (k : ℕ). k) w.0 (c ∷ []) in let one : sum_by (λ (k : ℕ). k) (c ∷ []) ≡ c = omega arith in let t = w.2 in omega arith))

  -- what is behind the first words
  words_rest : (l : Layout) (all : List X) (done rest : Words) (a n : ℕ) → WordsCost ConeCost RestsOn code mode radius l all done a → WordsCost ConeCost RestsOn code mode radius l all (done ++ rest) n → (costs : List ℕ) × AllZip (CostAt l all) rest costs × (n ≡ a + total_of costs)
  words_rest l all done rest a n w v =
      let (costs, are, e) = costs_front (CostAt l all) (one_cost l all) done rest w.0 v.0 w.1 v.1 in
      (costs, are, v.2 ∙ (ap total_of e ∙ (sum_by-append (λ (k : ℕ). k) w.0 costs ∙ ap (λ (k : ℕ). k + total_of costs) (sym w.2))))

  pub words_within : (l : Layout) (all : List X) (done rest : Words) (a n : ℕ) → WordsCost ConeCost RestsOn code mode radius l all done a → WordsCost ConeCost RestsOn code mode radius l all (done ++ rest) n → a ≤ n
  words_within l all done rest a n w v = let e = (words_rest l all done rest a n w v).2 in omega arith

  -- the first bits of the next word
  word_within : (l : Layout) (all : List X) (word : List ℕ) (nets more : List X) (costs : List ℕ) (c : ℕ) → AreNets all word (nets ++ more) → AllZip (BitCost ConeCost RestsOn code mode radius l.state) nets costs → CostAt l all word c → word_cost code costs ≤ c
  word_within l all word nets more costs c are bits at =
      let same = subst (λ (xs : List X). WordCost ConeCost RestsOn code mode radius l.state xs c) (one_list_of_nets all word at.0 (nets ++ more) at.1 are) at.2 in
      let (rest, others, e) = costs_front (BitCost ConeCost RestsOn code mode radius l.state) (one_bit l.state) nets more costs same.0 bits same.1 in
      let front = word_cost_front code costs rest in
      let total : c ≡ word_cost code (costs ++ rest) = same.2 ∙ ap (word_cost code) e in
      omega arith

  pub next_within : (l : Layout) (all : List X) (done : Words) (word : List ℕ) (rest : Words) (nets more : List X) (costs : List ℕ) (a n : ℕ) → WordsCost ConeCost RestsOn code mode radius l all done a → AreNets all word (nets ++ more) → AllZip (BitCost ConeCost RestsOn code mode radius l.state) nets costs → WordsCost ConeCost RestsOn code mode radius l all (done ++ word ∷ rest) n → a + word_cost code costs ≤ n
  next_within l all done word rest nets more costs a n w are bits v = by_costs (words_rest l all done (word ∷ rest) a n w v)
    where
      by_costs : (cs : List ℕ) × AllZip (CostAt l all) (word ∷ rest) cs × (n ≡ a + total_of cs) → a + word_cost code costs ≤ n
      by_costs ([], none, e) = absurd none
      by_costs (c ∷ cs, are_costs, e) =
          let h = sum_by-cons (λ (k : ℕ). k) c cs in
          let b = word_within l all word nets more costs c are bits are_costs.0 in
          let t : n ≡ a + total_of (c ∷ cs) = e in
          omega arith
