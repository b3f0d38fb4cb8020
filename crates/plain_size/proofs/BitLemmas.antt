-- What a bit costs, from what a walk through its cone finds.
use Rattle.std.proofs.Common.{◌≡◌, refl, sym, ◌∙◌, ap, subst, ℕ, suc, ◌+◌, ◌≤◌, Bool, true, false, List, [], ◌∷◌, length, take, drop, replicate, arith, Option, Some, None, slice_get}
use Rattle.std.proofs.lemmas.List.{get_or-take, get_or-drop}
use Rattle.std.proofs.lemmas.Option.{slice_get_within}
use Rattle.netlist_spec.specs.Netlist.{Name, Statement}
use Rattle.netlist_spec.specs.Size.{cost_of}
use Rattle.netlist_spec.specs.Cones.{marked_sum, AreMarked, IsInCone, ConeCostOf, RestsOnLatch}
use Rattle.guard_spec.specs.Codes.{Mode, detect, correct}
use Rattle.guard_spec.specs.Plain.{corrector_cost, BitCost}
use Rattle.size_laws.specs.ConeMarks.{statements_of}
use Rattle.size_laws.specs.Partial.{NeedsWord}
use Rattle.size_laws.proofs.OneSize.{one_bit_cost}
use Rattle.size_laws.proofs.SourceCones.{one_cone_cost, rests_decided}
use Rattle.plain_size.specs.Walks.{cost_sum, IsReachCost}
use Rattle.plain_size.specs.Cones.{Source, read_words, bit, IsConeGraph, AreNodeCosts}
use Rattle.plain_size.specs.Sums.{IsBehind}
use Rattle.plain_size.proofs.ConeLemmas.{some_cost_less, sum_split, sums_cut, one_each, cone_marks, word_marks, leads_cone, leads_needs, none_in_cone, none_needed}

-- no marks where no element has the property
unmarked : {A : Type 0} (P : A → Type 0) (xs : List A) → ((i : ℕ) (x : A) → slice_get xs i ≡ Some x → P x → ⊥) → AreMarked P xs (replicate (length xs) false)
unmarked P [] h = tt
unmarked P (x ∷ xs) h = ((λ e. let clash : false ≡ true = e in cc clash, λ q. absurd (h 0 x refl q)), unmarked P xs (λ i y at. h (suc i) y at))

unmarked_sum : {A : Type 0} (f : A → ℕ) (xs : List A) → marked_sum f xs (replicate (length xs) false) ≡ 0
unmarked_sum f [] = refl
unmarked_sum f (x ∷ xs) = let r = unmarked_sum f xs in omega arith

module _ (p : Source) (x : Name) where
  abbrev price : List ℕ → ℕ
  price w = corrector_cost p.code p.radius (length w)

  abbrev cone_sum : List Bool → ℕ
  cone_sum marks = marked_sum (cost_of p.file p.library) (statements_of p.m) marks

  abbrev word_sum : Mode → List Bool → ℕ
  word_sum mode marks = marked_sum price (read_words mode p.state) marks

  abbrev InCone : Statement → Type 0
  InCone = IsInCone p.file p.library p.m x

  abbrev Needed : List ℕ → Type 0
  Needed = NeedsWord p.file p.library p.m x

  abbrev CostsIn : Mode → ℕ → Type 0
  CostsIn mode n = BitCost (ConeCostOf p.file p.library p.m) (RestsOnLatch p.file p.library p.m) p.code mode p.radius p.state x n

  -- the cost of a bit from marks
  bit_from : (mode : Mode) (cone words : List Bool) → AreMarked InCone (statements_of p.m) cone → AreMarked Needed (read_words mode p.state) words → CostsIn mode (2 + (cone_sum cone + word_sum mode words))
  bit_from detect cone words a b = record { cone = cone_sum cone; is_cone = (cone, a, refl); correctors = 0; are_correctors = refl; total = (let z : 2 + (cone_sum cone + 0) ≡ 2 + cone_sum cone + 0 = omega arith in z) }
  bit_from correct cone words a b = record { cone = cone_sum cone; is_cone = (cone, a, refl); correctors = word_sum correct words; are_correctors = (words, b, refl); total = omega arith }

  -- and marks from the cost of a bit
  abbrev Parts : Mode → ℕ → Type 0
  Parts mode n = (cone words : List Bool) × AreMarked InCone (statements_of p.m) cone × AreMarked Needed (read_words mode p.state) words × (n ≡ 2 + (cone_sum cone + word_sum mode words))

  bit_parts : (mode : Mode) (n : ℕ) → CostsIn mode n → Parts mode n
  bit_parts detect n b =
      let (marks, are, e) = b.is_cone in
      let none : b.correctors ≡ 0 = b.are_correctors in
      let t = b.total in
      (marks, [], are, tt, omega arith)
  bit_parts correct n b =
      let (marks, are, e) = b.is_cone in
      let (words, are_words, f) = b.are_correctors in
      let t = b.total in
      (marks, words, are, are_words, omega arith)

  module _ (node : Name → Option ℕ) (graph : List (List ℕ)) (costs : List ℕ) (g : IsConeGraph p.file p.library p.m (read_words p.mode p.state) node graph) (prices : AreNodeCosts p costs) where
    first_is : length prices.statements ≡ length (statements_of p.m)
    first_is = sym (one_each (λ s c. c ≡ _) (statements_of p.m) prices.statements prices.of_statements)

    parted : (marks : List Bool) → cost_sum costs marks ≡ cost_sum prices.statements (take (length (statements_of p.m)) marks) + cost_sum prices.words (drop (length (statements_of p.m)) marks)
    parted marks =
        ap (λ (cs : List ℕ). cost_sum cs marks) prices.all
        ∙ (sum_split prices.statements prices.words marks ∙ ap (λ (k : ℕ). cost_sum prices.statements (take k marks) + cost_sum prices.words (drop k marks)) first_is)

    pub behind_node : (start total : ℕ) → node x ≡ Some start → (r : Option ℕ) → IsReachCost graph costs start total r → IsBehind p x total r
    behind_node start total begins (Some n) (marks, are, e, small) =
        let first = length (statements_of p.m) in
        let sum = parted marks in
        let a = sums_cut (cost_of p.file p.library) (statements_of p.m) prices.statements (take first marks) prices.of_statements in
        let b = sums_cut price (read_words p.mode p.state) prices.words (drop first marks) prices.of_words in
        let cone = a.1 (omega arith) in
        let words = b.1 (omega arith) in
        let all : cone_sum (take first marks) + word_sum p.mode (drop first marks) ≡ n = omega arith in
        let is = bit_from p.mode (take first marks) (drop first marks)
        (cone_marks p.file p.library p.m (read_words p.mode p.state) node graph g x start begins marks are)
        (word_marks p.file p.library p.m (read_words p.mode p.state) node graph g x start begins marks are) in
        (subst (λ (k : ℕ). bit p x (2 + k)) all is, small)
    behind_node start total begins None (some, led, large) =
        let first = length (statements_of p.m) in
        let (n, one) = one_bit_cost (ConeCostOf p.file p.library p.m) (RestsOnLatch p.file p.library p.m) p.code p.mode p.radius (one_cone_cost p.file p.library p.m) (rests_decided p.file p.library p.m) p.state x in
        let (cone, words, are_cone, are_words, e) = bit_parts p.mode n one.holds in
        let sum = parted some in
        let a = sums_cut (cost_of p.file p.library) (statements_of p.m) prices.statements (take first some) prices.of_statements in
        let b = sums_cut price (read_words p.mode p.state) prices.words (drop first some) prices.of_words in
        let ac = a.0 in
        let bc = b.0 in
        let c = some_cost_less InCone (cost_of p.file p.library) (statements_of p.m) (take first some) cone are_cone
        (λ j s is m. leads_cone p.file p.library p.m (read_words p.mode p.state) node graph g x start begins j s is (led j (sym (get_or-take first some j false (slice_get_within (statements_of p.m) j s is)) ∙ m))) in
        let d = some_cost_less Needed price (read_words p.mode p.state) (drop first some) words are_words
        (λ w word is m. leads_needs p.file p.library p.m (read_words p.mode p.state) node graph g x start begins w word is (led (first + w) (sym (get_or-drop first some w false) ∙ m))) in
        (n, one.holds, omega arith)

    pub behind_none : (total : ℕ) → node x ≡ None → total ≤ 1000000 → IsBehind p x total (Some 0)
    behind_none total none small =
        let cone = replicate (length (statements_of p.m)) false in
        let words = replicate (length (read_words p.mode p.state)) false in
        let is = bit_from p.mode cone words
        (unmarked InCone (statements_of p.m) (none_in_cone p.file p.library p.m (read_words p.mode p.state) node graph g x none))
        (unmarked Needed (read_words p.mode p.state) (none_needed p.file p.library p.m (read_words p.mode p.state) node graph g x none)) in
        let a = unmarked_sum (cost_of p.file p.library) (statements_of p.m) in
        let b = unmarked_sum price (read_words p.mode p.state) in
        let all : cone_sum cone + word_sum p.mode words ≡ 0 = omega arith in
        (subst (λ (k : ℕ). bit p x (2 + k)) all is, omega arith)
