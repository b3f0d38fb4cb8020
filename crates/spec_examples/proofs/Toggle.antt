-- The premises hold of a guard.
use Rattle.std.proofs.Common.{◌≡◌, ◌≢◌, refl, sym, ◌∙◌, ap, ap₂, subst, ℕ, zero, suc, ◌+◌, ◌*◌, ◌<◌, ◌≤◌, List, [], ◌∷◌, ◌++◌, length, map, get_or, Bool, true, false, cond, not, ◌||◌, ◌==◌, ◌⊎◌, inl, inr, Some, None, slice_get, arith, Contains, IsTrue, AllPairs, lit<, lit≤}
use Rattle.std.proofs.lemmas.Bool.{or_left, or_right}
use Rattle.std.proofs.lemmas.Option.{same_Some}
use Rattle.std.proofs.lemmas.List.Elements.{All-contains, All-from_recursion}
use Rattle.std.specs.List.{AllByRecursion}
use Rattle.netlist_spec.specs.Covers.{differ, has_bit}
use Rattle.netlist_spec.specs.SourceRun.{Bits}
use Rattle.netlist_spec.specs.Gates.{bit_number, IsMachine, shown_net, GateStep, AnswersWithin, latch_nets}
use Rattle.guard_spec.specs.Codes.{checks_of, encoded, weight, IsCodeword, detect}
use Rattle.guard_spec.specs.Words.{IsPartition, codewords}
use Rattle.netlist_spec.specs.CellBits.{latch_bit, output_bit}
use Rattle.guard_spec.specs.Count.{right_outputs, StateWordsAre, IsNear}
use Rattle.containment.specs.Built.{IsCoded, IsBuilt}
use Rattle.containment.specs.RegionAnswers.{RegionsAnswer, RailsAnswer}
use Rattle.spec_examples.specs.Toggle.{toggle, toggle_guard}
use Rattle.spec_examples.specs.Examples.{parity_code, inverter_layout}
use Rattle.containment.proofs.OneCycle.{zip_at}
use Rattle.spec_examples.proofs.Tests.{covers_by_test, own_nets_by_test, separate_by_test}
use Rattle.containment.proofs.Regions.{regions_count, rails_count}
use Rattle.guard_spec.specs.Regions.{AreSeparate, CoversGates, IsBitNet, HaveOwnNets}
use Rattle.netlist_spec.specs.GateRanges.{Region}
use Rattle.guard_spec.specs.Rails.{SomeNoCodeword, RailsTell}

pub check_is : (b : Bool) → checks_of parity_code (b ∷ []) ≡ b ∷ []
check_is true = refl
check_is false = refl

pub xor_answer : (a b : Bool) → has_bit 6 (2 * bit_number a + bit_number b) ≡ differ a b
xor_answer true true = refl
xor_answer true false = refl
xor_answer false true = refl
xor_answer false false = refl

pub or_answer : (a b : Bool) → has_bit 14 (2 * bit_number a + bit_number b) ≡ (a || b)
or_answer true true = refl
or_answer true false = refl
or_answer false true = refl
or_answer false false = refl

pub toggle_is_machine : IsMachine toggle_guard.machine
toggle_is_machine = record { gates = omega arith; leaves = refl; stores = omega arith; outputs = omega arith }

pub toggle_covers : CoversGates toggle_guard
toggle_covers = covers_by_test toggle_guard refl

pub toggle_separate : AreSeparate toggle_guard
toggle_separate = separate_by_test toggle_guard refl

pub toggle_coded : IsCoded toggle parity_code 2 inverter_layout
toggle_coded = record {
  is_code = record { rows = (omega arith, omega arith); columns = (omega arith, omega arith); full = (refl, tt) };
  is_distance = record { least = true ∷ []; places = refl; nonzero = omega arith; reached = refl; bound = least_weight };
  state_words = one_word;
  output_words = one_word;
}
  where
    least_weight : (u : Bits) → length u ≡ 1 → 0 < weight u → 2 ≤ weight (encoded parity_code u)
    least_weight [] long some = absurd (omega arith)
    least_weight (true ∷ []) long some = omega arith
    least_weight (false ∷ []) long some = absurd (omega arith)
    least_weight (b ∷ c ∷ u) long some = absurd (omega arith)

    once : (i : ℕ) → i < 1 → Rattle.std.proofs.Common.count_by (λ j. j == i) (0 ∷ []) ≡ 1
    once zero h = refl
    once (suc i) h = absurd (omega arith)

    one_word : IsPartition 1 1 ((0 ∷ []) ∷ [])
    one_word = record { lengths = ((omega arith, omega arith), tt); each_once = once; no_other = (omega arith, tt) }

pub toggle_have : HaveOwnNets toggle_guard toggle
toggle_have = own_nets_by_test toggle_guard toggle refl refl

-- two bits are a codeword where they are equal
pub differ_none : (a b : Bool) → differ a b ≡ true → IsCodeword parity_code 1 (a ∷ b ∷ []) → ⊥
differ_none a b d ([], long, e) = absurd (omega arith)
differ_none a b d (c ∷ k ∷ u, long, e) = absurd (omega arith)
differ_none a b d (c ∷ [], long, e) = pair c (e ∙ ap (λ (bs : Bits). c ∷ bs) (check_is c))
  where
    alike : (c : Bool) → differ c c ≡ true → ⊥
    alike true h = cc h
    alike false h = cc h

    pair : (c : Bool) → a ∷ b ∷ [] ≡ c ∷ c ∷ [] → ⊥
    pair c e = let x : a ≡ c = cc in let y : b ≡ c = cc in alike c (subst (λ (k : Bool). differ c k ≡ true) y (subst (λ (k : Bool). differ k b ≡ true) x d))

pub none_differs : (a b : Bool) → (IsCodeword parity_code 1 (a ∷ b ∷ []) → ⊥) → differ a b ≡ true
none_differs true true h = absurd (h (true ∷ [], refl, refl))
none_differs true false h = refl
none_differs false true h = refl
none_differs false false h = absurd (h (false ∷ [], refl, refl))

-- what a step of the source says
module _ (x s y next : Bits) (step : GateStep toggle [] x s y next) where
  shown : step.values 0 ≡ get_or s 0 false
  shown = zip_at (λ q bit. step.values q ≡ shown_net [] q bit) (0 ∷ []) s 0 0 false step.agrees.latches (omega arith)

  pub turned : next ≡ not (get_or s 0 false) ∷ []
  turned = sym step.stores ∙ ap (λ (b : Bool). b ∷ []) (step.agrees.gates.0 ∙ ap not shown)

  pub copied : y ≡ get_or s 0 false ∷ []
  copied = sym step.outputs ∙ ap (λ (b : Bool). b ∷ []) shown

pub first_bit : (a b : Bool) (xs ys : Bits) → a ∷ xs ≡ b ∷ ys → a ≡ b
first_bit a b xs ys e = cc

pub right_store : (b : Bool) → codewords parity_code inverter_layout.state (b ∷ []) ≡ b ∷ b ∷ []
right_store true = refl
right_store false = refl

right_shown : (b : Bool) → right_outputs parity_code inverter_layout (b ∷ []) ≡ b ∷ b ∷ []
right_shown true = refl
right_shown false = refl

abbrev Near : Bits → (ℕ → Bool) → Type 0
Near s v = StateWordsAre parity_code (IsNear parity_code detect 1 s) inverter_layout.state (map v (latch_nets toggle_guard.machine)) 0

abbrev Stores : Region → Type 0
Stores r = (i n : ℕ) → r.bit ≡ latch_bit i → IsBitNet toggle_guard (latch_bit i) n → (b : Bool) (v : ℕ → Bool) → v 0 ≡ b → AnswersWithin toggle_guard.machine.net r.first r.end v → Some (v n) ≡ slice_get (not b ∷ not b ∷ []) i

store_0 : Stores record { bit = latch_bit 0; first = 2; end = 3 }
store_0 zero n own net b v is answers = ap (λ (k : ℕ). Some (v k)) (sym (same_Some _ _ net)) ∙ ap (λ (c : Bool). Some c) (answers.0 (omega arith) (omega arith) ∙ ap not is)
store_0 (suc i) n own net b v is answers = cc own

store_1 : Stores record { bit = latch_bit 1; first = 3; end = 4 }
store_1 zero n own net b v is answers = cc
store_1 (suc zero) n own net b v is answers = ap (λ (k : ℕ). Some (v k)) (sym (same_Some _ _ net)) ∙ ap (λ (c : Bool). Some c) (answers.1.0 (omega arith) (omega arith) ∙ ap not is)
store_1 (suc (suc i)) n own net b v is answers = cc

no_store : (k f e : ℕ) → Stores record { bit = output_bit k; first = f; end = e }
no_store k f e i n own net b v is answers = cc own

all_store : AllByRecursion Stores toggle_guard.regions
all_store = (store_0, (store_1, (no_store 0 4 5, (no_store 1 5 6, (no_store 2 6 9, (no_store 3 9 12, tt))))))

abbrev Shows : Region → Type 0
Shows r = (i n : ℕ) → r.bit ≡ output_bit i → IsBitNet toggle_guard (output_bit i) n → i < 2 → (b : Bool) (v : ℕ → Bool) → v 0 ≡ b → AnswersWithin toggle_guard.machine.net r.first r.end v → Some (v n) ≡ slice_get (b ∷ b ∷ []) i

show_0 : Shows record { bit = output_bit 0; first = 4; end = 5 }
show_0 zero n own net few b v is answers = ap (λ (k : ℕ). Some (v k)) (sym (same_Some _ _ net)) ∙ ap (λ (c : Bool). Some c) (answers.1.1.0 (omega arith) (omega arith) ∙ is)
show_0 (suc i) n own net few b v is answers = cc own

show_1 : Shows record { bit = output_bit 1; first = 5; end = 6 }
show_1 zero n own net few b v is answers = cc own
show_1 (suc zero) n own net few b v is answers = ap (λ (k : ℕ). Some (v k)) (sym (same_Some _ _ net)) ∙ ap (λ (c : Bool). Some c) (answers.1.1.1.0 (omega arith) (omega arith) ∙ is)
show_1 (suc (suc i)) n own net few b v is answers = cc own

no_show : (k f e : ℕ) → Shows record { bit = latch_bit k; first = f; end = e }
no_show k f e i n own net few b v is answers = cc own

rail_shows_nothing : (k f e : ℕ) → 2 ≤ k → Shows record { bit = output_bit k; first = f; end = e }
rail_shows_nothing k f e past i n own net few b v is answers = let same : k ≡ i = cc own in absurd (omega arith)

all_show : AllByRecursion Shows toggle_guard.regions
all_show = (no_show 0 2 3, (no_show 1 3 4, (show_0, (show_1, (rail_shows_nothing 2 6 9 (omega arith), (rail_shows_nothing 3 9 12 (omega arith), tt))))))

pub toggle_answers : RegionsAnswer toggle_guard toggle parity_code detect 1 inverter_layout
toggle_answers = record {
  stores = λ r i n in_list own net x s y next v step inputs near answers.
      subst (λ (bs : Bits). Some (v n) ≡ slice_get bs i) (sym (ap (λ (w : Bits). codewords parity_code inverter_layout.state w) (turned x s y next step) ∙ right_store (not (get_or s 0 false))))
      (All-contains Stores toggle_guard.regions r (All-from_recursion Stores toggle_guard.regions all_store) in_list i n own net (get_or s 0 false) v (first_bit _ _ _ _ near.0) answers);
  shows = λ r i n in_list own net x s y next v step inputs near few answers.
      let is : right_outputs parity_code inverter_layout y ≡ get_or s 0 false ∷ get_or s 0 false ∷ [] = ap (λ (w : Bits). right_outputs parity_code inverter_layout w) (copied x s y next step) ∙ right_shown (get_or s 0 false) in
      subst (λ (bs : Bits). Some (v n) ≡ slice_get bs i) (sym is)
      (All-contains Shows toggle_guard.regions r (All-from_recursion Shows toggle_guard.regions all_show) in_list i n own net (subst (λ (bs : Bits). i < length bs) is few) (get_or s 0 false) v (first_bit _ _ _ _ near.0) answers);
}

abbrev Tells : Region → Type 0
Tells r = (i n : ℕ) → r.bit ≡ output_bit i → IsBitNet toggle_guard (output_bit i) n → 4 ≤ i + 2 → (v : ℕ → Bool) → AnswersWithin toggle_guard.machine.net r.first r.end v → (IsTrue (v n) → SomeNoCodeword toggle_guard parity_code inverter_layout 1 v) × (SomeNoCodeword toggle_guard parity_code inverter_layout 1 v → IsTrue (v n))

up_from : (v : ℕ → Bool) (a b : Bool) → a ≡ differ (v 0) (v 1) → b ≡ differ (v 4) (v 5) → (a || b) ≡ true → SomeNoCodeword toggle_guard parity_code inverter_layout 1 v
up_from v true b e f up = inl (inl (differ_none (v 0) (v 1) (sym e)))
up_from v false b e f up = inr (inl (differ_none (v 4) (v 5) (sym f ∙ up)))

up_since : (v : ℕ → Bool) (a b : Bool) → a ≡ differ (v 0) (v 1) → b ≡ differ (v 4) (v 5) → SomeNoCodeword toggle_guard parity_code inverter_layout 1 v → (a || b) ≡ true
up_since v a b e f (inl (inl h)) = or_left a b (e ∙ none_differs (v 0) (v 1) h)
up_since v a b e f (inl (inr h)) = absurd h
up_since v a b e f (inr (inl h)) = or_right a b (f ∙ none_differs (v 4) (v 5) h)
up_since v a b e f (inr (inr h)) = absurd h

rail_tells : (v : ℕ → Bool) (i j k : ℕ) → v i ≡ has_bit 6 (2 * bit_number (v 0) + bit_number (v 1)) → v j ≡ has_bit 6 (2 * bit_number (v 4) + bit_number (v 5)) → v k ≡ has_bit 14 (2 * bit_number (v i) + bit_number (v j))
    → (IsTrue (v k) → SomeNoCodeword toggle_guard parity_code inverter_layout 1 v) × (SomeNoCodeword toggle_guard parity_code inverter_layout 1 v → IsTrue (v k))
rail_tells v i j k a b c =
    let e : v i ≡ differ (v 0) (v 1) = a ∙ xor_answer (v 0) (v 1) in
    let f : v j ≡ differ (v 4) (v 5) = b ∙ xor_answer (v 4) (v 5) in
    let h : v k ≡ (v i || v j) = c ∙ or_answer (v i) (v j) in
    ((λ up. up_from v (v i) (v j) e f (sym h ∙ up)), (λ some. h ∙ up_since v (v i) (v j) e f some))

tell_2 : Tells record { bit = output_bit 2; first = 6; end = 9 }
tell_2 i n own net past v answers =
    let same : 2 ≡ i = cc own in
    let is : 8 ≡ n = same_Some 8 n (subst (λ (k : ℕ). IsBitNet toggle_guard (output_bit k) n) (sym same) net) in
    let a = answers.1.1.1.1 in
    subst (λ (k : ℕ). (IsTrue (v k) → SomeNoCodeword toggle_guard parity_code inverter_layout 1 v) × (SomeNoCodeword toggle_guard parity_code inverter_layout 1 v → IsTrue (v k))) is
    (rail_tells v 6 7 8 (a.0 (omega arith) (omega arith)) (a.1.0 (omega arith) (omega arith)) (a.1.1.0 (omega arith) (omega arith)))

tell_3 : Tells record { bit = output_bit 3; first = 9; end = 12 }
tell_3 i n own net past v answers =
    let same : 3 ≡ i = cc own in
    let is : 11 ≡ n = same_Some 11 n (subst (λ (k : ℕ). IsBitNet toggle_guard (output_bit k) n) (sym same) net) in
    let a = answers.1.1.1.1.1.1.1 in
    subst (λ (k : ℕ). (IsTrue (v k) → SomeNoCodeword toggle_guard parity_code inverter_layout 1 v) × (SomeNoCodeword toggle_guard parity_code inverter_layout 1 v → IsTrue (v k))) is
    (rail_tells v 9 10 11 (a.0 (omega arith) (omega arith)) (a.1.0 (omega arith) (omega arith)) (a.1.1.0 (omega arith) (omega arith)))

tells_nothing : (k f e : ℕ) → k < 2 → Tells record { bit = output_bit k; first = f; end = e }
tells_nothing k f e low i n own net past v answers = let same : k ≡ i = cc own in absurd (omega arith)

no_tell : (k f e : ℕ) → Tells record { bit = latch_bit k; first = f; end = e }
no_tell k f e i n own net past v answers = cc own

all_tell : AllByRecursion Tells toggle_guard.regions
all_tell = (no_tell 0 2 3, (no_tell 1 3 4, (tells_nothing 0 4 5 (omega arith), (tells_nothing 1 5 6 (omega arith), (tell_2, (tell_3, tt))))))

pub toggle_rails : RailsAnswer toggle_guard parity_code inverter_layout 1
toggle_rails r i n in_list own net past v answers = All-contains Tells toggle_guard.regions r (All-from_recursion Tells toggle_guard.regions all_tell) in_list i n own net past v answers

pub toggle_built : IsBuilt toggle_guard toggle parity_code detect 1 inverter_layout
toggle_built = record {
  is_machine = toggle_is_machine;
  inputs = refl;
  covers = toggle_covers;
  outputs = refl;
  inits = refl;
  counts = regions_count toggle_guard toggle toggle_have parity_code detect 1 inverter_layout toggle_answers;
}

pub toggle_tells : RailsTell toggle_guard parity_code inverter_layout 1
toggle_tells = rails_count toggle_guard toggle toggle_have (SomeNoCodeword toggle_guard parity_code inverter_layout 1) (omega arith) toggle_rails
