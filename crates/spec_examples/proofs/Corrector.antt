-- The premises hold of a guard that corrects.
use Rattle.std.proofs.Common.{◌≡◌, refl, sym, ◌∙◌, ap, ap₂, subst, ℕ, zero, suc, ◌+◌, ◌*◌, ◌<◌, ◌≤◌, [], ◌∷◌, length, get_or, Bool, true, false, not, ◌&&◌, ◌||◌, ◌==◌, Some, slice_get, arith, count_by}
use Rattle.std.proofs.lemmas.Option.{same_Some}
use Rattle.std.proofs.lemmas.List.Elements.{All-contains, All-from_recursion}
use Rattle.std.specs.List.{AllByRecursion}
use Rattle.netlist_spec.specs.Covers.{has_bit}
use Rattle.netlist_spec.specs.SourceRun.{Bits}
use Rattle.netlist_spec.specs.Gates.{bit_number, IsMachine, AnswersWithin}
use Rattle.guard_spec.specs.Codes.{encoded, weight, apart, correct}
use Rattle.guard_spec.specs.Words.{IsPartition, codewords}
use Rattle.netlist_spec.specs.CellBits.{latch_bit, output_bit}
use Rattle.guard_spec.specs.Count.{right_outputs}
use Rattle.containment.specs.Built.{IsCoded, IsBuilt}
use Rattle.containment.specs.RegionAnswers.{RegionsAnswer}
use Rattle.spec_examples.specs.Toggle.{toggle, thrice_code, toggle_corrector}
use Rattle.spec_examples.specs.Examples.{inverter_layout}
use Rattle.containment.proofs.Regions.{regions_count}
use Rattle.spec_examples.proofs.Tests.{covers_by_test, own_nets_by_test, separate_by_test}
use Rattle.spec_examples.proofs.Toggle.{or_answer, turned, copied}
use Rattle.guard_spec.specs.Regions.{AreSeparate, CoversGates, IsBitNet, HaveOwnNets}
use Rattle.netlist_spec.specs.GateRanges.{Region}

and_answer : (a b : Bool) → has_bit 8 (2 * bit_number a + bit_number b) ≡ (a && b)
and_answer true true = refl
and_answer true false = refl
and_answer false true = refl
and_answer false false = refl

pub majority_near : (a b c k : Bool) → apart (a ∷ b ∷ c ∷ []) (k ∷ k ∷ k ∷ []) ≤ 1 → ((a && b) || (c && (a || b))) ≡ k
majority_near true true true true h = refl
majority_near true true true false h = absurd (omega arith)
majority_near true true false true h = refl
majority_near true true false false h = absurd (omega arith)
majority_near true false true true h = refl
majority_near true false true false h = absurd (omega arith)
majority_near true false false true h = absurd (omega arith)
majority_near true false false false h = refl
majority_near false true true true h = refl
majority_near false true true false h = absurd (omega arith)
majority_near false true false true h = absurd (omega arith)
majority_near false true false false h = refl
majority_near false false true true h = absurd (omega arith)
majority_near false false true false h = refl
majority_near false false false true h = absurd (omega arith)
majority_near false false false false h = refl

-- four cells that give the majority of the latches
majority_at : (v : ℕ → Bool) (i j m n : ℕ) (k : Bool) → apart (v 0 ∷ v 1 ∷ v 2 ∷ []) (k ∷ k ∷ k ∷ []) ≤ 1
    → v i ≡ has_bit 8 (2 * bit_number (v 0) + bit_number (v 1)) → v j ≡ has_bit 14 (2 * bit_number (v 0) + bit_number (v 1))
    → v m ≡ has_bit 8 (2 * bit_number (v 2) + bit_number (v j)) → v n ≡ has_bit 14 (2 * bit_number (v i) + bit_number (v m)) → v n ≡ k
majority_at v i j m n k near a b c d =
    let e : v i ≡ (v 0 && v 1) = a ∙ and_answer (v 0) (v 1) in
    let f : v j ≡ (v 0 || v 1) = b ∙ or_answer (v 0) (v 1) in
    let g : v m ≡ (v 2 && (v 0 || v 1)) = c ∙ (and_answer (v 2) (v j) ∙ ap (λ (x : Bool). v 2 && x) f) in
    d ∙ (or_answer (v i) (v m) ∙ (ap₂ (λ (x y : Bool). x || y) e g ∙ majority_near (v 0) (v 1) (v 2) k near))

corrector_is_machine : IsMachine toggle_corrector.machine
corrector_is_machine = record { gates = omega arith; leaves = refl; stores = omega arith; outputs = omega arith }

corrector_covers : CoversGates toggle_corrector
corrector_covers = covers_by_test toggle_corrector refl

pub corrector_separate : AreSeparate toggle_corrector
corrector_separate = separate_by_test toggle_corrector refl

pub corrector_coded : IsCoded toggle thrice_code 3 inverter_layout
corrector_coded = record {
  is_code = record { rows = (omega arith, omega arith); columns = (omega arith, omega arith); full = (refl, tt) };
  is_distance = record { least = true ∷ []; places = refl; nonzero = omega arith; reached = refl; bound = least_weight };
  state_words = one_word;
  output_words = one_word;
}
  where
    least_weight : (u : Bits) → length u ≡ 1 → 0 < weight u → 3 ≤ weight (encoded thrice_code u)
    least_weight [] long some = absurd (omega arith)
    least_weight (true ∷ []) long some = omega arith
    least_weight (false ∷ []) long some = absurd (omega arith)
    least_weight (b ∷ c ∷ u) long some = absurd (omega arith)

    once : (i : ℕ) → i < 1 → count_by (λ j. j == i) (0 ∷ []) ≡ 1
    once zero h = refl
    once (suc i) h = absurd (omega arith)

    one_word : IsPartition 1 1 ((0 ∷ []) ∷ [])
    one_word = record { lengths = ((omega arith, omega arith), tt); each_once = once; no_other = (omega arith, tt) }

pub corrector_have : HaveOwnNets toggle_corrector toggle
corrector_have = own_nets_by_test toggle_corrector toggle refl refl

pub thrice : (b : Bool) → encoded thrice_code (b ∷ []) ≡ b ∷ b ∷ b ∷ []
thrice true = refl
thrice false = refl

pub right_store : (b : Bool) → codewords thrice_code inverter_layout.state (b ∷ []) ≡ b ∷ b ∷ b ∷ []
right_store true = refl
right_store false = refl

pub right_shown : (b : Bool) → right_outputs thrice_code inverter_layout (b ∷ []) ≡ b ∷ b ∷ b ∷ []
right_shown true = refl
right_shown false = refl

abbrev Stores : Region → Type 0
Stores r = (i n : ℕ) → r.bit ≡ latch_bit i → IsBitNet toggle_corrector (latch_bit i) n → (k : Bool) (v : ℕ → Bool) → apart (v 0 ∷ v 1 ∷ v 2 ∷ []) (k ∷ k ∷ k ∷ []) ≤ 1 → AnswersWithin toggle_corrector.machine.net r.first r.end v → Some (v n) ≡ slice_get (not k ∷ not k ∷ not k ∷ []) i

store_0 : Stores record { bit = latch_bit 0; first = 3; end = 8 }
store_0 zero n own net k v is answers = ap (λ (q : ℕ). Some (v q)) (sym (same_Some _ _ net)) ∙ ap (λ (b : Bool). Some b) (answers.1.1.1.1.0 (omega arith) (omega arith) ∙ ap not (majority_at v 3 4 5 6 k is (answers.0 (omega arith) (omega arith)) (answers.1.0 (omega arith) (omega arith)) (answers.1.1.0 (omega arith) (omega arith)) (answers.1.1.1.0 (omega arith) (omega arith))))
store_0 (suc j) n own net k v is answers = cc

store_1 : Stores record { bit = latch_bit 1; first = 8; end = 13 }
store_1 zero n own net k v is answers = cc
store_1 (suc zero) n own net k v is answers = ap (λ (q : ℕ). Some (v q)) (sym (same_Some _ _ net)) ∙ ap (λ (b : Bool). Some b) (answers.1.1.1.1.1.1.1.1.1.0 (omega arith) (omega arith) ∙ ap not (majority_at v 8 9 10 11 k is (answers.1.1.1.1.1.0 (omega arith) (omega arith)) (answers.1.1.1.1.1.1.0 (omega arith) (omega arith)) (answers.1.1.1.1.1.1.1.0 (omega arith) (omega arith)) (answers.1.1.1.1.1.1.1.1.0 (omega arith) (omega arith))))
store_1 (suc (suc j)) n own net k v is answers = cc

store_2 : Stores record { bit = latch_bit 2; first = 13; end = 18 }
store_2 zero n own net k v is answers = cc
store_2 (suc zero) n own net k v is answers = cc
store_2 (suc (suc zero)) n own net k v is answers = ap (λ (q : ℕ). Some (v q)) (sym (same_Some _ _ net)) ∙ ap (λ (b : Bool). Some b) (answers.1.1.1.1.1.1.1.1.1.1.1.1.1.1.0 (omega arith) (omega arith) ∙ ap not (majority_at v 13 14 15 16 k is (answers.1.1.1.1.1.1.1.1.1.1.0 (omega arith) (omega arith)) (answers.1.1.1.1.1.1.1.1.1.1.1.0 (omega arith) (omega arith)) (answers.1.1.1.1.1.1.1.1.1.1.1.1.0 (omega arith) (omega arith)) (answers.1.1.1.1.1.1.1.1.1.1.1.1.1.0 (omega arith) (omega arith))))
store_2 (suc (suc (suc j))) n own net k v is answers = cc

no_store : (b f e : ℕ) → Stores record { bit = output_bit b; first = f; end = e }
no_store b f e i n own net k v is answers = cc

all_store : AllByRecursion Stores toggle_corrector.regions
all_store = (store_0, (store_1, (store_2, (no_store 0 18 22, (no_store 1 22 26, (no_store 2 26 30, tt))))))

abbrev Shows : Region → Type 0
Shows r = (i n : ℕ) → r.bit ≡ output_bit i → IsBitNet toggle_corrector (output_bit i) n → (k : Bool) (v : ℕ → Bool) → apart (v 0 ∷ v 1 ∷ v 2 ∷ []) (k ∷ k ∷ k ∷ []) ≤ 1 → AnswersWithin toggle_corrector.machine.net r.first r.end v → Some (v n) ≡ slice_get (k ∷ k ∷ k ∷ []) i

show_0 : Shows record { bit = output_bit 0; first = 18; end = 22 }
show_0 zero n own net k v is answers = ap (λ (q : ℕ). Some (v q)) (sym (same_Some _ _ net)) ∙ ap (λ (b : Bool). Some b) (majority_at v 18 19 20 21 k is (answers.1.1.1.1.1.1.1.1.1.1.1.1.1.1.1.0 (omega arith) (omega arith)) (answers.1.1.1.1.1.1.1.1.1.1.1.1.1.1.1.1.0 (omega arith) (omega arith)) (answers.1.1.1.1.1.1.1.1.1.1.1.1.1.1.1.1.1.0 (omega arith) (omega arith)) (answers.1.1.1.1.1.1.1.1.1.1.1.1.1.1.1.1.1.1.0 (omega arith) (omega arith)))
show_0 (suc j) n own net k v is answers = cc

show_1 : Shows record { bit = output_bit 1; first = 22; end = 26 }
show_1 zero n own net k v is answers = cc
show_1 (suc zero) n own net k v is answers = ap (λ (q : ℕ). Some (v q)) (sym (same_Some _ _ net)) ∙ ap (λ (b : Bool). Some b) (majority_at v 22 23 24 25 k is (answers.1.1.1.1.1.1.1.1.1.1.1.1.1.1.1.1.1.1.1.0 (omega arith) (omega arith)) (answers.1.1.1.1.1.1.1.1.1.1.1.1.1.1.1.1.1.1.1.1.0 (omega arith) (omega arith)) (answers.1.1.1.1.1.1.1.1.1.1.1.1.1.1.1.1.1.1.1.1.1.0 (omega arith) (omega arith)) (answers.1.1.1.1.1.1.1.1.1.1.1.1.1.1.1.1.1.1.1.1.1.1.0 (omega arith) (omega arith)))
show_1 (suc (suc j)) n own net k v is answers = cc

show_2 : Shows record { bit = output_bit 2; first = 26; end = 30 }
show_2 zero n own net k v is answers = cc
show_2 (suc zero) n own net k v is answers = cc
show_2 (suc (suc zero)) n own net k v is answers = ap (λ (q : ℕ). Some (v q)) (sym (same_Some _ _ net)) ∙ ap (λ (b : Bool). Some b) (majority_at v 26 27 28 29 k is (answers.1.1.1.1.1.1.1.1.1.1.1.1.1.1.1.1.1.1.1.1.1.1.1.0 (omega arith) (omega arith)) (answers.1.1.1.1.1.1.1.1.1.1.1.1.1.1.1.1.1.1.1.1.1.1.1.1.0 (omega arith) (omega arith)) (answers.1.1.1.1.1.1.1.1.1.1.1.1.1.1.1.1.1.1.1.1.1.1.1.1.1.0 (omega arith) (omega arith)) (answers.1.1.1.1.1.1.1.1.1.1.1.1.1.1.1.1.1.1.1.1.1.1.1.1.1.1.0 (omega arith) (omega arith)))
show_2 (suc (suc (suc j))) n own net k v is answers = cc

no_show : (b f e : ℕ) → Shows record { bit = latch_bit b; first = f; end = e }
no_show b f e i n own net k v is answers = cc

all_show : AllByRecursion Shows toggle_corrector.regions
all_show = (no_show 0 3 8, (no_show 1 8 13, (no_show 2 13 18, (show_0, (show_1, (show_2, tt))))))

corrector_answers : RegionsAnswer toggle_corrector toggle thrice_code correct 1 inverter_layout
corrector_answers = record {
  stores = λ r i n in_list own net x s y next v step inputs near answers.
      subst (λ (bs : Bits). Some (v n) ≡ slice_get bs i) (sym (ap (λ (w : Bits). codewords thrice_code inverter_layout.state w) (turned x s y next step) ∙ right_store (not (get_or s 0 false))))
      (All-contains Stores toggle_corrector.regions r (All-from_recursion Stores toggle_corrector.regions all_store) in_list i n own net (get_or s 0 false) v (subst (λ (bs : Bits). apart (v 0 ∷ v 1 ∷ v 2 ∷ []) bs ≤ 1) (thrice (get_or s 0 false)) near.0) answers);
  shows = λ r i n in_list own net x s y next v step inputs near few answers.
      subst (λ (bs : Bits). Some (v n) ≡ slice_get bs i) (sym (ap (λ (w : Bits). right_outputs thrice_code inverter_layout w) (copied x s y next step) ∙ right_shown (get_or s 0 false)))
      (All-contains Shows toggle_corrector.regions r (All-from_recursion Shows toggle_corrector.regions all_show) in_list i n own net (get_or s 0 false) v (subst (λ (bs : Bits). apart (v 0 ∷ v 1 ∷ v 2 ∷ []) bs ≤ 1) (thrice (get_or s 0 false)) near.0) answers);
}

pub corrector_built : IsBuilt toggle_corrector toggle thrice_code correct 1 inverter_layout
corrector_built = record {
  is_machine = corrector_is_machine;
  inputs = refl;
  covers = corrector_covers;
  outputs = refl;
  inits = refl;
  counts = regions_count toggle_corrector toggle corrector_have thrice_code correct 1 inverter_layout corrector_answers;
}
