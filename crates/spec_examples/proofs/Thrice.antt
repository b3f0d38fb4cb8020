-- The premises hold of a guard that detects faults that move.
use Rattle.std.proofs.Common.{◌≡◌, refl, sym, ◌∙◌, ap, ap₂, subst, ℕ, zero, suc, ◌+◌, ◌*◌, ◌<◌, ◌≤◌, [], ◌∷◌, length, get_or, Bool, true, false, not, ◌||◌, inl, inr, Some, slice_get, arith, IsTrue}
use Rattle.std.proofs.lemmas.Bool.{or_left, or_right}
use Rattle.std.proofs.lemmas.Option.{same_Some}
use Rattle.std.proofs.lemmas.List.Elements.{All-contains, All-from_recursion}
use Rattle.std.specs.List.{AllByRecursion}
use Rattle.netlist_spec.specs.Covers.{differ, has_bit}
use Rattle.netlist_spec.specs.SourceRun.{Bits}
use Rattle.netlist_spec.specs.Gates.{bit_number, AnswersWithin}
use Rattle.guard_spec.specs.Codes.{IsCodeword, detect}
use Rattle.guard_spec.specs.Words.{codewords}
use Rattle.netlist_spec.specs.CellBits.{latch_bit, output_bit}
use Rattle.guard_spec.specs.Count.{right_outputs}
use Rattle.guard_spec.specs.Regions.{AreSeparate, IsBitNet, HaveOwnNets}
use Rattle.netlist_spec.specs.GateRanges.{Region}
use Rattle.guard_spec.specs.Rails.{SomeNoCodeword}
use Rattle.spec_examples.specs.Examples.{inverter_layout}
use Rattle.containment.specs.Built.{IsTellingGuard}
use Rattle.containment.specs.RegionAnswers.{RegionsAnswer, RailsAnswer}
use Rattle.spec_examples.specs.Toggle.{toggle, thrice_code, thrice_guard}
use Rattle.containment.proofs.Regions.{regions_count, rails_count}
use Rattle.spec_examples.proofs.Tests.{covers_by_test, own_nets_by_test, separate_by_test}
use Rattle.spec_examples.proofs.Toggle.{xor_answer, or_answer, turned, copied, first_bit}
use Rattle.spec_examples.proofs.Corrector.{corrector_coded, right_store, right_shown}

pub thrice_separate : AreSeparate thrice_guard
thrice_separate = separate_by_test thrice_guard refl

pub thrice_have : HaveOwnNets thrice_guard toggle
thrice_have = own_nets_by_test thrice_guard toggle refl refl

-- three bits are a codeword where they are equal
differ_none : (a b c : Bool) → (differ a b || differ a c) ≡ true → IsCodeword thrice_code 1 (a ∷ b ∷ c ∷ []) → ⊥
differ_none a b c d ([], long, e) = absurd (omega arith)
differ_none a b c d (x ∷ k ∷ u, long, e) = absurd (omega arith)
differ_none a b c d (x ∷ [], long, e) = triple x (e ∙ coded x)
  where
    coded : (x : Bool) → Rattle.guard_spec.specs.Codes.encoded thrice_code (x ∷ []) ≡ x ∷ x ∷ x ∷ []
    coded true = refl
    coded false = refl

    alike : (x : Bool) → (differ x x || differ x x) ≡ true → ⊥
    alike true h = cc h
    alike false h = cc h

    triple : (x : Bool) → a ∷ b ∷ c ∷ [] ≡ x ∷ x ∷ x ∷ [] → ⊥
    triple x e =
        let f : a ≡ x = cc in
        let g : b ≡ x = cc in
        let h : c ≡ x = cc in
        alike x
        (subst (λ (k : Bool). (differ x x || differ x k) ≡ true) h
        (subst (λ (k : Bool). (differ x k || differ x c) ≡ true) g
        (subst (λ (k : Bool). (differ k b || differ k c) ≡ true) f d)))

none_differs : (a b c : Bool) → (IsCodeword thrice_code 1 (a ∷ b ∷ c ∷ []) → ⊥) → (differ a b || differ a c) ≡ true
none_differs true true true h = absurd (h (true ∷ [], refl, refl))
none_differs true true false h = refl
none_differs true false c h = refl
none_differs false true c h = refl
none_differs false false true h = refl
none_differs false false false h = absurd (h (false ∷ [], refl, refl))

abbrev Stores : Region → Type 0
Stores r = (i n : ℕ) → r.bit ≡ latch_bit i → IsBitNet thrice_guard (latch_bit i) n → (b : Bool) (v : ℕ → Bool) → v 0 ≡ b → AnswersWithin thrice_guard.machine.net r.first r.end v → Some (v n) ≡ slice_get (not b ∷ not b ∷ not b ∷ []) i

store_0 : Stores record { bit = latch_bit 0; first = 3; end = 4 }
store_0 zero n own net b v is answers = ap (λ (q : ℕ). Some (v q)) (sym (same_Some _ _ net)) ∙ ap (λ (c : Bool). Some c) (answers.0 (omega arith) (omega arith) ∙ ap not is)
store_0 (suc j) n own net b v is answers = cc

store_1 : Stores record { bit = latch_bit 1; first = 4; end = 5 }
store_1 zero n own net b v is answers = cc
store_1 (suc zero) n own net b v is answers = ap (λ (q : ℕ). Some (v q)) (sym (same_Some _ _ net)) ∙ ap (λ (c : Bool). Some c) (answers.1.0 (omega arith) (omega arith) ∙ ap not is)
store_1 (suc (suc j)) n own net b v is answers = cc

store_2 : Stores record { bit = latch_bit 2; first = 5; end = 6 }
store_2 zero n own net b v is answers = cc
store_2 (suc zero) n own net b v is answers = cc
store_2 (suc (suc zero)) n own net b v is answers = ap (λ (q : ℕ). Some (v q)) (sym (same_Some _ _ net)) ∙ ap (λ (c : Bool). Some c) (answers.1.1.0 (omega arith) (omega arith) ∙ ap not is)
store_2 (suc (suc (suc j))) n own net b v is answers = cc

no_store : (k f e : ℕ) → Stores record { bit = output_bit k; first = f; end = e }
no_store k f e i n own net b v is answers = cc own

all_store : AllByRecursion Stores thrice_guard.regions
all_store = (store_0, (store_1, (store_2, (no_store 0 6 7, (no_store 1 7 8, (no_store 2 8 9, (no_store 3 9 16, (no_store 4 16 23, tt))))))))

abbrev Shows : Region → Type 0
Shows r = (i n : ℕ) → r.bit ≡ output_bit i → IsBitNet thrice_guard (output_bit i) n → i < 3 → (b : Bool) (v : ℕ → Bool) → v 0 ≡ b → AnswersWithin thrice_guard.machine.net r.first r.end v → Some (v n) ≡ slice_get (b ∷ b ∷ b ∷ []) i

show_0 : Shows record { bit = output_bit 0; first = 6; end = 7 }
show_0 zero n own net few b v is answers = ap (λ (q : ℕ). Some (v q)) (sym (same_Some _ _ net)) ∙ ap (λ (c : Bool). Some c) (answers.1.1.1.0 (omega arith) (omega arith) ∙ is)
show_0 (suc j) n own net few b v is answers = cc

show_1 : Shows record { bit = output_bit 1; first = 7; end = 8 }
show_1 zero n own net few b v is answers = cc
show_1 (suc zero) n own net few b v is answers = ap (λ (q : ℕ). Some (v q)) (sym (same_Some _ _ net)) ∙ ap (λ (c : Bool). Some c) (answers.1.1.1.1.0 (omega arith) (omega arith) ∙ is)
show_1 (suc (suc j)) n own net few b v is answers = cc

show_2 : Shows record { bit = output_bit 2; first = 8; end = 9 }
show_2 zero n own net few b v is answers = cc
show_2 (suc zero) n own net few b v is answers = cc
show_2 (suc (suc zero)) n own net few b v is answers = ap (λ (q : ℕ). Some (v q)) (sym (same_Some _ _ net)) ∙ ap (λ (c : Bool). Some c) (answers.1.1.1.1.1.0 (omega arith) (omega arith) ∙ is)
show_2 (suc (suc (suc j))) n own net few b v is answers = cc

no_show : (k f e : ℕ) → Shows record { bit = latch_bit k; first = f; end = e }
no_show k f e i n own net few b v is answers = cc own

rail_shows_nothing : (k f e : ℕ) → 3 ≤ k → Shows record { bit = output_bit k; first = f; end = e }
rail_shows_nothing k f e past i n own net few b v is answers = let same : k ≡ i = cc own in absurd (omega arith)

all_show : AllByRecursion Shows thrice_guard.regions
all_show = (no_show 0 3 4, (no_show 1 4 5, (no_show 2 5 6, (show_0, (show_1, (show_2, (rail_shows_nothing 3 9 16 (omega arith), (rail_shows_nothing 4 16 23 (omega arith), tt))))))))

thrice_answers : RegionsAnswer thrice_guard toggle thrice_code detect 2 inverter_layout
thrice_answers = record {
  stores = λ r i n in_list own net x s y next v step inputs near answers.
      subst (λ (bs : Bits). Some (v n) ≡ slice_get bs i) (sym (ap (λ (w : Bits). codewords thrice_code inverter_layout.state w) (turned x s y next step) ∙ right_store (not (get_or s 0 false))))
      (All-contains Stores thrice_guard.regions r (All-from_recursion Stores thrice_guard.regions all_store) in_list i n own net (get_or s 0 false) v (first_bit _ _ _ _ near.0) answers);
  shows = λ r i n in_list own net x s y next v step inputs near few answers.
      let is : right_outputs thrice_code inverter_layout y ≡ get_or s 0 false ∷ get_or s 0 false ∷ get_or s 0 false ∷ [] = ap (λ (w : Bits). right_outputs thrice_code inverter_layout w) (copied x s y next step) ∙ right_shown (get_or s 0 false) in
      subst (λ (bs : Bits). Some (v n) ≡ slice_get bs i) (sym is)
      (All-contains Shows thrice_guard.regions r (All-from_recursion Shows thrice_guard.regions all_show) in_list i n own net (subst (λ (bs : Bits). i < length bs) is few) (get_or s 0 false) v (first_bit _ _ _ _ near.0) answers);
}

-- three cells that tell whether three bits differ
word_differs : (v : ℕ → Bool) (i j k a b c : ℕ) → v a ≡ has_bit 6 (2 * bit_number (v i) + bit_number (v j)) → v b ≡ has_bit 6 (2 * bit_number (v i) + bit_number (v k)) → v c ≡ has_bit 14 (2 * bit_number (v a) + bit_number (v b)) → v c ≡ (differ (v i) (v j) || differ (v i) (v k))
word_differs v i j k a b c p q r = r ∙ (or_answer (v a) (v b) ∙ ap₂ (λ (x y : Bool). x || y) (p ∙ xor_answer (v i) (v j)) (q ∙ xor_answer (v i) (v k)))

up_from : (v : ℕ → Bool) (a b : Bool) → a ≡ (differ (v 0) (v 1) || differ (v 0) (v 2)) → b ≡ (differ (v 6) (v 7) || differ (v 6) (v 8)) → (a || b) ≡ true → SomeNoCodeword thrice_guard thrice_code inverter_layout 1 v
up_from v true b e f up = inl (inl (differ_none (v 0) (v 1) (v 2) (sym e)))
up_from v false b e f up = inr (inl (differ_none (v 6) (v 7) (v 8) (sym f ∙ up)))

up_since : (v : ℕ → Bool) (a b : Bool) → a ≡ (differ (v 0) (v 1) || differ (v 0) (v 2)) → b ≡ (differ (v 6) (v 7) || differ (v 6) (v 8)) → SomeNoCodeword thrice_guard thrice_code inverter_layout 1 v → (a || b) ≡ true
up_since v a b e f (inl (inl h)) = or_left a b (e ∙ none_differs (v 0) (v 1) (v 2) h)
up_since v a b e f (inl (inr h)) = absurd h
up_since v a b e f (inr (inl h)) = or_right a b (f ∙ none_differs (v 6) (v 7) (v 8) h)
up_since v a b e f (inr (inr h)) = absurd h

rail_tells : (v : ℕ → Bool) (a b n : ℕ) → v a ≡ (differ (v 0) (v 1) || differ (v 0) (v 2)) → v b ≡ (differ (v 6) (v 7) || differ (v 6) (v 8)) → v n ≡ has_bit 14 (2 * bit_number (v a) + bit_number (v b))
    → (IsTrue (v n) → SomeNoCodeword thrice_guard thrice_code inverter_layout 1 v) × (SomeNoCodeword thrice_guard thrice_code inverter_layout 1 v → IsTrue (v n))
rail_tells v a b n e f c =
    let h : v n ≡ (v a || v b) = c ∙ or_answer (v a) (v b) in
    ((λ up. up_from v (v a) (v b) e f (sym h ∙ up)), (λ some. h ∙ up_since v (v a) (v b) e f some))

abbrev Tells : Region → Type 0
Tells r = (i n : ℕ) → r.bit ≡ output_bit i → IsBitNet thrice_guard (output_bit i) n → 5 ≤ i + 2 → (v : ℕ → Bool) → AnswersWithin thrice_guard.machine.net r.first r.end v → (IsTrue (v n) → SomeNoCodeword thrice_guard thrice_code inverter_layout 1 v) × (SomeNoCodeword thrice_guard thrice_code inverter_layout 1 v → IsTrue (v n))

tell_3 : Tells record { bit = output_bit 3; first = 9; end = 16 }
tell_3 i n own net past v answers =
    let same : 3 ≡ i = cc own in
    let is : 15 ≡ n = same_Some 15 n (subst (λ (k : ℕ). IsBitNet thrice_guard (output_bit k) n) (sym same) net) in
    subst (λ (k : ℕ). (IsTrue (v k) → SomeNoCodeword thrice_guard thrice_code inverter_layout 1 v) × (SomeNoCodeword thrice_guard thrice_code inverter_layout 1 v → IsTrue (v k))) is
    (rail_tells v 11 14 15
    (word_differs v 0 1 2 9 10 11 (answers.1.1.1.1.1.1.0 (omega arith) (omega arith)) (answers.1.1.1.1.1.1.1.0 (omega arith) (omega arith)) (answers.1.1.1.1.1.1.1.1.0 (omega arith) (omega arith)))
    (word_differs v 6 7 8 12 13 14 (answers.1.1.1.1.1.1.1.1.1.0 (omega arith) (omega arith)) (answers.1.1.1.1.1.1.1.1.1.1.0 (omega arith) (omega arith)) (answers.1.1.1.1.1.1.1.1.1.1.1.0 (omega arith) (omega arith)))
    (answers.1.1.1.1.1.1.1.1.1.1.1.1.0 (omega arith) (omega arith)))

tell_4 : Tells record { bit = output_bit 4; first = 16; end = 23 }
tell_4 i n own net past v answers =
    let same : 4 ≡ i = cc own in
    let is : 22 ≡ n = same_Some 22 n (subst (λ (k : ℕ). IsBitNet thrice_guard (output_bit k) n) (sym same) net) in
    subst (λ (k : ℕ). (IsTrue (v k) → SomeNoCodeword thrice_guard thrice_code inverter_layout 1 v) × (SomeNoCodeword thrice_guard thrice_code inverter_layout 1 v → IsTrue (v k))) is
    (rail_tells v 18 21 22
    (word_differs v 0 1 2 16 17 18 (answers.1.1.1.1.1.1.1.1.1.1.1.1.1.0 (omega arith) (omega arith)) (answers.1.1.1.1.1.1.1.1.1.1.1.1.1.1.0 (omega arith) (omega arith)) (answers.1.1.1.1.1.1.1.1.1.1.1.1.1.1.1.0 (omega arith) (omega arith)))
    (word_differs v 6 7 8 19 20 21 (answers.1.1.1.1.1.1.1.1.1.1.1.1.1.1.1.1.0 (omega arith) (omega arith)) (answers.1.1.1.1.1.1.1.1.1.1.1.1.1.1.1.1.1.0 (omega arith) (omega arith)) (answers.1.1.1.1.1.1.1.1.1.1.1.1.1.1.1.1.1.1.0 (omega arith) (omega arith)))
    (answers.1.1.1.1.1.1.1.1.1.1.1.1.1.1.1.1.1.1.1.0 (omega arith) (omega arith)))

tells_nothing : (k f e : ℕ) → k < 3 → Tells record { bit = output_bit k; first = f; end = e }
tells_nothing k f e low i n own net past v answers = let same : k ≡ i = cc own in absurd (omega arith)

no_tell : (k f e : ℕ) → Tells record { bit = latch_bit k; first = f; end = e }
no_tell k f e i n own net past v answers = cc own

all_tell : AllByRecursion Tells thrice_guard.regions
all_tell = (no_tell 0 3 4, (no_tell 1 4 5, (no_tell 2 5 6, (tells_nothing 0 6 7 (omega arith), (tells_nothing 1 7 8 (omega arith), (tells_nothing 2 8 9 (omega arith), (tell_3, (tell_4, tt))))))))

thrice_rails : RailsAnswer thrice_guard thrice_code inverter_layout 1
thrice_rails r i n in_list own net past v answers = All-contains Tells thrice_guard.regions r (All-from_recursion Tells thrice_guard.regions all_tell) in_list i n own net past v answers

pub thrice_telling : IsTellingGuard thrice_guard toggle thrice_code 3 detect 2 inverter_layout
thrice_telling = record {
  coded = corrector_coded;
  built = record {
    is_machine = record { gates = omega arith; leaves = refl; stores = omega arith; outputs = omega arith };
    inputs = refl;
    covers = covers_by_test thrice_guard refl;
    outputs = refl;
    inits = refl;
    counts = regions_count thrice_guard toggle thrice_have thrice_code detect 2 inverter_layout thrice_answers;
  };
  tells = rails_count thrice_guard toggle thrice_have (SomeNoCodeword thrice_guard thrice_code inverter_layout 1) (omega arith) thrice_rails;
}
