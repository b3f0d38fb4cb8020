-- The premises hold of a guard of a source without outputs.
use Rattle.std.proofs.Common.{◌≡◌, refl, sym, ◌∙◌, ap, subst, ℕ, zero, suc, ◌+◌, ◌<◌, ◌≤◌, [], ◌∷◌, length, get_or, Bool, false, not, inl, inr, Some, slice_get, arith, IsTrue}
use Rattle.std.proofs.lemmas.Option.{same_Some}
use Rattle.std.proofs.lemmas.List.Elements.{All-contains, All-from_recursion}
use Rattle.std.specs.List.{AllByRecursion}
use Rattle.netlist_spec.specs.Covers.{differ}
use Rattle.netlist_spec.specs.SourceRun.{Bits}
use Rattle.netlist_spec.specs.Gates.{IsMachine, shown_net, GateStep, AnswersWithin}
use Rattle.guard_spec.specs.Codes.{detect}
use Rattle.guard_spec.specs.Words.{codewords}
use Rattle.netlist_spec.specs.CellBits.{latch_bit, output_bit}
use Rattle.guard_spec.specs.Regions.{CoversGates, HaveOwnNets, AreSeparate, IsBitNet}
use Rattle.netlist_spec.specs.GateRanges.{Region}
use Rattle.guard_spec.specs.Count.{right_outputs}
use Rattle.guard_spec.specs.Rails.{SomeNoCodeword, RailsTell}
use Rattle.spec_examples.specs.Examples.{parity_code}
use Rattle.containment.specs.Built.{IsCoded, IsBuilt}
use Rattle.containment.specs.RegionAnswers.{RegionsAnswer, RailsAnswer}
use Rattle.spec_examples.specs.Unshown.{unshown, unshown_layout, unshown_guard}
use Rattle.spec_examples.proofs.Tests.{covers_by_test, own_nets_by_test, separate_by_test}
use Rattle.containment.proofs.OneCycle.{zip_at}
use Rattle.containment.proofs.Regions.{regions_count, rails_count}
use Rattle.spec_examples.proofs.Toggle.{toggle_coded, xor_answer, differ_none, none_differs, first_bit, right_store}

pub unshown_is_machine : IsMachine unshown_guard.machine
unshown_is_machine = record { gates = omega arith; leaves = refl; stores = omega arith; outputs = omega arith }

pub unshown_covers : CoversGates unshown_guard
unshown_covers = covers_by_test unshown_guard refl

pub unshown_separate : AreSeparate unshown_guard
unshown_separate = separate_by_test unshown_guard refl

pub unshown_have : HaveOwnNets unshown_guard unshown
unshown_have = own_nets_by_test unshown_guard unshown refl refl

pub unshown_coded : IsCoded unshown parity_code 2 unshown_layout
unshown_coded = record {
  is_code = toggle_coded.is_code;
  is_distance = toggle_coded.is_distance;
  state_words = toggle_coded.state_words;
  output_words = record { lengths = tt; each_once = λ i h. absurd (omega arith); no_other = tt };
}

-- what a step of the source says
turned : (x s y next : Bits) → GateStep unshown [] x s y next → next ≡ not (get_or s 0 false) ∷ []
turned x s y next step =
    sym step.stores
    ∙ ap (λ (b : Bool). b ∷ []) (step.agrees.gates.0 ∙ ap not (zip_at (λ q bit. step.values q ≡ shown_net [] q bit) (0 ∷ []) s 0 0 false step.agrees.latches (omega arith)))

abbrev Stores : Region → Type 0
Stores r = (i n : ℕ) → r.bit ≡ latch_bit i → IsBitNet unshown_guard (latch_bit i) n → (b : Bool) (v : ℕ → Bool) → v 0 ≡ b → AnswersWithin unshown_guard.machine.net r.first r.end v → Some (v n) ≡ slice_get (not b ∷ not b ∷ []) i

store_0 : Stores record { bit = latch_bit 0; first = 2; end = 3 }
store_0 zero n own net b v is answers = ap (λ (k : ℕ). Some (v k)) (sym (same_Some _ _ net)) ∙ ap (λ (c : Bool). Some c) (answers.0 (omega arith) (omega arith) ∙ ap not is)
store_0 (suc i) n own net b v is answers = cc own

store_1 : Stores record { bit = latch_bit 1; first = 3; end = 4 }
store_1 zero n own net b v is answers = cc
store_1 (suc zero) n own net b v is answers = ap (λ (k : ℕ). Some (v k)) (sym (same_Some _ _ net)) ∙ ap (λ (c : Bool). Some c) (answers.1.0 (omega arith) (omega arith) ∙ ap not is)
store_1 (suc (suc i)) n own net b v is answers = cc

no_store : (k f e : ℕ) → Stores record { bit = output_bit k; first = f; end = e }
no_store k f e i n own net b v is answers = cc own

all_store : AllByRecursion Stores unshown_guard.regions
all_store = (store_0, (store_1, (no_store 0 4 5, (no_store 1 5 6, tt))))

unshown_answers : RegionsAnswer unshown_guard unshown parity_code detect 1 unshown_layout
unshown_answers = record {
  stores = λ r i n in_list own net x s y next v step inputs near answers.
      subst (λ (bs : Bits). Some (v n) ≡ slice_get bs i) (sym (ap (λ (w : Bits). codewords parity_code unshown_layout.state w) (turned x s y next step) ∙ right_store (not (get_or s 0 false))))
      (All-contains Stores unshown_guard.regions r (All-from_recursion Stores unshown_guard.regions all_store) in_list i n own net (get_or s 0 false) v (first_bit _ _ _ _ near.0) answers);
  -- there are no outputs beside the rails
  shows = λ r i n in_list own net x s y next v step inputs near few answers.
      let none : i < 0 = subst (λ (w : Bits). i < length (right_outputs parity_code unshown_layout w)) (sym step.outputs) few in
      absurd (omega arith);
}

abbrev Tells : Region → Type 0
Tells r = (i n : ℕ) → r.bit ≡ output_bit i → IsBitNet unshown_guard (output_bit i) n → 2 ≤ i + 2 → (v : ℕ → Bool) → AnswersWithin unshown_guard.machine.net r.first r.end v
    → (IsTrue (v n) → SomeNoCodeword unshown_guard parity_code unshown_layout 0 v) × (SomeNoCodeword unshown_guard parity_code unshown_layout 0 v → IsTrue (v n))

-- a rail compares the two bits of the word
rail_tells : (v : ℕ → Bool) (a : Bool) → a ≡ differ (v 0) (v 1) → (IsTrue a → SomeNoCodeword unshown_guard parity_code unshown_layout 0 v) × (SomeNoCodeword unshown_guard parity_code unshown_layout 0 v → IsTrue a)
rail_tells v a e = ((λ up. inl (inl (differ_none (v 0) (v 1) (sym e ∙ up)))), back)
  where
    back : SomeNoCodeword unshown_guard parity_code unshown_layout 0 v → IsTrue a
    back (inl (inl h)) = e ∙ none_differs (v 0) (v 1) h
    back (inl (inr none)) = absurd none
    back (inr none) = absurd none

tells_0 : Tells record { bit = output_bit 0; first = 4; end = 5 }
tells_0 i n own net past v answers =
    let same : 0 ≡ i = cc own in
    let at : 4 ≡ n = same_Some _ _ (subst (λ (k : ℕ). slice_get unshown_guard.machine.outputs k ≡ Some n) (sym same) net) in
    rail_tells v (v n) (ap v (sym at) ∙ (answers.1.1.0 (omega arith) (omega arith) ∙ xor_answer (v 0) (v 1)))

tells_1 : Tells record { bit = output_bit 1; first = 5; end = 6 }
tells_1 i n own net past v answers =
    let same : 1 ≡ i = cc own in
    let at : 5 ≡ n = same_Some _ _ (subst (λ (k : ℕ). slice_get unshown_guard.machine.outputs k ≡ Some n) (sym same) net) in
    rail_tells v (v n) (ap v (sym at) ∙ (answers.1.1.1.0 (omega arith) (omega arith) ∙ xor_answer (v 0) (v 1)))

no_tell : (k f e : ℕ) → Tells record { bit = latch_bit k; first = f; end = e }
no_tell k f e i n own net past v answers = cc own

all_tell : AllByRecursion Tells unshown_guard.regions
all_tell = (no_tell 0 2 3, (no_tell 1 3 4, (tells_0, (tells_1, tt))))

unshown_rails : RailsAnswer unshown_guard parity_code unshown_layout 0
unshown_rails r i n in_list own net past v answers = All-contains Tells unshown_guard.regions r (All-from_recursion Tells unshown_guard.regions all_tell) in_list i n own net past v answers

pub unshown_built : IsBuilt unshown_guard unshown parity_code detect 1 unshown_layout
unshown_built = record {
  is_machine = unshown_is_machine;
  inputs = refl;
  covers = unshown_covers;
  outputs = refl;
  inits = refl;
  counts = regions_count unshown_guard unshown unshown_have parity_code detect 1 unshown_layout unshown_answers;
}

pub unshown_tells : RailsTell unshown_guard parity_code unshown_layout 0
unshown_tells = rails_count unshown_guard unshown unshown_have (SomeNoCodeword unshown_guard parity_code unshown_layout 0) (omega arith) unshown_rails
