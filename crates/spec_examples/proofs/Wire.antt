-- The premises hold of a guard of which an output is a data input.
use Rattle.std.proofs.Common.{◌≡◌, refl, sym, ◌∙◌, ap, subst, ℕ, zero, suc, ◌+◌, ◌<◌, ◌≤◌, [], ◌∷◌, length, map, Bool, true, false, inl, inr, Some, slice_get, arith, IsTrue}
use Rattle.std.proofs.lemmas.Option.{same_Some}
use Rattle.std.proofs.lemmas.List.Elements.{All-contains, All-from_recursion}
use Rattle.std.specs.List.{AllByRecursion, range_with_len}
use Rattle.netlist_spec.specs.Covers.{differ}
use Rattle.netlist_spec.specs.SourceRun.{Bits}
use Rattle.netlist_spec.specs.Gates.{IsMachine, GateStep, AnswersWithin}
use Rattle.guard_spec.specs.Codes.{detect}
use Rattle.netlist_spec.specs.CellBits.{output_bit}
use Rattle.guard_spec.specs.Regions.{CoversGates, HaveOwnNets, AreSeparate, IsBitNet}
use Rattle.netlist_spec.specs.GateRanges.{Region}
use Rattle.guard_spec.specs.Count.{right_outputs}
use Rattle.guard_spec.specs.Rails.{SomeNoCodeword, RailsTell}
use Rattle.spec_examples.specs.Examples.{parity_code}
use Rattle.containment.specs.Built.{IsCoded, IsBuilt}
use Rattle.containment.specs.RegionAnswers.{RegionsAnswer, RailsAnswer}
use Rattle.spec_examples.specs.Wire.{wire, wire_layout, wire_guard}
use Rattle.spec_examples.proofs.Tests.{covers_by_test, own_nets_by_test, separate_by_test}
use Rattle.containment.proofs.Regions.{regions_count, rails_count}
use Rattle.spec_examples.proofs.Toggle.{toggle_coded, xor_answer, differ_none, none_differs}

pub wire_is_machine : IsMachine wire_guard.machine
wire_is_machine = record { gates = omega arith; leaves = refl; stores = tt; outputs = omega arith }

pub wire_covers : CoversGates wire_guard
wire_covers = covers_by_test wire_guard refl

pub wire_separate : AreSeparate wire_guard
wire_separate = separate_by_test wire_guard refl

pub wire_have : HaveOwnNets wire_guard wire
wire_have = own_nets_by_test wire_guard wire refl refl

pub wire_coded : IsCoded wire parity_code 2 wire_layout
wire_coded = record {
  is_code = toggle_coded.is_code;
  is_distance = toggle_coded.is_distance;
  state_words = record { lengths = tt; each_once = λ i h. absurd (omega arith); no_other = tt };
  output_words = toggle_coded.output_words;
}

abbrev Shows : Region → Type 0
Shows r = (i n : ℕ) → r.bit ≡ output_bit i → IsBitNet wire_guard (output_bit i) n → i < 2 → (b : Bool) (v : ℕ → Bool) → v 0 ≡ b → AnswersWithin wire_guard.machine.net r.first r.end v → Some (v n) ≡ slice_get (b ∷ b ∷ []) i

shows_check : Shows record { bit = output_bit 1; first = 1; end = 2 }
shows_check zero n own net few b v is answers = cc own
shows_check (suc zero) n own net few b v is answers = ap (λ (k : ℕ). Some (v k)) (sym (same_Some _ _ net)) ∙ ap (λ (c : Bool). Some c) (answers.0 (omega arith) (omega arith) ∙ is)
shows_check (suc (suc i)) n own net few b v is answers = absurd (omega arith)

rail_shows_nothing : (k f e : ℕ) → 2 ≤ k → Shows record { bit = output_bit k; first = f; end = e }
rail_shows_nothing k f e past i n own net few b v is answers = let same : k ≡ i = cc own in absurd (omega arith)

all_show : AllByRecursion Shows wire_guard.regions
all_show = (shows_check, (rail_shows_nothing 2 2 3 (omega arith), (rail_shows_nothing 3 3 4 (omega arith), tt)))

abbrev Tells : Region → Type 0
Tells r = (i n : ℕ) → r.bit ≡ output_bit i → IsBitNet wire_guard (output_bit i) n → 4 ≤ i + 2 → (v : ℕ → Bool) → AnswersWithin wire_guard.machine.net r.first r.end v
    → (IsTrue (v n) → SomeNoCodeword wire_guard parity_code wire_layout 1 v) × (SomeNoCodeword wire_guard parity_code wire_layout 1 v → IsTrue (v n))

-- a rail compares the two bits of the word
rail_tells : (v : ℕ → Bool) (a : Bool) → a ≡ differ (v 0) (v 1) → (IsTrue a → SomeNoCodeword wire_guard parity_code wire_layout 1 v) × (SomeNoCodeword wire_guard parity_code wire_layout 1 v → IsTrue a)
rail_tells v a e = ((λ up. inr (inl (differ_none (v 0) (v 1) (sym e ∙ up)))), back)
  where
    back : SomeNoCodeword wire_guard parity_code wire_layout 1 v → IsTrue a
    back (inl none) = absurd none
    back (inr (inl h)) = e ∙ none_differs (v 0) (v 1) h
    back (inr (inr none)) = absurd none

tells_2 : Tells record { bit = output_bit 2; first = 2; end = 3 }
tells_2 i n own net past v answers =
    let same : 2 ≡ i = cc own in
    let at : 2 ≡ n = same_Some _ _ (subst (λ (k : ℕ). slice_get wire_guard.machine.outputs k ≡ Some n) (sym same) net) in
    rail_tells v (v n) (ap v (sym at) ∙ (answers.1.0 (omega arith) (omega arith) ∙ xor_answer (v 0) (v 1)))

tells_3 : Tells record { bit = output_bit 3; first = 3; end = 4 }
tells_3 i n own net past v answers =
    let same : 3 ≡ i = cc own in
    let at : 3 ≡ n = same_Some _ _ (subst (λ (k : ℕ). slice_get wire_guard.machine.outputs k ≡ Some n) (sym same) net) in
    rail_tells v (v n) (ap v (sym at) ∙ (answers.1.1.0 (omega arith) (omega arith) ∙ xor_answer (v 0) (v 1)))

check_tells_nothing : Tells record { bit = output_bit 1; first = 1; end = 2 }
check_tells_nothing i n own net past v answers = let same : 1 ≡ i = cc own in absurd (omega arith)

all_tell : AllByRecursion Tells wire_guard.regions
all_tell = (check_tells_nothing, (tells_2, (tells_3, tt)))

-- what a step of the source says
shown : (x s y next : Bits) → GateStep wire [] x s y next → (v : ℕ → Bool) → map v (range_with_len 0 1) ≡ x → y ≡ v 0 ∷ []
shown x s y next step v inputs = sym step.outputs ∙ (step.agrees.inputs ∙ sym inputs)

right_shown : (b : Bool) → right_outputs parity_code wire_layout (b ∷ []) ≡ b ∷ b ∷ []
right_shown true = refl
right_shown false = refl

wire_answers : RegionsAnswer wire_guard wire parity_code detect 1 wire_layout
wire_answers = record {
  stores = λ r i n in_list own net x s y next v step inputs near answers. cc net;
  shows = λ r i n in_list own net x s y next v step inputs near few answers.
      let is : right_outputs parity_code wire_layout y ≡ v 0 ∷ v 0 ∷ [] = ap (λ (w : Bits). right_outputs parity_code wire_layout w) (shown x s y next step v inputs) ∙ right_shown (v 0) in
      subst (λ (bs : Bits). Some (v n) ≡ slice_get bs i) (sym is)
      (All-contains Shows wire_guard.regions r (All-from_recursion Shows wire_guard.regions all_show) in_list i n own net (subst (λ (bs : Bits). i < length bs) is few) (v 0) v refl answers);
}

wire_rails : RailsAnswer wire_guard parity_code wire_layout 1
wire_rails r i n in_list own net past v answers = All-contains Tells wire_guard.regions r (All-from_recursion Tells wire_guard.regions all_tell) in_list i n own net past v answers

pub wire_built : IsBuilt wire_guard wire parity_code detect 1 wire_layout
wire_built = record {
  is_machine = wire_is_machine;
  inputs = refl;
  covers = wire_covers;
  outputs = refl;
  inits = refl;
  counts = regions_count wire_guard wire wire_have parity_code detect 1 wire_layout wire_answers;
}

pub wire_tells : RailsTell wire_guard parity_code wire_layout 1
wire_tells = rails_count wire_guard wire wire_have (SomeNoCodeword wire_guard parity_code wire_layout 1) (omega arith) wire_rails
