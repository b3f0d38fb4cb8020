-- Wrong guards don't meet the premises.
use Rattle.std.proofs.Common.{◌≡◌, ◌≢◌, refl, sym, ◌∙◌, ap, subst, ℕ, zero, suc, ◌+◌, ◌<◌, ◌≤◌, ◌⊎◌, List, [], ◌∷◌, ◌++◌, length, length-append, map, codes, get_or, slice_get, true, false, inl, inr, Some, arith, Contains, lit≤, lit<}
use Rattle.std.proofs.lemmas.Option.{same_Some, slice_get_within}
use Rattle.std.proofs.lemmas.List.{length-map}
use Rattle.std.proofs.lemmas.List.Elements.{All-contains, All-from_recursion}
use Rattle.std.specs.List.{flat_map, enumerate_from, range_with_len}
use Rattle.netlist_spec.specs.Netlist.{Model}
use Rattle.netlist_spec.specs.Placed.{port_names}
use Rattle.netlist_spec.specs.Models.{output_nets}
use Rattle.netlist_spec.specs.GuardNames.{check_name}
use Rattle.netlist_spec.specs.Gates.{one, two, Machine, IsMachine, ReadsNet, GateStep}
use Rattle.guard_spec.specs.Codes.{detect, correct}
use Rattle.netlist_spec.specs.CellBits.{Bit, latch_bit, output_bit}
use Rattle.guard_spec.specs.Regions.{Guarded, IsRegion, IsBitNet, CoversGates, HaveOwnNets, MayRead, AreSeparate, IsDataNet, ReadDataAlone}
use Rattle.netlist_spec.specs.GateRanges.{Region, LiesIn}
use Rattle.guard_spec.specs.Count.{Counts}
use Rattle.guard_spec.specs.Words.{Words, all_numbers}
use Rattle.guard_spec.specs.Shaped.{IsShaped, check_outputs, rail_outputs}
use Rattle.guard_spec.specs.Rails.{RailsTell, SomeNoCodeword}
use Rattle.spec_examples.specs.Examples.{parity_code, parity_settings, inverter_file, inverter_model, inverter_layout}
use Rattle.containment.specs.Built.{IsBuilt}
use Rattle.spec_examples.specs.Toggle.{toggle, thrice_code}
use Rattle.spec_examples.specs.Wire.{wire}
use Rattle.spec_examples.specs.WrongGuards.{copying_guard, pair, pair_layout, sharing_guard, fresh_guard, checking_guard, early_guard, blind_guard, silent_guard, loud_guard, sharing_corrector, sharing_rails, copied_rail, one_rail_text, set_toggle, unset_guard}
use Rattle.containment.proofs.Owners.{cells_have_one_bit}
use Rattle.spec_examples.proofs.Tests.{untouched_by_test}
use Rattle.spec_examples.proofs.Toggle.{differ_none}

-- all words of zeros are codewords
all_words : SomeNoCodeword loud_guard parity_code inverter_layout 1 (λ (n : ℕ). get_or (false ∷ false ∷ true ∷ true ∷ false ∷ false ∷ false ∷ false ∷ true ∷ false ∷ false ∷ false ∷ []) n false) → ⊥
all_words (inl (inl none)) = none (false ∷ [], refl, refl)
all_words (inl (inr none)) = none
all_words (inr (inl none)) = none (false ∷ [], refl, refl)
all_words (inr (inr none)) = none

pub early_rails : RailsTell early_guard parity_code inverter_layout 1 → ⊥
early_rails tell =
    let told = tell [] (true ∷ false ∷ []) ([]) (λ (n : ℕ). get_or (true ∷ false ∷ false ∷ false ∷ true ∷ true ∷ false ∷ false ∷ false ∷ true ∷ false ∷ true ∷ []) n false) (record { inputs = refl; latches = (refl, (refl, tt)); gates = (refl, (refl, (refl, (refl, (refl, (refl, (refl, (refl, (refl, (refl, tt)))))))))) }) 2 8 refl (lit≤ tt) (untouched_by_test early_guard ([]) (output_bit 2) refl) in
    let up : false ≡ true = told.1 (inl (inl (differ_none true false refl))) in cc up

pub blind_rails : RailsTell blind_guard parity_code inverter_layout 1 → ⊥
blind_rails tell =
    let told = tell [] (false ∷ false ∷ []) ((4, true) ∷ []) (λ (n : ℕ). get_or (false ∷ false ∷ true ∷ true ∷ true ∷ false ∷ false ∷ false ∷ false ∷ false ∷ true ∷ true ∷ []) n false) (record { inputs = refl; latches = (refl, (refl, tt)); gates = (refl, (refl, (refl, (refl, (refl, (refl, (refl, (refl, (refl, (refl, tt)))))))))) }) 2 8 refl (lit≤ tt) (untouched_by_test blind_guard ((4, true) ∷ []) (output_bit 2) refl) in
    let up : false ≡ true = told.1 (inr (inl (differ_none true false refl))) in cc up

pub silent_rail : RailsTell silent_guard parity_code inverter_layout 1 → ⊥
silent_rail tell =
    let told = tell [] (true ∷ false ∷ []) ([]) (λ (n : ℕ). get_or (true ∷ false ∷ false ∷ false ∷ true ∷ true ∷ true ∷ false ∷ true ∷ true ∷ false ∷ false ∷ []) n false) (record { inputs = refl; latches = (refl, (refl, tt)); gates = (refl, (refl, (refl, (refl, (refl, (refl, (refl, (refl, (refl, (refl, tt)))))))))) }) 3 11 refl (lit≤ tt) (untouched_by_test silent_guard ([]) (output_bit 3) refl) in
    let up : false ≡ true = told.1 (inl (inl (differ_none true false refl))) in cc up

pub loud_rail : RailsTell loud_guard parity_code inverter_layout 1 → ⊥
loud_rail tell =
    let told = tell [] (false ∷ false ∷ []) ([]) (λ (n : ℕ). get_or (false ∷ false ∷ true ∷ true ∷ false ∷ false ∷ false ∷ false ∷ true ∷ false ∷ false ∷ false ∷ []) n false) (record { inputs = refl; latches = (refl, (refl, tt)); gates = (refl, (refl, (refl, (refl, (refl, (refl, (refl, (refl, (refl, (refl, tt)))))))))) }) 2 8 refl (lit≤ tt) (untouched_by_test loud_guard ([]) (output_bit 2) refl) in
    all_words (told.0 refl)

-- The shared gate is faulty, and no cell of the second rail is.
pub sharing_rail : RailsTell sharing_rails parity_code inverter_layout 1 → ⊥
sharing_rail tell =
    let told = tell [] (true ∷ false ∷ []) ((6, false) ∷ []) (λ (n : ℕ). get_or (true ∷ false ∷ false ∷ false ∷ true ∷ true ∷ false ∷ false ∷ false ∷ false ∷ false ∷ false ∷ []) n false) (record { inputs = refl; latches = (refl, (refl, tt)); gates = (refl, (refl, (refl, (refl, (refl, (refl, (refl, (refl, (refl, (refl, tt)))))))))) }) 3 11 refl (lit≤ tt) (untouched_by_test sharing_rails ((6, false) ∷ []) (output_bit 3) refl) in
    let up : false ≡ true = told.1 (inl (inl (differ_none true false refl))) in cc up

-- The last gate of the rail that is copied is faulty.
pub rail_of_rail : RailsTell copied_rail parity_code inverter_layout 1 → ⊥
rail_of_rail tell =
    let told = tell [] (true ∷ false ∷ []) ((8, false) ∷ []) (λ (n : ℕ). get_or (true ∷ false ∷ false ∷ false ∷ true ∷ true ∷ true ∷ false ∷ false ∷ false ∷ false ∷ false ∷ []) n false) (record { inputs = refl; latches = (refl, (refl, tt)); gates = (refl, (refl, (refl, (refl, (refl, (refl, (refl, (refl, (refl, (refl, tt)))))))))) }) 3 11 refl (lit≤ tt) (untouched_by_test copied_rail ((8, false) ∷ []) (output_bit 3) refl) in
    let up : false ≡ true = told.1 (inl (inl (differ_none true false refl))) in cc up

-- The output, the check output and two rails are more than three outputs.
more_outputs : (words : Words) → all_numbers words ≡ 0 ∷ [] → ◌≡◌ {A = ℕ} 3 (length ((codes "q" ∷ []) ++ check_outputs parity_code words ++ rail_outputs 2)) → ⊥
more_outputs [] none few = cc none
more_outputs (w ∷ words) numbers few =
    let long = length-append (flat_map (λ (word : ℕ × List ℕ). map (check_name word.0) (range_with_len 0 1)) (enumerate_from 1 words)) (rail_outputs 2) in
    absurd (omega arith)

pub one_rail_is_too_few : IsShaped one_rail_text inverter_file parity_settings → ⊥
one_rail_is_too_few shaped =
    let source = same_Some inverter_model shaped.source_model shaped.is_source_model in
    let text = same_Some _ shaped.guard_model shaped.is_guard_model in
    more_outputs shaped.layout.output
    (subst (λ (m : Model). all_numbers shaped.layout.output ≡ range_with_len 0 (length (output_nets m))) (sym source) shaped.is_layout.output.0)
    (subst (λ (m : Model). ◌≡◌ {A = ℕ} 3 (length (port_names m.outputs ++ check_outputs parity_code shaped.layout.output ++ rail_outputs 2))) (sym source)
    (subst (λ (g : Model). length (port_names g.outputs) ≡ length (port_names shaped.source_model.outputs ++ check_outputs parity_code shaped.layout.output ++ rail_outputs 2)) (sym text) (ap length shaped.shape.outputs)))

-- A step of the source at state 0.
pair_step : GateStep pair [] [] (false ∷ false ∷ []) [] (true ∷ true ∷ [])
pair_step = record { values = λ (n : ℕ). get_or (false ∷ false ∷ true ∷ []) n false; agrees = record { inputs = refl; latches = (refl, (refl, tt)); gates = (refl, tt) }; outputs = refl; stores = refl }

toggle_step : GateStep toggle [] [] (false ∷ []) (false ∷ []) (true ∷ [])
toggle_step = record { values = λ (n : ℕ). get_or (false ∷ true ∷ []) n false; agrees = record { inputs = refl; latches = (refl, tt); gates = (refl, tt) }; outputs = refl; stores = refl }

-- With the shared gate faulty the bit of the second register is wrong, and none of its cells is faulty.
pub shared_gate : Counts sharing_guard pair parity_code detect 1 pair_layout → ⊥
shared_gate counts =
    let keeps = counts [] (false ∷ false ∷ []) [] (true ∷ true ∷ []) (false ∷ false ∷ false ∷ false ∷ []) ((4, false) ∷ []) (λ (n : ℕ). get_or (false ∷ false ∷ false ∷ false ∷ false ∷ true ∷ false ∷ true ∷ []) n false) pair_step (record { inputs = refl; latches = (refl, (refl, (refl, (refl, tt)))); gates = (refl, (refl, (refl, (refl, tt)))) }) in
    let wrong : Some false ≡ Some true = keeps.stores (refl, (refl, tt)) 2 6 refl (untouched_by_test sharing_guard ((4, false) ∷ []) (latch_bit 2) refl) in
    cc wrong

pub fresh_checks : Counts fresh_guard toggle parity_code detect 1 inverter_layout → ⊥
fresh_checks counts =
    let keeps = counts [] (false ∷ []) (false ∷ []) (true ∷ []) (false ∷ false ∷ []) ((2, false) ∷ []) (λ (n : ℕ). get_or (false ∷ false ∷ false ∷ false ∷ false ∷ false ∷ false ∷ false ∷ false ∷ false ∷ false ∷ false ∷ []) n false) toggle_step (record { inputs = refl; latches = (refl, (refl, tt)); gates = (refl, (refl, (refl, (refl, (refl, (refl, (refl, (refl, (refl, (refl, tt)))))))))) }) in
    let wrong : Some false ≡ Some true = keeps.stores (refl, tt) 1 3 refl (untouched_by_test fresh_guard ((2, false) ∷ []) (latch_bit 1) refl) in
    cc wrong

pub shared_corrector : Counts sharing_corrector toggle thrice_code correct 1 inverter_layout → ⊥
shared_corrector counts =
    let keeps = counts [] (false ∷ []) (false ∷ []) (true ∷ []) (false ∷ false ∷ false ∷ []) ((6, true) ∷ []) (λ (n : ℕ). get_or (false ∷ false ∷ false ∷ false ∷ false ∷ false ∷ true ∷ false ∷ false ∷ false ∷ true ∷ true ∷ true ∷ []) n false) toggle_step (record { inputs = refl; latches = (refl, (refl, (refl, tt))); gates = (refl, (refl, (refl, (refl, (refl, (refl, (refl, (refl, (refl, (refl, tt)))))))))) }) in
    let wrong : Some false ≡ Some true = keeps.stores (lit≤ tt, tt) 1 8 refl (untouched_by_test sharing_corrector ((6, true) ∷ []) (latch_bit 1) refl) in
    cc wrong

-- The output ought to be the data input.
pub copied_input : HaveOwnNets copying_guard wire → ⊥
copied_input have = other (same_Some 1 0 (have.passes_all 0 0 refl (lit< tt)))
  where
    other : ◌≡◌ {A = ℕ} 1 0 → ⊥
    other same = omega arith

-- The check latch ought to start at 1.
pub zero_checks : IsBuilt unset_guard set_toggle parity_code detect 1 inverter_layout → ⊥
zero_checks built = let inits : true ∷ false ∷ [] ≡ true ∷ true ∷ [] = built.inits in cc inits

-- Two latches don't store one gate: each has a region that ends with its own.
pub one_gate_for_two : (g : Guarded) (source : Machine) → IsMachine g.machine → CoversGates g → HaveOwnNets g source → (i j n : ℕ) → i ≢ j
    → slice_get (map (λ r. r.d) g.machine.latches) i ≡ Some n → slice_get (map (λ r. r.d) g.machine.latches) j ≡ Some n → ⊥
one_gate_for_two g source is_machine covers have i j n other at_i at_j =
    let (r, in_r, r_bit) = have.latches i (short i at_i) in
    let (s, in_s, s_bit) = have.latches j (short j at_j) in
    let (a, b) = ends_at r in_r i r_bit at_i in
    let (c, d) = ends_at s in_s j s_bit at_j in
    let same = cells_have_one_bit g is_machine covers (latch_bit i) (latch_bit j) n (inl (r, in_r, r_bit, a, b)) (inl (s, in_s, s_bit, c, d)) in
    other (let e : i ≡ j = cc same in e)
  where
    short : (k : ℕ) → slice_get (map (λ r. r.d) g.machine.latches) k ≡ Some n → k < length g.machine.latches
    short k at = let h = slice_get_within (map (λ r. r.d) g.machine.latches) k n at in let e = length-map g.machine.latches (λ r. r.d) in omega arith

    ends_at : (r : Region) → Contains g.regions r → (k : ℕ) → r.bit ≡ latch_bit k → slice_get (map (λ r. r.d) g.machine.latches) k ≡ Some n → (r.first ≤ n) × (n < r.end)
    ends_at r in_r k is at =
        let region = All-contains (IsRegion g) g.regions r (All-from_recursion (IsRegion g) g.regions covers.regions) in_r in
        let own : slice_get (map (λ r. r.d) g.machine.latches) k ≡ Some region.last = subst (λ (b : Bit). IsBitNet g b region.last) is region.own in
        let e : region.last ≡ n = same_Some _ _ (sym own ∙ at) in
        let last = region.is_last in
        let some = region.some in
        (omega arith, omega arith)

-- A region that reads a gate of another one.
strays : (g : Guarded) (r : Region) (n k : ℕ) → AreSeparate g → Contains g.regions r → LiesIn r n → ReadsNet g.machine.net n k → (MayRead g r k → ⊥) → ⊥
strays g r n k separate in_r inside read never = never (separate.reads r n k in_r inside read)

pub sharing_is_not_separate : AreSeparate sharing_guard → ⊥
sharing_is_not_separate separate = strays sharing_guard record { bit = latch_bit 2; first = 6; end = 7 } 6 4 separate (2, lit< tt, refl) (lit≤ tt, lit< tt) (record { place = 2; number = refl; gate = one false 4; is_gate = refl; reads = (0, lit< tt, refl) }) none
  where
    none : MayRead sharing_guard record { bit = latch_bit 2; first = 6; end = 7 } 4 → ⊥
    none (inl h) = absurd (omega arith)
    none (inr (inl h)) = absurd (omega arith)
    none (inr (inr h)) = h.0

pub fresh_is_not_separate : AreSeparate fresh_guard → ⊥
fresh_is_not_separate separate = strays fresh_guard record { bit = latch_bit 1; first = 3; end = 4 } 3 2 separate (1, lit< tt, refl) (lit≤ tt, lit< tt) (record { place = 1; number = refl; gate = one false 2; is_gate = refl; reads = (0, lit< tt, refl) }) none
  where
    none : MayRead fresh_guard record { bit = latch_bit 1; first = 3; end = 4 } 2 → ⊥
    none (inl h) = absurd (omega arith)
    none (inr (inl h)) = absurd (omega arith)
    none (inr (inr h)) = h.0

pub corrector_is_not_separate : AreSeparate sharing_corrector → ⊥
corrector_is_not_separate separate = strays sharing_corrector record { bit = latch_bit 1; first = 8; end = 9 } 8 6 separate (1, lit< tt, refl) (lit≤ tt, lit< tt) (record { place = 5; number = refl; gate = one true 6; is_gate = refl; reads = (0, lit< tt, refl) }) none
  where
    none : MayRead sharing_corrector record { bit = latch_bit 1; first = 8; end = 9 } 6 → ⊥
    none (inl h) = absurd (omega arith)
    none (inr (inl h)) = absurd (omega arith)
    none (inr (inr h)) = h.0

pub early_is_not_separate : AreSeparate early_guard → ⊥
early_is_not_separate separate = strays early_guard record { bit = output_bit 2; first = 6; end = 9 } 6 2 separate (4, lit< tt, refl) (lit≤ tt, lit< tt) (record { place = 4; number = refl; gate = two 6 2 3; is_gate = refl; reads = (0, lit< tt, refl) }) none
  where
    is_output : (k : ℕ) → k < 4 → get_or early_guard.machine.outputs k 2 ≡ 2 → ⊥
    is_output zero h e = absurd (omega arith)
    is_output (suc zero) h e = absurd (omega arith)
    is_output (suc (suc zero)) h e = absurd (omega arith)
    is_output (suc (suc (suc zero))) h e = absurd (omega arith)
    is_output (suc (suc (suc (suc k)))) h e = absurd (omega arith)

    none : MayRead early_guard record { bit = output_bit 2; first = 6; end = 9 } 2 → ⊥
    none (inl h) = absurd (omega arith)
    none (inr (inl h)) = absurd (omega arith)
    none (inr (inr (rail, (k, inside, e)))) = is_output k inside e

pub rails_are_not_separate : AreSeparate sharing_rails → ⊥
rails_are_not_separate separate = strays sharing_rails record { bit = output_bit 3; first = 9; end = 12 } 11 6 separate (5, lit< tt, refl) (lit≤ tt, lit< tt) (record { place = 9; number = refl; gate = two 14 6 10; is_gate = refl; reads = (0, lit< tt, refl) }) none
  where
    is_output : (k : ℕ) → k < 4 → get_or sharing_rails.machine.outputs k 6 ≡ 6 → ⊥
    is_output zero h e = absurd (omega arith)
    is_output (suc zero) h e = absurd (omega arith)
    is_output (suc (suc zero)) h e = absurd (omega arith)
    is_output (suc (suc (suc zero))) h e = absurd (omega arith)
    is_output (suc (suc (suc (suc k)))) h e = absurd (omega arith)

    none : MayRead sharing_rails record { bit = output_bit 3; first = 9; end = 12 } 6 → ⊥
    none (inl h) = absurd (omega arith)
    none (inr (inl h)) = absurd (let low = h.0 in omega arith)
    none (inr (inr (rail, (k, inside, e)))) = is_output k inside e

-- The check output of the word reads the check latch.
pub check_place_is_read : ReadDataAlone checking_guard parity_code inverter_layout.state → ⊥
check_place_is_read alone =
    none (alone record { bit = output_bit 1; first = 5; end = 6 } 5 1 (3, lit< tt, refl) (λ late. absurd (omega arith)) (lit≤ tt, lit< tt) (record { place = 3; number = refl; gate = one false 1; is_gate = refl; reads = (0, lit< tt, refl) }))
  where
    none : (1 < 0) ⊎ (IsDataNet parity_code 0 inverter_layout.state 1 ⊎ LiesIn record { bit = output_bit 1; first = 5; end = 6 } 1) → ⊥
    none (inl h) = absurd (omega arith)
    none (inr (inl (inl h))) = absurd (let high = h.1 in omega arith)
    none (inr (inl (inr h))) = h
    none (inr (inr h)) = absurd (let low = h.0 in omega arith)
