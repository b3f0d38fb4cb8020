-- The guard of the register that turns its bit is made of copies out of its joined list.
use Rattle.std.proofs.Common.{◌≡◌, refl, subst, ℕ, suc, inl, inr, true, false, List, [], ◌∷◌, drop, take, arith}
use Rattle.std.proofs.lemmas.List.Elements.{All-contains, All-from_recursion}
use Rattle.netlist_spec.specs.Gates.{GateForm, one}
use Rattle.guard_spec.specs.Codes.{correct}
use Rattle.netlist_spec.specs.CellBits.{latch_bit, output_bit}
use Rattle.spec_examples.specs.Examples.{inverter_layout}
use Rattle.guard_spec.specs.Plain.{IsMachineSizeWith}
use Rattle.netlist_spec.specs.Cones.{same_net, read_by}
use Rattle.guard_spec.specs.Rails.{SomeNoCodeword}
use Rattle.netlist_spec.specs.GateRanges.{Region}
use Rattle.guard_spec.specs.Regions.{IsBitNet, IsRegion, IsRailBit}
use Rattle.spec_examples.specs.Toggle.{toggle, thrice_code, toggle_corrector}
use Rattle.spec_examples.proofs.Tests.{covers_by_test}
use Rattle.spec_examples.proofs.Corrector.{corrector_coded, corrector_have, corrector_separate}
use Rattle.guard_laws.specs.Promised.{IsGuardOf}
use Rattle.correction_laws.specs.Few.{IsFew, of_place, of_check, of_output, of_output_check}
use Rattle.law_examples.specs.JoinedList.{majority, toggle_joined, behind}
use Rattle.guard_laws.specs.Within.{IsRangeWithin, IsMadeWithin}
use Rattle.correction_laws.proofs.Costs.{copy_cost, check_cost}
use Rattle.correction_laws.proofs.Guard.{few_guard_of}
use Rattle.correction_laws.proofs.Ranges.{copy_range, check_range, range_stays}
use Rattle.law_examples.proofs.JoinedList.{is_joined, one_word, toggle_is, place_copy, place_check, output_copy, output_check, stored_copy, shown_copy}
use Rattle.spec_examples.proofs.InverterGuard.{only_itself}

abbrev gates : List GateForm
gates = toggle_corrector.machine.net.gates

abbrev Within : Region → Type 0
Within r = IsRangeWithin toggle_corrector.machine.net 0 3 toggle thrice_code correct 1 inverter_layout r

stored_0 : Within record { bit = latch_bit 0; first = 3; end = 8 }
stored_0 =
    range_stays (behind (take 5 gates)) (drop 5 gates) 0 3 toggle thrice_code correct 1 inverter_layout record { bit = latch_bit 0; first = 3; end = 8 } (omega arith)
    (copy_range toggle thrice_code inverter_layout 1 1 toggle_joined (majority ∷ []) (6 ∷ []) 7 toggle_is one_word is_joined (latch_bit 0) (behind []) (behind (take 5 gates)) 7 refl (place_copy [] 7 refl))

stored_1 : Within record { bit = latch_bit 1; first = 8; end = 13 }
stored_1 =
    range_stays (behind (take 10 gates)) (drop 10 gates) 0 3 toggle thrice_code correct 1 inverter_layout record { bit = latch_bit 1; first = 8; end = 13 } (omega arith)
    (check_range toggle thrice_code inverter_layout 1 1 toggle_joined (majority ∷ []) (6 ∷ []) 7 toggle_is one_word is_joined (latch_bit 1) (behind (take 5 gates)) (behind (take 10 gates)) 12 refl (place_check 0 (omega arith) (take 5 gates) 12 refl))

stored_2 : Within record { bit = latch_bit 2; first = 13; end = 18 }
stored_2 =
    range_stays (behind (take 15 gates)) (drop 15 gates) 0 3 toggle thrice_code correct 1 inverter_layout record { bit = latch_bit 2; first = 13; end = 18 } (omega arith)
    (check_range toggle thrice_code inverter_layout 1 1 toggle_joined (majority ∷ []) (6 ∷ []) 7 toggle_is one_word is_joined (latch_bit 2) (behind (take 10 gates)) (behind (take 15 gates)) 17 refl (place_check 1 (omega arith) (take 10 gates) 17 refl))

shown_0 : Within record { bit = output_bit 0; first = 18; end = 22 }
shown_0 =
    range_stays (behind (take 19 gates)) (drop 19 gates) 0 3 toggle thrice_code correct 1 inverter_layout record { bit = output_bit 0; first = 18; end = 22 } (omega arith)
    (copy_range toggle thrice_code inverter_layout 1 1 toggle_joined (majority ∷ []) (6 ∷ []) 7 toggle_is one_word is_joined (output_bit 0) (behind (take 15 gates)) (behind (take 19 gates)) 21 refl (output_copy (take 15 gates) 21 refl))

shown_1 : Within record { bit = output_bit 1; first = 22; end = 26 }
shown_1 =
    range_stays (behind (take 23 gates)) (drop 23 gates) 0 3 toggle thrice_code correct 1 inverter_layout record { bit = output_bit 1; first = 22; end = 26 } (omega arith)
    (check_range toggle thrice_code inverter_layout 1 1 toggle_joined (majority ∷ []) (6 ∷ []) 7 toggle_is one_word is_joined (output_bit 1) (behind (take 19 gates)) (behind (take 23 gates)) 25 refl (output_check 0 (omega arith) (take 19 gates) 25 refl))

shown_2 : Within record { bit = output_bit 2; first = 26; end = 30 }
shown_2 =
    range_stays (behind (take 27 gates)) (drop 27 gates) 0 3 toggle thrice_code correct 1 inverter_layout record { bit = output_bit 2; first = 26; end = 30 } (omega arith)
    (check_range toggle thrice_code inverter_layout 1 1 toggle_joined (majority ∷ []) (6 ∷ []) 7 toggle_is one_word is_joined (output_bit 2) (behind (take 23 gates)) (behind (take 27 gates)) 29 refl (output_check 1 (omega arith) (take 23 gates) 29 refl))

own_net : (r : Region) → IsRegion toggle_corrector r → (n : ℕ) → r.end ≡ suc n → IsBitNet toggle_corrector r.bit n
own_net r is n e = let last = is.is_last in subst (λ (k : ℕ). IsBitNet toggle_corrector r.bit k) (let f : is.last ≡ n = omega arith in f) is.own

pub corrector_is_made : IsMadeWithin toggle_corrector toggle thrice_code correct 1 inverter_layout [] (SomeNoCodeword toggle_corrector thrice_code inverter_layout 1)
corrector_is_made = record {
  is_code = corrector_coded.is_code;
  is_source = toggle_is;
  is_machine = record { gates = omega arith; leaves = refl; stores = omega arith; outputs = omega arith };
  own_nets = corrector_have;
  outputs = refl;
  watches = λ k c. absurd (let h = c.1 in omega arith);
  row = (refl, omega arith, (refl, omega arith, (refl, omega arith, (refl, omega arith, (refl, omega arith, (refl, omega arith, refl))))));
  in_order = λ i j d less h. (corrector_separate.in_order i j d less h).0;
  own = λ r n c e. own_net r (All-contains (IsRegion toggle_corrector) toggle_corrector.regions r (All-from_recursion (IsRegion toggle_corrector) toggle_corrector.regions (covers_by_test toggle_corrector refl).regions) c) n e;
  ranges = λ r c plain. All-contains Within toggle_corrector.regions r (All-from_recursion Within toggle_corrector.regions (stored_0, (stored_1, (stored_2, (shown_0, (shown_1, (shown_2, tt))))))) c;
  rails = λ r c rail. absurd (All-contains NoRail toggle_corrector.regions r (All-from_recursion NoRail toggle_corrector.regions ((λ x. x), ((λ x. x), ((λ x. x), ((λ x. omega arith), ((λ x. omega arith), ((λ x. omega arith), tt))))))) c rail);
}
  where
    NoRail : Region → Type 0
    NoRail r = IsRailBit toggle_corrector r.bit → ⊥

-- ---- its size

abbrev Few : Region → Type 0
Few r = IsFew toggle thrice_code correct 1 0 inverter_layout r

few_stored_0 : Few record { bit = latch_bit 0; first = 3; end = 8 }
few_stored_0 = of_place [] [] (0 ∷ []) 0 0 1 refl refl refl refl
    (λ n cost. copy_cost toggle thrice_code inverter_layout 1 1 toggle_joined (majority ∷ []) (6 ∷ []) 7 toggle_is one_word is_joined 1 7 n (0 ∷ 1 ∷ 2 ∷ []) (behind []) (behind (take 5 gates)) 7 (inr (omega arith, refl)) cost (stored_copy [] 7 refl))

few_stored_1 : Few record { bit = latch_bit 1; first = 8; end = 13 }
few_stored_1 = of_check [] [] (0 ∷ []) 0 (1 ∷ []) refl refl (omega arith) refl
    (λ costs each. check_cost toggle thrice_code inverter_layout 1 1 toggle_joined (majority ∷ []) (6 ∷ []) 7 toggle_is one_word is_joined (1 ∷ []) (7 ∷ []) costs 0 (0 ∷ 1 ∷ 2 ∷ []) (behind (take 5 gates)) (behind (take 10 gates)) 12 (inr (omega arith, refl), tt) each (stored_copy (take 5 gates) 12 refl))

few_stored_2 : Few record { bit = latch_bit 2; first = 13; end = 18 }
few_stored_2 = of_check [] [] (0 ∷ []) 1 (1 ∷ []) refl refl (omega arith) refl
    (λ costs each. check_cost toggle thrice_code inverter_layout 1 1 toggle_joined (majority ∷ []) (6 ∷ []) 7 toggle_is one_word is_joined (1 ∷ []) (7 ∷ []) costs 1 (0 ∷ 1 ∷ 2 ∷ []) (behind (take 10 gates)) (behind (take 15 gates)) 17 (inr (omega arith, refl), tt) each (stored_copy (take 10 gates) 17 refl))

few_shown_0 : Few record { bit = output_bit 0; first = 18; end = 22 }
few_shown_0 = of_output 0 0 refl refl
    (λ n cost. copy_cost toggle thrice_code inverter_layout 1 1 toggle_joined (majority ∷ []) (6 ∷ []) 7 toggle_is one_word is_joined 0 6 n (0 ∷ 1 ∷ 2 ∷ []) (behind (take 15 gates)) (behind (take 19 gates)) 21 (inl refl) cost (shown_copy (take 15 gates) 21 refl))

few_shown_1 : Few record { bit = output_bit 1; first = 22; end = 26 }
few_shown_1 = of_output_check [] [] (0 ∷ []) 0 (0 ∷ []) refl refl (omega arith) refl
    (λ costs each. check_cost toggle thrice_code inverter_layout 1 1 toggle_joined (majority ∷ []) (6 ∷ []) 7 toggle_is one_word is_joined (0 ∷ []) (6 ∷ []) costs 0 (0 ∷ 1 ∷ 2 ∷ []) (behind (take 19 gates)) (behind (take 23 gates)) 25 (inl refl, tt) each (shown_copy (take 19 gates) 25 refl))

few_shown_2 : Few record { bit = output_bit 2; first = 26; end = 30 }
few_shown_2 = of_output_check [] [] (0 ∷ []) 1 (0 ∷ []) refl refl (omega arith) refl
    (λ costs each. check_cost toggle thrice_code inverter_layout 1 1 toggle_joined (majority ∷ []) (6 ∷ []) 7 toggle_is one_word is_joined (0 ∷ []) (6 ∷ []) costs 1 (0 ∷ 1 ∷ 2 ∷ []) (behind (take 23 gates)) (behind (take 27 gates)) 29 (inl refl, tt) each (shown_copy (take 23 gates) 29 refl))

pub corrector_is_guard : IsGuardOf toggle_corrector toggle thrice_code correct 1 0 inverter_layout
corrector_is_guard =
    few_guard_of toggle_corrector toggle thrice_code correct 1 0 1 inverter_layout [] corrector_is_made refl refl refl one_word
    (λ r c. All-contains Few toggle_corrector.regions r (All-from_recursion Few toggle_corrector.regions (few_stored_0, (few_stored_1, (few_stored_2, (few_shown_0, (few_shown_1, (few_shown_2, tt))))))) c)

pub toggle_size : IsMachineSizeWith toggle thrice_code correct 1 0 inverter_layout 106
toggle_size = record {
  state_cost = 53;
  is_state_cost = (53 ∷ [], ((1 ∷ [], (refl, tt), (17 ∷ [], (record { cone = 1; is_cone = (true ∷ [], (((λ t. same_net), (λ r. refl)), tt), refl); correctors = 14; are_correctors = (true ∷ [], (((λ t. (0, (0, omega arith, refl), read_by same_net (record { place = 0; number = refl; gate = one true 0; is_gate = refl; reads = (0, omega arith, refl) }))), (λ r. refl)), tt), refl); total = refl }, tt), refl)), tt), refl);
  output_cost = 50;
  is_output_cost = (50 ∷ [], ((0 ∷ [], (refl, tt), (16 ∷ [], (record { cone = 0; is_cone = (false ∷ [], (((λ t. cc t), (λ r. absurd (let e = only_itself r in omega arith))), tt), refl); correctors = 14; are_correctors = (true ∷ [], (((λ t. (0, (0, omega arith, refl), same_net)), (λ r. refl)), tt), refl); total = refl }, tt), refl)), tt), refl);
  total = refl;
}
