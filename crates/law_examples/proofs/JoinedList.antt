-- The premises hold of the register that turns its bit.
use Rattle.std.proofs.Common.{◌≡◌, refl, sym, ◌∙◌, ap, ap₂, subst, ℕ, zero, suc, ◌+◌, ◌*◌, ◌==◌, ◌<◌, ◌≤◌, ◌⊎◌, inl, inr, Bool, true, false, ◌&&◌, ◌||◌, List, [], ◌∷◌, ◌++◌, length, slice_get, Some, arith, Contains, IsTrue, count_by}
use Rattle.std.specs.List.{range_with_len}
use Rattle.netlist_spec.specs.Covers.{has_bit, parity}
use Rattle.netlist_spec.specs.SourceRun.{Bits}
use Rattle.netlist_spec.specs.Gates.{GateForm, one, two, IsGateList, bit_number, IsMachine, AnswersWithin, ReadsNet, gate_reads}
use Rattle.guard_spec.specs.Codes.{encoded, apart, checks_of}
use Rattle.netlist_spec.specs.CellBits.{latch_bit, output_bit}
use Rattle.spec_examples.specs.Examples.{inverter_layout}
use Rattle.netlist_spec.specs.GateRanges.{Region, LiesIn}
use Rattle.guard_spec.specs.Words.{IsPartition}
use Rattle.gate_net.specs.GateNet.{net_count}
use Rattle.cone_split.specs.Cones.{IsInCone, is_root, is_read}
use Rattle.cone_split.specs.Copies.{AreConeOf, AreCopied}
use Rattle.cone_split.specs.Ranges.{IsCopy}
use Rattle.cone_split.proofs.Cells.{contains_cases}
use Rattle.cone_split.proofs.Copied.{net_reads_below}
use Rattle.cone_split.proofs.Whole.{last_copies}
use Rattle.predictor.specs.Columns.{column_roots}
use Rattle.spec_examples.specs.Toggle.{toggle, thrice_code}
use Rattle.spec_examples.proofs.Toggle.{or_answer}
use Rattle.corrector.specs.Corrected.{IsCorrectorRange}
use Rattle.cone_split.specs.Whole.{IsCopyOfAll}
use Rattle.correction_laws.specs.Joined.{Corrector, IsJoined, IsServed}
use Rattle.correction_laws.specs.FromJoined.{IsJoinedCopy, IsJoinedCheck}
use Rattle.law_examples.specs.JoinedList.{three_latches, majority_list, majority, toggle_joined, stored_gates, shown_gates, behind}
use Rattle.correction_laws.proofs.Lists.{range_below}
use Rattle.correction_laws.proofs.Steps.{appended, corrector_stays}
use Rattle.cone_split.proofs.AllCopied.{whole_copy}
use Rattle.spec_examples.proofs.Corrector.{thrice, majority_near}

-- ---- the corrector

and_answer : (a b : Bool) → has_bit 8 (2 * bit_number a + bit_number b) ≡ (a && b)
and_answer true true = refl
and_answer true false = refl
and_answer false true = refl
and_answer false false = refl

majority_value : (v : ℕ → Bool) (u : Bits) → AnswersWithin majority_list 3 7 v → length u ≡ 1 → apart (v 0 ∷ v 1 ∷ v 2 ∷ []) (encoded thrice_code u) ≤ 1 → v 6 ∷ [] ≡ u
majority_value v [] answers long near = absurd (omega arith)
majority_value v (a ∷ b ∷ u) answers long near = absurd (omega arith)
majority_value v (k ∷ []) answers long near =
    let a : v 3 ≡ (v 0 && v 1) = answers.0 (omega arith) (omega arith) ∙ and_answer (v 0) (v 1) in
    let b : v 4 ≡ (v 0 || v 1) = answers.1.0 (omega arith) (omega arith) ∙ or_answer (v 0) (v 1) in
    let c : v 5 ≡ (v 2 && (v 0 || v 1)) = answers.1.1.0 (omega arith) (omega arith) ∙ (and_answer (v 2) (v 4) ∙ ap (λ (x : Bool). v 2 && x) b) in
    let d : v 6 ≡ ((v 0 && v 1) || (v 2 && (v 0 || v 1))) = answers.1.1.1.0 (omega arith) (omega arith) ∙ (or_answer (v 3) (v 5) ∙ ap₂ (λ (x y : Bool). x || y) a c) in
    ap (λ (x : Bool). x ∷ []) (d ∙ majority_near (v 0) (v 1) (v 2) k (subst (λ (bs : Bits). apart (v 0 ∷ v 1 ∷ v 2 ∷ []) bs ≤ 1) (thrice k) near))

-- all nets below a bound, from 0 on
below_contains : (a n k : ℕ) → a ≤ k → k < a + n → Contains (range_with_len a n) k
below_contains a zero k low high = absurd (omega arith)
below_contains a (suc n) k low high = by_place (same_or a k) (λ h. below_contains (a + 1) n k h (omega arith))
  where
    same_or : (a k : ℕ) → (a ≡ k) ⊎ ((a ≡ k) → ⊥)
    same_or a k = grind arith

    by_place : (a ≡ k) ⊎ ((a ≡ k) → ⊥) → (a + 1 ≤ k → Contains (range_with_len (a + 1) n) k) → Contains (range_with_len a (suc n)) k
    by_place (inl e) later = (0, omega arith, e)
    by_place (inr f) later = let (i, h, e) = later (let g : (a ≡ k) → ⊥ = f in grind (arith, g)) in (suc i, omega arith, e)

joined_is_list : IsGateList toggle_joined
joined_is_list = omega arith

pub majority_corrects : IsCorrectorRange thrice_code 1 (record { places = 0 ∷ []; checks = 1 ∷ 2 ∷ [] }) three_latches majority_list (6 ∷ [])
majority_corrects = record {
  count = refl;
  known = λ n c. elim (contains_cases 6 n [] c) [ inl e ↦ inl (omega arith, omega arith) | inr d ↦ absurd (let h = d.1 in omega arith) ];
  grows = omega arith;
  reads = λ r is n k lies net.
      let low = lies.0 in
      let high = lies.1 in
      let a = is.first in
      let b = is.end in
      let less = net_reads_below majority_list n k majority_is_list net in
      by_place r n k a b lies less (place k 3);
  few = omega arith;
  value = λ v u answers long near. majority_value v u answers long near;
}
  where
    majority_is_list : IsGateList majority_list
    majority_is_list = omega arith

    place : (k b : ℕ) → (k < b) ⊎ (b ≤ k)
    place k b = grind arith

    by_place : (r : Region) (n k : ℕ) → r.first ≡ 3 → r.end ≡ 7 → LiesIn r n → k < n → (k < 3) ⊎ (3 ≤ k) → Contains (0 ∷ 1 ∷ 2 ∷ []) k ⊎ LiesIn r k
    by_place r n k a b lies less (inl h) = inl (below_contains 0 3 k (omega arith) (omega arith))
    by_place r n k a b lies less (inr h) = let c = lies.0 in let d = lies.1 in inr (omega arith, omega arith)

-- ---- the joined list

toggle_whole : IsCopyOfAll toggle.net (6 ∷ []) 7 toggle_joined
toggle_whole = whole_copy toggle.net (6 ∷ []) majority_list (one true 6 ∷ []) (omega arith) refl (((one true 0), refl, (6, inl refl, refl)), tt)

pub is_joined : IsJoined toggle thrice_code inverter_layout 1 toggle_joined (majority ∷ []) (6 ∷ []) 7
is_joined = record {
  is_list = joined_is_list;
  leaves = refl;
  words = refl;
  row = (refl, corrector_stays majority_list (one true 6 ∷ []) thrice_code 1 0 majority (omega arith) (appended thrice_code 1 0 (0 ∷ []) three_latches majority_list (6 ∷ []) (omega arith) majority_corrects), refl);
  corrected = record { count = refl; each = λ c p j n inside at_j at_n. each c p j n (contains_cases majority c [] inside) at_j at_n };
  cells = toggle_whole;
}
  where
    first_alone : (x p n : ℕ) → slice_get (x ∷ []) p ≡ Some n → (p ≡ 0) × (x ≡ n)
    first_alone x zero n e = (refl, let same : x ≡ n = cc e in same)
    first_alone x (suc p) n e = cc e

    each : (c : Corrector) (p j n : ℕ) → (majority ≡ c) ⊎ Contains [] c → slice_get c.word p ≡ Some j → slice_get c.nets p ≡ Some n → slice_get (6 ∷ []) j ≡ Some n
    each c p j n (inr d) at_j at_n = absurd (let h = d.1 in omega arith)
    each c p j n (inl e) at_j at_n =
        let a = first_alone 0 p j (ap (λ (d : Corrector). slice_get d.word p) e ∙ at_j) in
        let b = first_alone 6 p n (ap (λ (d : Corrector). slice_get d.nets p) e ∙ at_n) in
        ap (slice_get (6 ∷ [])) (sym a.1) ∙ ap (λ (k : ℕ). Some k) b.1

pub one_word : IsPartition 1 1 inverter_layout.state
one_word = record { lengths = ((omega arith, omega arith), tt); each_once = once; no_other = (omega arith, tt) }
  where
    once : (i : ℕ) → i < 1 → count_by (λ j. j == i) (0 ∷ []) ≡ 1
    once zero h = refl
    once (suc i) h = absurd (omega arith)

pub toggle_is : IsMachine toggle
toggle_is = record { gates = omega arith; leaves = refl; stores = omega arith; outputs = omega arith }

served : (x : ℕ) → IsServed toggle (majority ∷ []) x
served x c inside needs = elim (contains_cases majority c [] inside) [ inl e ↦ subst (λ (d : Corrector). IsTrue d.serves) e refl | inr d ↦ absurd (let h = d.1 in omega arith) ]

-- ---- copies

net_reads : (n k place : ℕ) (g : GateForm) → n ≡ 3 + place → slice_get toggle_joined.gates place ≡ Some g → Contains (gate_reads g) k → ReadsNet toggle_joined n k
net_reads n k place g number is_gate reads = record { place = place; number = number; gate = g; is_gate = is_gate; reads = reads }

-- the gates in front of net 3 + m are closed
front_closed : (m : ℕ) (n k : ℕ) → Contains (range_with_len 3 m) n → ReadsNet toggle_joined n k → 3 ≤ k → Contains (range_with_len 3 m) k
front_closed m n k c r low =
    let less = net_reads_below toggle_joined n k joined_is_list r in
    let high = range_below 3 m n c in
    below_contains 3 m k low (omega arith)

in_majority : (root : ℕ) → IsInCone toggle_joined (root ∷ []) 6 → (n : ℕ) → Contains (3 ∷ 4 ∷ 5 ∷ 6 ∷ []) n → IsInCone toggle_joined (root ∷ []) n
in_majority root top n (zero, h, e) = subst (λ (q : ℕ). IsInCone toggle_joined (root ∷ []) q) e (is_read top (net_reads 6 3 3 (two 14 3 5) refl refl (0, omega arith, refl)))
in_majority root top n (suc zero, h, e) = subst (λ (q : ℕ). IsInCone toggle_joined (root ∷ []) q) e (is_read (is_read top (net_reads 6 5 3 (two 14 3 5) refl refl (1, omega arith, refl))) (net_reads 5 4 2 (two 8 2 4) refl refl (1, omega arith, refl)))
in_majority root top n (suc (suc zero), h, e) = subst (λ (q : ℕ). IsInCone toggle_joined (root ∷ []) q) e (is_read top (net_reads 6 5 3 (two 14 3 5) refl refl (1, omega arith, refl)))
in_majority root top n (suc (suc (suc zero)), h, e) = subst (λ (q : ℕ). IsInCone toggle_joined (root ∷ []) q) e top
in_majority root top n (suc (suc (suc (suc k))), h, e) = absurd (omega arith)

shown_cone : AreConeOf toggle_joined (6 ∷ []) (3 ∷ 4 ∷ 5 ∷ 6 ∷ [])
shown_cone = record {
  all = record { rise = omega arith; within = omega arith; closed = front_closed 4 };
  roots_in = λ n c low. elim (contains_cases 6 n [] c) [ inl e ↦ subst (λ (q : ℕ). Contains (3 ∷ 4 ∷ 5 ∷ 6 ∷ []) q) e (3, omega arith, refl) | inr d ↦ absurd (let h = d.1 in omega arith) ];
  alone = λ n c. in_majority 6 (is_root (0, omega arith, refl)) n c;
}

stored_cone : AreConeOf toggle_joined (7 ∷ []) (3 ∷ 4 ∷ 5 ∷ 6 ∷ 7 ∷ [])
stored_cone = record {
  all = record { rise = omega arith; within = omega arith; closed = front_closed 5 };
  roots_in = λ n c low. elim (contains_cases 7 n [] c) [ inl e ↦ subst (λ (q : ℕ). Contains (3 ∷ 4 ∷ 5 ∷ 6 ∷ 7 ∷ []) q) e (4, omega arith, refl) | inr d ↦ absurd (let h = d.1 in omega arith) ];
  alone = λ n c. inside n c;
}
  where
    top : IsInCone toggle_joined (7 ∷ []) 7
    top = is_root (0, omega arith, refl)

    inside : (n : ℕ) → Contains (3 ∷ 4 ∷ 5 ∷ 6 ∷ 7 ∷ []) n → IsInCone toggle_joined (7 ∷ []) n
    inside n (suc (suc (suc (suc zero))), h, e) = subst (λ (q : ℕ). IsInCone toggle_joined (7 ∷ []) q) e top
    inside n (zero, h, e) = in_majority 7 (is_read top (net_reads 7 6 4 (one true 6) refl refl (0, omega arith, refl))) n (0, omega arith, e)
    inside n (suc zero, h, e) = in_majority 7 (is_read top (net_reads 7 6 4 (one true 6) refl refl (0, omega arith, refl))) n (1, omega arith, e)
    inside n (suc (suc zero), h, e) = in_majority 7 (is_read top (net_reads 7 6 4 (one true 6) refl refl (0, omega arith, refl))) n (2, omega arith, e)
    inside n (suc (suc (suc zero)), h, e) = in_majority 7 (is_read top (net_reads 7 6 4 (one true 6) refl refl (0, omega arith, refl))) n (3, omega arith, e)
    inside n (suc (suc (suc (suc (suc k)))), h, e) = absurd (omega arith)

stored_copied : (b : ℕ) → AreCopied toggle_joined (0 ∷ 1 ∷ 2 ∷ []) (3 ∷ 4 ∷ 5 ∷ 6 ∷ 7 ∷ []) b (3 ∷ 4 ∷ 5 ∷ 6 ∷ 7 ∷ []) (stored_gates b)
stored_copied b = (
  (two 8 0 1, refl, (0, 1, inl refl, inl refl, refl)),
  (
    (two 14 0 1, refl, (0, 1, inl refl, inl refl, refl)),
    (
      (two 8 2 4, refl, (2, b + 1, inl refl, inr (omega arith, (1, refl, refl)), refl)),
      (
        (two 14 3 5, refl, (b, b + 2, inr (omega arith, (0, refl, omega arith)), inr (omega arith, (2, refl, refl)), refl)),
        ((one true 6, refl, (b + 3, inr (omega arith, (3, refl, refl)), refl)), tt),
      ),
    ),
  ),
)

shown_copied : (b : ℕ) → AreCopied toggle_joined (0 ∷ 1 ∷ 2 ∷ []) (3 ∷ 4 ∷ 5 ∷ 6 ∷ []) b (3 ∷ 4 ∷ 5 ∷ 6 ∷ []) (shown_gates b)
shown_copied b = (
  (two 8 0 1, refl, (0, 1, inl refl, inl refl, refl)),
  (
    (two 14 0 1, refl, (0, 1, inl refl, inl refl, refl)),
    (
      (two 8 2 4, refl, (2, b + 1, inl refl, inr (omega arith, (1, refl, refl)), refl)),
      ((two 14 3 5, refl, (b, b + 2, inr (omega arith, (0, refl, omega arith)), inr (omega arith, (2, refl, refl)), refl)), tt),
    ),
  ),
)

pub stored_copy : (gates : List GateForm) (last : ℕ) → net_count (behind (gates ++ stored_gates (3 + length gates))) ≡ last + 1 → IsCopy toggle_joined (7 ∷ []) (0 ∷ 1 ∷ 2 ∷ []) (behind gates) (behind (gates ++ stored_gates (3 + length gates))) last
stored_copy gates last e = last_copies toggle_joined (7 ∷ []) (0 ∷ 1 ∷ 2 ∷ []) (3 ∷ 4 ∷ 5 ∷ 6 ∷ 7 ∷ []) (behind gates) (behind (gates ++ stored_gates (3 + length gates))) (stored_gates (3 + length gates)) last joined_is_list stored_cone refl (stored_copied (3 + length gates)) refl (omega arith) refl e

pub shown_copy : (gates : List GateForm) (last : ℕ) → net_count (behind (gates ++ shown_gates (3 + length gates))) ≡ last + 1 → IsCopy toggle_joined (6 ∷ []) (0 ∷ 1 ∷ 2 ∷ []) (behind gates) (behind (gates ++ shown_gates (3 + length gates))) last
shown_copy gates last e = last_copies toggle_joined (6 ∷ []) (0 ∷ 1 ∷ 2 ∷ []) (3 ∷ 4 ∷ 5 ∷ 6 ∷ []) (behind gates) (behind (gates ++ shown_gates (3 + length gates))) (shown_gates (3 + length gates)) last joined_is_list shown_cone refl (shown_copied (3 + length gates)) refl (omega arith) refl e

one_bit : (b : Bool) → parity (b ∷ []) ≡ b
one_bit true = refl
one_bit false = refl

check_is : (b : Bool) (j : ℕ) → j < 2 → Some b ≡ slice_get (checks_of thrice_code (b ∷ [])) j
check_is true zero h = refl
check_is true (suc zero) h = refl
check_is true (suc (suc j)) h = absurd (omega arith)
check_is false zero h = refl
check_is false (suc zero) h = refl
check_is false (suc (suc j)) h = absurd (omega arith)

pub place_copy : (gates : List GateForm) (last : ℕ) → net_count (behind (gates ++ stored_gates (3 + length gates))) ≡ last + 1 → IsJoinedCopy toggle thrice_code inverter_layout toggle_joined (majority ∷ []) (6 ∷ []) 7 (latch_bit 0) (behind gates) (behind (gates ++ stored_gates (3 + length gates))) last
place_copy gates last e = record { root = 1; is_net = omega arith; served = served 1; net = 7; over = inr (omega arith, refl); copy = stored_copy gates last e; right = λ u. refl }

pub output_copy : (gates : List GateForm) (last : ℕ) → net_count (behind (gates ++ shown_gates (3 + length gates))) ≡ last + 1 → IsJoinedCopy toggle thrice_code inverter_layout toggle_joined (majority ∷ []) (6 ∷ []) 7 (output_bit 0) (behind gates) (behind (gates ++ shown_gates (3 + length gates))) last
output_copy gates last e = record { root = 0; is_net = omega arith; served = served 0; net = 6; over = inl refl; copy = shown_copy gates last e; right = λ u. refl }

place_right : (b : Bool) (j : ℕ) → j < 2 → slice_get ((b ∷ checks_of thrice_code (b ∷ [])) ++ []) (suc j) ≡ slice_get (checks_of thrice_code (b ∷ [])) j
place_right true zero h = refl
place_right true (suc zero) h = refl
place_right true (suc (suc j)) h = absurd (omega arith)
place_right false zero h = refl
place_right false (suc zero) h = refl
place_right false (suc (suc j)) h = absurd (omega arith)

column_7 : (j : ℕ) → j < 2 → column_roots thrice_code j (7 ∷ []) ≡ 7 ∷ []
column_7 zero h = refl
column_7 (suc zero) h = refl
column_7 (suc (suc j)) h = absurd (omega arith)

column_6 : (j : ℕ) → j < 2 → column_roots thrice_code j (6 ∷ []) ≡ 6 ∷ []
column_6 zero h = refl
column_6 (suc zero) h = refl
column_6 (suc (suc j)) h = absurd (omega arith)

pub place_check : (j : ℕ) → j < 2 → (gates : List GateForm) (last : ℕ) → net_count (behind (gates ++ stored_gates (3 + length gates))) ≡ last + 1 → IsJoinedCheck toggle thrice_code inverter_layout toggle_joined (majority ∷ []) (6 ∷ []) 7 (latch_bit (suc j)) (behind gates) (behind (gates ++ stored_gates (3 + length gates))) last
place_check j h gates last e = record {
  roots = 1 ∷ [];
  are_nets = (omega arith, tt);
  served = (served 1, tt);
  over_nets = 7 ∷ [];
  over = (inr (omega arith, refl), tt);
  j = j;
  copy = subst (λ (roots : List ℕ). IsCopy toggle_joined roots (0 ∷ 1 ∷ 2 ∷ []) (behind gates) (behind (gates ++ stored_gates (3 + length gates))) last) (sym (column_7 j h)) (stored_copy gates last e);
  check = λ v u answers evaluation. ap (λ (b : Bool). Some b) ((stored_copy gates last e).value v u answers evaluation ∙ one_bit (u 7)) ∙ check_is (u 7) j h;
  right = λ u. place_right (u 1) j h;
}

pub output_check : (j : ℕ) → j < 2 → (gates : List GateForm) (last : ℕ) → net_count (behind (gates ++ shown_gates (3 + length gates))) ≡ last + 1 → IsJoinedCheck toggle thrice_code inverter_layout toggle_joined (majority ∷ []) (6 ∷ []) 7 (output_bit (suc j)) (behind gates) (behind (gates ++ shown_gates (3 + length gates))) last
output_check j h gates last e = record {
  roots = 0 ∷ [];
  are_nets = (omega arith, tt);
  served = (served 0, tt);
  over_nets = 6 ∷ [];
  over = (inl refl, tt);
  j = j;
  copy = subst (λ (roots : List ℕ). IsCopy toggle_joined roots (0 ∷ 1 ∷ 2 ∷ []) (behind gates) (behind (gates ++ shown_gates (3 + length gates))) last) (sym (column_6 j h)) (shown_copy gates last e);
  check = λ v u answers evaluation. ap (λ (b : Bool). Some b) ((shown_copy gates last e).value v u answers evaluation ∙ one_bit (u 6)) ∙ check_is (u 6) j h;
  right = λ u. place_right (u 0) j h;
}
