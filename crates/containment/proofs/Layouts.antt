-- The words that settings ask for are a partition.
use Rattle.std.proofs.Common.{◌≡◌, ◌≢◌, sym, ◌∙◌, ap, subst, ℕ, zero, suc, ◌+◌, ◌<◌, ◌≤◌, List, [], ◌∷◌, length, Bool, true, false, cond, ◌==◌, ◌⊎◌, inl, inr, Option, Some, None, arith, eq-eqb, ne_eqb, count_by}
use Rattle.std.proofs.lemmas.Bool.{cases_eq}
use Rattle.std.proofs.lemmas.List.{length-map}
use Rattle.std.specs.List.{AllByRecursion, range_with_len}
use Rattle.netlist_spec.specs.Netlist.{Name, Model, File}
use Rattle.netlist_spec.specs.Covers.{Library}
use Rattle.netlist_spec.specs.Models.{latches_of, latch_outputs, output_nets, init_bit}
use Rattle.netlist_spec.specs.Gates.{Machine}
use Rattle.guard_spec.specs.Codes.{data_places, IsCode, IsDistance}
use Rattle.guard_spec.specs.Words.{Settings, Words, Layout, IsPartition, AreTakenBy, AreWords, IsLayout}
use Rattle.netlist_spec.specs.Elaborated.{IsMachineOf}
use Rattle.containment.specs.Built.{IsCoded}
use Rattle.containment.proofs.Counting.{number, number_counts, number_above, All_below}

-- a number of a range stands in it once
once_in_range : (a n j : ℕ) → a ≤ j → j < a + n → number (λ k. k == j) (range_with_len a n) ≡ 1
once_in_range a zero j low high = absurd (omega arith)
once_in_range a (suc n) j low high = by_case (cases_eq a j) (once_in_range (a + 1) n j)
  where
    here : (b : Bool) (m : ℕ) → b ≡ true → m ≡ 0 → cond b 1 0 + m ≡ 1
    here true m e z = omega arith
    here false m e z = cc e

    behind : (b : Bool) (m : ℕ) → b ≡ false → m ≡ 1 → cond b 1 0 + m ≡ 1
    behind true m e o = cc e
    behind false m e o = omega arith

    by_case : (a ≡ j) ⊎ (a ≢ j) → (a + 1 ≤ j → j < (a + 1) + n → number (λ k. k == j) (range_with_len (a + 1) n) ≡ 1) → number (λ k. k == j) (range_with_len a (suc n)) ≡ 1
    by_case (inl e) rest = here (a == j) _ (eq-eqb a j e) (number_above (a + 1) n j (omega arith))
    by_case (inr other) rest = behind (a == j) _ (ne_eqb a j other) (rest (omega arith) (omega arith))

taken_lengths : (k : ℕ) → 1 ≤ k → (words : Words) → AreTakenBy k words → AllByRecursion (λ w. (1 ≤ length w) × (length w ≤ k)) words
taken_lengths k some [] taken = tt
taken_lengths k some (w ∷ []) taken = (taken, tt)
taken_lengths k some (w ∷ v ∷ rest) taken = (let e : length w ≡ k = taken.0 in (omega arith, omega arith), taken_lengths k some (v ∷ rest) taken.1)

pub words_are_partitions : (k : ℕ) → 1 ≤ k → (nets : List Name) (named : Option (List (List Name))) (words : Words) → AreWords k nets named words → IsPartition (length nets) k words
words_are_partitions k some nets (Some names) words are = are.1
words_are_partitions k some nets None words are = record {
  lengths = taken_lengths k some words are.1;
  each_once = λ i h. subst (λ (ks : List ℕ). count_by (λ j. j == i) ks ≡ 1) (sym are.0) (sym (number_counts (λ j. j == i) (range_with_len 0 (length nets))) ∙ once_in_range 0 (length nets) i (omega arith) (omega arith));
  no_other = subst (λ (ks : List ℕ). AllByRecursion (λ i. i < length nets) ks) (sym are.0) (All_below (λ i. i < length nets) 0 (length nets) (λ i low high. omega arith));
}

-- The words of a source's layout are words of its machine.
pub coded_by_layout : (file : File) (library : Library) (m : Model) (machine : Machine) (s : Settings) (l : Layout) (d : ℕ) → IsMachineOf file library m machine → IsLayout m s l → IsCode s.code → IsDistance s.code d → IsCoded machine s.code d l
coded_by_layout file library m machine s l d means is_layout is_code is_distance = record {
  is_code = is_code;
  is_distance = is_distance;
  state_words = subst (λ (n : ℕ). IsPartition n (data_places s.code) l.state) latches (words_are_partitions (data_places s.code) is_code.rows.0 (latch_outputs m) s.state_words l.state is_layout.state);
  output_words = subst (λ (n : ℕ). IsPartition n (data_places s.code) l.output) (sym means.outputs) (words_are_partitions (data_places s.code) is_code.rows.0 (output_nets m) s.output_words l.output is_layout.output);
}
  where
    latches : length (latch_outputs m) ≡ length machine.latches
    latches =
        length-map (latches_of m) (λ l. l.q)
        ∙ (sym (length-map (latches_of m) (λ l. init_bit l.init))
        ∙ (sym (ap (λ (bs : List Bool). length bs) means.inits) ∙ length-map machine.latches (λ r. r.init)))
