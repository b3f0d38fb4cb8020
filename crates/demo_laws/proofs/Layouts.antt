-- The layout of the demo design, and the distance of its code.
use Rattle.std.proofs.Common.{◌≡◌, refl, sym, ◌∙◌, ap, ℕ, zero, suc, ◌+◌, ◌*◌, ◌<◌, ◌≤◌, List, [], ◌∷◌, map, length, Bool, true, false, None, arith, lit<, lit≤}
use Rattle.std.specs.List.{range_with_len}
use Rattle.netlist_spec.specs.Netlist.{Name}
use Rattle.netlist_spec.specs.Models.{latch_outputs, output_nets}
use Rattle.netlist_spec.specs.SourceRun.{Bits}
use Rattle.guard_spec.specs.Codes.{IsDistance, weight, encoded, hamming_code}
use Rattle.guard_spec.specs.Words.{AreTakenBy, AreWords, IsLayout, layout_fault, all_numbers}
use Rattle.program_spec.specs.Demo.{demo_settings, state_bits}
use Rattle.demo_laws.specs.DemoFile.{stored, shown, boxes, word_of, demo_words, demo_layout, demo_model}
use Rattle.demo_laws.proofs.Ranges.{by_four, flat_mapped, length_mapped}
use Rattle.demo_laws.proofs.Drivers.{ports_named}
use Rattle.demo_laws.proofs.Latches.{latch_outputs_are}

same_range : (ns : List ℕ) → map (λ k. k) ns ≡ ns
same_range [] = refl
same_range (n ∷ ns) = ap (λ l. n ∷ l) (same_range ns)

numbers_are : (n : ℕ) → all_numbers (demo_words n) ≡ range_with_len 0 (4 * n)
numbers_are n = flat_mapped (λ w. w) word_of (boxes n) ∙ by_four (λ k. k) 0 n ∙ same_range (range_with_len 0 (4 * n))

taken_by_four : (a n : ℕ) → AreTakenBy 4 (map word_of (range_with_len a n))
taken_by_four a zero = tt
taken_by_four a (suc zero) = (lit≤ tt, lit≤ tt)
taken_by_four a (suc (suc n)) = (refl, taken_by_four (a + 1) (suc n))

words_of : (n : ℕ) (nets : List Name) → length nets ≡ 4 * n → AreWords 4 nets None (demo_words n)
words_of n nets e = (numbers_are n ∙ ap (range_with_len 0) (sym e), taken_by_four 0 n)

pub demo_is_laid_out : (n : ℕ) → IsLayout (demo_model n) demo_settings (demo_layout n)
demo_is_laid_out n =
    record {
      state = words_of n (latch_outputs (demo_model n)) (ap length (latch_outputs_are n) ∙ length_mapped stored 0 (4 * n));
      output = words_of n (output_nets (demo_model n)) (ap length (ports_named 3 (map shown (state_bits n))) ∙ length_mapped shown 0 (4 * n));
    }

pub no_layout_fault : (n : ℕ) → layout_fault (demo_model n) demo_settings ≡ None
no_layout_fault n = refl

pub hamming_distance : IsDistance hamming_code 4
hamming_distance =
    record { least = true ∷ false ∷ false ∷ false ∷ []; places = refl; nonzero = lit< tt; reached = refl; bound = least }
  where
    four : (a b c d : Bool) → 0 < weight (a ∷ b ∷ c ∷ d ∷ []) → 4 ≤ weight (encoded hamming_code (a ∷ b ∷ c ∷ d ∷ []))
    four true true true true h = lit≤ tt
    four true true true false h = lit≤ tt
    four true true false true h = lit≤ tt
    four true true false false h = lit≤ tt
    four true false true true h = lit≤ tt
    four true false true false h = lit≤ tt
    four true false false true h = lit≤ tt
    four true false false false h = lit≤ tt
    four false true true true h = lit≤ tt
    four false true true false h = lit≤ tt
    four false true false true h = lit≤ tt
    four false true false false h = lit≤ tt
    four false false true true h = lit≤ tt
    four false false true false h = lit≤ tt
    four false false false true h = lit≤ tt
    four false false false false h = absurd (omega arith)

    least : (u : Bits) → length u ≡ 4 → 0 < weight u → 4 ≤ weight (encoded hamming_code u)
    least (a ∷ b ∷ c ∷ d ∷ []) e h = four a b c d h
    least [] e h = absurd (omega arith)
    least (a ∷ []) e h = absurd (omega arith)
    least (a ∷ b ∷ []) e h = absurd (omega arith)
    least (a ∷ b ∷ c ∷ []) e h = absurd (omega arith)
    least (a ∷ b ∷ c ∷ d ∷ f ∷ u) e h = absurd (omega arith)
