-- The words so far have all numbers below the next one, and are full where it isn't the end.
use Rattle.std.proofs.Common.{◌≡◌, ◌<◌, ◌≤◌, ◌-◌, length}
use Rattle.std.specs.List.{AllByRecursion, range_with_len}
use Rattle.guard_spec.specs.Words.{AreTakenBy, all_numbers}
use Rattle.encode_state.specs.Types.{words_in}
use Rattle.encode_state.proofs.taken.taken_words.Given as goal

abbrev pub invariant-loop-first : goal.invariant-loop-first
invariant-loop-first l =
    record {
      within : l.first ≤ l.end;
      all : all_numbers (words_in l.words.items) ≡ range_with_len 0 l.first;
      full : l.first < l.end → AllByRecursion (λ w. length w ≡ l.k) (words_in l.words.items);
      taken : AreTakenBy l.k (words_in l.words.items);
    }

abbrev pub decreases-loop-first : goal.decreases-loop-first
decreases-loop-first l = l.end - l.first
