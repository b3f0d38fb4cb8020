-- The words from this one on are still to be pushed.
use Rattle.std.proofs.Common.{◌≡◌, ◌+◌, ◌++◌, ℕ, List, length, map, drop, sum_by}
use Rattle.encode_state.specs.Types.{words_in}
use Rattle.gate_net.specs.Words.{word_nets}
use Rattle.guard_laws.specs.Watched.{state_nets}
use Rattle.guard_net.proofs.rails.push_state_words.Given as goal

abbrev pub invariant-loop-word : goal.invariant-loop-word
invariant-loop-word l = record {
  pushed : map word_nets l.initial.watched.items ++ state_nets l.code l.first (words_in l.words) ≡ map word_nets l.watched.items ++ state_nets l.code l.at (words_in (drop l.word-index l.words));
  fits : l.at + sum_by (λ (w : List ℕ). length w + l.code.columns) (words_in (drop l.word-index l.words)) ≡ l.first + sum_by (λ (w : List ℕ). length w + l.code.columns) (words_in l.words);
}
