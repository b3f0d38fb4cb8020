-- The words from this one on are still to be put.
use Rattle.std.proofs.Common.{◌≡◌, ◌+◌, ℕ, length, map, drop, replicate, sum_by, List}
use Rattle.encode_state.specs.Types.{words_in}
use Rattle.gate_net.specs.Gate.{net_number}
use Rattle.guard_net.specs.Built.{put_words}
use Rattle.guard_net.proofs.leaves.data_places.Given as goal

abbrev pub invariant-loop-word : goal.invariant-loop-word
invariant-loop-word l = record {
  put : put_words l.columns l.first (words_in l.words) (replicate l.latches 0) ≡ put_words l.columns l.count (words_in (drop l.word-index l.words)) (map net_number l.nets.items);
  size : length l.nets.items ≡ l.latches;
  count : l.count + sum_by (λ (w : List ℕ). length w + l.columns) (words_in (drop l.word-index l.words)) ≡ l.first + sum_by (λ (w : List ℕ). length w + l.columns) (words_in l.words);
}
