use Rattle.std.proofs.Common.{◌≡◌, ◌+◌, ℕ, List, length, drop, sum_by}
use Rattle.encode_state.specs.Types.{words_in}
use Rattle.joined_net.proofs.correctors.leaf_count.Given as goal

abbrev pub invariant-loop-word : goal.invariant-loop-word
invariant-loop-word l = l.count + sum_by (λ (w : List ℕ). length w + l.columns) (words_in (drop l.word-index l.words)) ≡ l.inputs + sum_by (λ (w : List ℕ). length w + l.columns) (words_in l.words)
