-- The words from this one on are still to be pushed.
use Rattle.std.proofs.Common.{◌≡◌, ◌+◌, ◌*◌, ◌++◌, map, drop}
use Rattle.std.specs.List.{enumerate_from}
use Rattle.encode_state.specs.Types.{words_in}
use Rattle.gate_net.specs.Gate.{net_number}
use Rattle.gate_net.specs.Words.{word_nets}
use Rattle.guard_laws.specs.Watched.{output_nets_of}
use Rattle.guard_net.proofs.rails.push_output_words.Given as goal

abbrev pub invariant-loop-word : goal.invariant-loop-word
invariant-loop-word l = record {
  pushed : map word_nets l.initial.watched.items ++ map (output_nets_of l.code l.shown (map net_number l.outputs)) (enumerate_from 0 (words_in l.words))
      ≡ map word_nets l.watched.items ++ map (output_nets_of l.code l.shown (map net_number l.outputs)) (enumerate_from l.word-index (words_in (drop l.word-index l.words)));
  place : l.at ≡ l.shown + l.word-index * l.code.columns;
}
