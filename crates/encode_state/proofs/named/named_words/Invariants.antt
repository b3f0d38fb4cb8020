-- The names of the words so far have these numbers.
use Rattle.std.proofs.Common.{map, take}
use Rattle.guard_spec.specs.Words.{AreNamed}
use Rattle.blif_read.specs.View.{name_at}
use Rattle.encode_state.specs.Types.{names_in, words_in}
use Rattle.encode_state.proofs.named.named_words.Given as goal

abbrev pub invariant-loop-word : goal.invariant-loop-word
invariant-loop-word l = AreNamed (map (name_at l.names) l.nets) (map names_in (take l.word-index l.words)) (words_in l.found.items)
