-- The nets of the words so far are marked, and none of them stands there twice.
use Rattle.std.proofs.Common.{◌≡◌, [], None, length, map, take}
use Rattle.guard_spec.specs.Words.{all_numbers}
use Rattle.blif_read.specs.View.{name_at}
use Rattle.encode_state.specs.Listed.{IsMarked}
use Rattle.encode_state.specs.Types.{words_in}
use Rattle.encode_state.proofs.checks.mark_words.Given as goal

abbrev pub invariant-loop-word : goal.invariant-loop-word
invariant-loop-word l = IsMarked (map (name_at l.names) l.nets) [] (all_numbers (words_in (take l.word-index l.words))) l.marks.items None
