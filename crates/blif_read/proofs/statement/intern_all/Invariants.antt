-- The names so far have their numbers.
use Rattle.std.proofs.Common.{◌≡◌, ◌+◌, ◌≤◌, take, length}
use Rattle.blif_read.specs.LineTests.{words_in}
use Rattle.blif_read.specs.Spelled.{AreNumbers, with_names}
use Rattle.blif_read.proofs.statement.intern_all.Given as goal

abbrev pub invariant-loop-word : goal.invariant-loop-word
invariant-loop-word l =
    record {
      names : l.names ≡ with_names l.initial.names (words_in (take l.word-index l.words));
      ids : AreNumbers l.names l.ids.items (words_in (take l.word-index l.words));
      few : length l.names ≤ length l.initial.names + l.word-index;
    }
