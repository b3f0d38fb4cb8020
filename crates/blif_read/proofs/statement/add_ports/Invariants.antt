-- The ports of the words so far are added.
use Rattle.std.proofs.Common.{◌≡◌, ◌+◌, ◌≤◌, take, length}
use Rattle.blif_read.specs.LineTests.{words_in}
use Rattle.blif_read.specs.Spelled.{AddsPorts, with_names}
use Rattle.blif_read.proofs.statement.add_ports.Given as goal

abbrev pub invariant-loop-word : goal.invariant-loop-word
invariant-loop-word l =
    record {
      names : l.names ≡ with_names l.initial.names (words_in (take l.word-index l.word-items));
      ports : AddsPorts l.names l.line.number (words_in (take l.word-index l.word-items)) l.initial.ports.items l.ports.items;
      few : length l.names ≤ length l.initial.names + l.word-index;
    }
