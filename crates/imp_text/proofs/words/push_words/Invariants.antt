-- The words pushed so far, and those of the bytes that are left, are all.
use Rattle.std.proofs.Common.{◌≡◌, ◌≤◌, ◌++◌, ◌-◌}
use Rattle.std.specs.List.{slice_range}
use Rattle.netlist_spec.specs.Lines.{words}
use Rattle.imp_text.specs.Tokens.{words_at, StandBetween}
use Rattle.imp_text.proofs.words.push_words.Given as goal

abbrev pub invariant-loop-at : goal.invariant-loop-at
invariant-loop-at l = record {
  within : l.at ≤ l.end;
  words : words_at l.source l.tokens.items ++ words (slice_range l.source l.at l.end)
      ≡ words_at l.source l.initial.tokens.items ++ words (slice_range l.source l.start l.end);
  places : StandBetween 0 l.at l.tokens.items;
}

abbrev pub decreases-loop-at : goal.decreases-loop-at
decreases-loop-at l = l.end - l.at
