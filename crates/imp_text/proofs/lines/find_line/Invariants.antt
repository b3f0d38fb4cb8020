-- No line before this place has words.
use Rattle.std.proofs.Common.{◌≡◌, ◌-◌, [], length, drop}
use Rattle.imp_text.specs.Reading.{lines_left, IsPlace}
use Rattle.imp_text.proofs.lines.find_line.Given as goal

abbrev pub invariant-loop-at : goal.invariant-loop-at
invariant-loop-at l = record {
  place : IsPlace l.source l.at;
  lines : lines_left l.joins l.fn.place.before (drop l.fn.place.start l.source)
      ≡ lines_left l.joins l.at.before (drop l.at.start l.source);
  none : l.tokens.items ≡ [];
}

abbrev pub decreases-loop-at : goal.decreases-loop-at
decreases-loop-at l = length l.source - l.at.start
