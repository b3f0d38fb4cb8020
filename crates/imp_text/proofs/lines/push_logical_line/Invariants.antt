-- The lines from the first place on are those from here on, whose first is joined to what was pushed.
use Rattle.std.proofs.Common.{◌≡◌, ◌≤◌, ◌+◌, ◌-◌, length, drop}
use Rattle.netlist_spec.specs.Lines.{joined}
use Rattle.imp_text.specs.Reading.{lines_from, IsPlace}
use Rattle.imp_text.specs.Tokens.{words_at, StandBetween}
use Rattle.imp_text.proofs.lines.push_logical_line.Given as goal

abbrev pub invariant-loop-at : goal.invariant-loop-at
invariant-loop-at l = record {
  place : IsPlace l.source l.at;
  from : l.fn.place.start ≤ l.at.start;
  lines : lines_from l.joins l.fn.place.before (drop l.fn.place.start l.source)
      ≡ joined (l.fn.place.before + 1) (words_at l.source l.tokens.items) (lines_from l.joins l.at.before (drop l.at.start l.source));
  in_order : StandBetween 0 l.at.start l.tokens.items;
}

abbrev pub decreases-loop-at : goal.decreases-loop-at
decreases-loop-at l = length l.source - l.at.start
