-- The names so far were appended.
use Rattle.std.proofs.Common.{◌≡◌, ◌++◌}
use Rattle.std.specs.List.{range_with_len}
use Rattle.demo_design.specs.Texts.{names_text}
use Rattle.demo_design.proofs.lines.push_words.Given as goal

abbrev pub invariant-loop-i : goal.invariant-loop-i
invariant-loop-i l = l.text.items ≡ l.initial.text.items ++ names_text l.letter (range_with_len 0 l.i)
