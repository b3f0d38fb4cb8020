-- The choices so far were appended.
use Rattle.std.proofs.Common.{◌≡◌, ◌++◌}
use Rattle.std.specs.List.{flat_map, range_with_len}
use Rattle.demo_design.specs.Texts.{choice_text}
use Rattle.demo_design.proofs.netlist_text.push_choices.Given as goal

abbrev pub invariant-loop-i : goal.invariant-loop-i
invariant-loop-i l = l.text.items ≡ l.initial.text.items ++ flat_map (choice_text l.n) (range_with_len 0 l.i)
