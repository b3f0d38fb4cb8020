-- The outputs so far were appended.
use Rattle.std.proofs.Common.{◌≡◌, ◌++◌}
use Rattle.std.specs.List.{flat_map, range_with_len}
use Rattle.demo_design.specs.Texts.{copy_text}
use Rattle.demo_design.proofs.netlist_text.push_copies.Given as goal

abbrev pub invariant-loop-i : goal.invariant-loop-i
invariant-loop-i l = l.text.items ≡ l.initial.text.items ++ flat_map copy_text (range_with_len 0 l.i)
