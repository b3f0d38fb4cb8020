-- The S-boxes so far were appended.
use Rattle.std.proofs.Common.{◌≡◌, ◌++◌}
use Rattle.std.specs.List.{flat_map, range_with_len}
use Rattle.demo_design.specs.Texts.{box_text}
use Rattle.demo_design.proofs.netlist_text.push_boxes.Given as goal

abbrev pub invariant-loop-j : goal.invariant-loop-j
invariant-loop-j l = l.text.items ≡ l.initial.text.items ++ flat_map box_text (range_with_len 0 l.j)
