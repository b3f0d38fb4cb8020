-- The ports so far were appended.
use Rattle.std.proofs.Common.{◌≡◌, ◌++◌}
use Rattle.std.specs.List.{flat_map, range_with_len}
use Rattle.demo_design.specs.Texts.{port_text}
use Rattle.demo_design.proofs.lines.push_ports.Given as goal

abbrev pub invariant-loop-i : goal.invariant-loop-i
invariant-loop-i l = l.text.items ≡ l.initial.text.items ++ flat_map (port_text l.port l.letter l.j) (range_with_len 0 l.i)
