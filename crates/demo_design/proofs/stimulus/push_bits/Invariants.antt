-- The bits so far were appended.
use Rattle.std.proofs.Common.{◌≡◌, ◌++◌, map, eqb, ◌%◌}
use Rattle.std.specs.Prelude.{◌&&◌}
use Rattle.std.specs.List.{range_with_len}
use Rattle.netlist_spec.specs.Statements.{bit_char}
use Rattle.demo_design.proofs.stimulus.push_bits.Given as goal

abbrev pub invariant-loop-i : goal.invariant-loop-i
invariant-loop-i l = l.text.items ≡ l.initial.text.items ++ map (λ i. bit_char (l.loads && eqb (i % 3) 0)) (range_with_len 0 l.i)
