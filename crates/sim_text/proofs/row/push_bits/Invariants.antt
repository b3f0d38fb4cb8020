-- The characters so far have given the bits that are appended.
use Rattle.std.proofs.Common.{◌≡◌, ◌++◌, take}
use Rattle.std.specs.Prelude.{IsSomeAnd}
use Rattle.netlist_spec.specs.Digits.{bits_of_text}
use Rattle.sim_text.proofs.row.push_bits.Given as goal

abbrev pub invariant-loop-c : goal.invariant-loop-c
invariant-loop-c l = IsSomeAnd (bits_of_text (take l.c-index l.word)) (λ row. l.bits ≡ l.initial.bits ++ row)
