-- The characters so far were given.
use Rattle.std.proofs.Common.{take}
use Rattle.imp_io.specs.Blocks.{Gives}
use Rattle.program_spec.specs.Printed.{bits_text}
use Rattle.impeccable.proofs.sim.put_bits.Given as goal

abbrev pub invariant-loop-bit : goal.invariant-loop-bit
invariant-loop-bit g l = Gives g.O.Sink.seen l.initial.out (bits_text (take l.bit-index l.bits)) l.out
