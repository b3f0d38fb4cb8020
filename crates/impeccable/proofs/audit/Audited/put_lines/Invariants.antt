-- The lines of the cells so far were given.
use Rattle.std.proofs.Common.{map, take}
use Rattle.gate_net.specs.Bit.{bit_of}
use Rattle.blif_read.specs.View.{model_of}
use Rattle.imp_io.specs.Blocks.{Gives}
use Rattle.program_spec.specs.Printed.{bits_lines}
use Rattle.impeccable.proofs.audit.Audited.put_lines.Given as goal

abbrev pub invariant-loop-place : goal.invariant-loop-place
invariant-loop-place g l = Gives g.O.Sink.seen l.initial.out (bits_lines (model_of l.self.model) (map bit_of (take l.place l.bits))) l.out
