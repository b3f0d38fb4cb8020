-- The cycles so far were simulated, and their lines were given.
use Rattle.std.proofs.Common.{List}
use Rattle.imp_io.specs.Blocks.{Gives}
use Rattle.netlist_spec.specs.SourceRun.{Bits}
use Rattle.program_spec.specs.Printed.{run_text}
use Rattle.impeccable.specs.Sim.{Ran}
use Rattle.impeccable.proofs.sim.put_cycles.Given as goal

abbrev pub invariant-loop-c : goal.invariant-loop-c
invariant-loop-c g l = (outs : List Bits) × Ran l.initial.simulation l.c outs l.simulation × Gives g.O.Sink.seen l.initial.out (run_text outs) l.out
