-- The names so far were put.
use Rattle.std.proofs.Common.{Ok, take}
use Rattle.imp_io.specs.Sink.{Puts}
use Rattle.refusals.specs.Lines.{each_text}
use Rattle.refusals.proofs.escaped.put_each.Given as goal

abbrev pub invariant-loop-i : goal.invariant-loop-i
invariant-loop-i g l = Puts {T = Unit {0}} (g.E.Sink.seen l.initial.err) (each_text (take l.i l.names)) (Ok tt) (g.E.Sink.seen l.err)
