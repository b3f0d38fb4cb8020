-- The pieces so far were put whole.
use Rattle.std.proofs.Common.{take, Ok}
use Rattle.std.specs.List.{flat_map}
use Rattle.imp_io.specs.Sink.{Puts, bytes_of}
use Rattle.imp_io.proofs.pieces.put_all.Given as goal

abbrev pub invariant-loop-piece : goal.invariant-loop-piece
invariant-loop-piece g l =
    Puts {T = Unit {0}} (g.O.Sink.seen l.initial.out) (flat_map bytes_of (take l.piece-index l.pieces)) (Ok tt) (g.O.Sink.seen l.out)
