-- The pieces so far were given.
use Rattle.std.proofs.Common.{take}
use Rattle.std.specs.List.{flat_map}
use Rattle.imp_io.specs.Sink.{bytes_of}
use Rattle.imp_io.specs.Blocks.{Gives}
use Rattle.imp_io.proofs.blocks.Blocks.put_all.Given as goal

abbrev pub invariant-loop-piece : goal.invariant-loop-piece
invariant-loop-piece g l =
    Gives g.O.Sink.seen l.initial.self (flat_map bytes_of (take l.piece-index l.pieces)) l.self
