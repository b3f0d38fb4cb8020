-- The lines so far were given.
use Rattle.std.proofs.Common.{map, take}
use Rattle.imp_io.specs.Blocks.{Gives}
use Rattle.blif_read.specs.View.{name_at}
use Rattle.blif_write.specs.Lines.{lines_of}
use Rattle.blif_write.proofs.lines.put_names.Given as goal

abbrev pub invariant-loop-id : goal.invariant-loop-id
invariant-loop-id g l =
    Gives g.O.Sink.seen l.initial.out (lines_of l.front (map (name_at l.names) (take l.id-index l.ids))) l.out
