-- The lines so far were given.
use Rattle.std.proofs.Common.{◌-◌, take}
use Rattle.std.specs.List.{flat_map, enumerate_from}
use Rattle.imp_io.specs.Blocks.{Gives}
use Rattle.blif_write.specs.Lines.{latch_text}
use Rattle.blif_write.proofs.text.put_latches.Given as goal

abbrev pub invariant-loop-n : goal.invariant-loop-n
invariant-loop-n g l =
    Gives g.O.Sink.seen l.initial.out (flat_map (latch_text l.g) (enumerate_from l.g.data_inputs (take (l.n - l.g.data_inputs) l.g.latches))) l.out
