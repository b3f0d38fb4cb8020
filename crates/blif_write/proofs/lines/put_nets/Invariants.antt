-- The lines so far were given.
use Rattle.std.proofs.Common.{map, take}
use Rattle.imp_io.specs.Blocks.{Gives}
use Rattle.netlist_spec.specs.Written.{net_name}
use Rattle.gate_net.specs.Gate.{net_number}
use Rattle.blif_write.specs.Lines.{lines_of}
use Rattle.blif_write.proofs.lines.put_nets.Given as goal

abbrev pub invariant-loop-n : goal.invariant-loop-n
invariant-loop-n g l =
    Gives g.O.Sink.seen l.initial.out (lines_of l.front (map (net_name l.g) (map net_number (take l.n-index l.nets)))) l.out
