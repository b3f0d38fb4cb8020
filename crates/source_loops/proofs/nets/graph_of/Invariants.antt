-- The rows so far are in the graph.
use Rattle.std.proofs.Common.{◌≡◌, map, take}
use Rattle.source_loops.specs.Nets.{numbers_of}
use Rattle.source_loops.proofs.nets.graph_of.Given as goal

abbrev pub invariant-loop-i : goal.invariant-loop-i
invariant-loop-i l = l.graph ≡ map numbers_of (take l.i l.rows)
