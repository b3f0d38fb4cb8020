-- The edges of the statements so far.
use Rattle.std.proofs.Common.{◌≡◌, map, take}
use Rattle.plain_size.specs.Edges.{ends_in}
use Rattle.plain_size.proofs.cones.statement_edges.Given as goal

abbrev pub invariant-loop-j : goal.invariant-loop-j
invariant-loop-j l = l.graph ≡ map (ends_in l.nodes) (take l.j l.reads)
