-- The words so far have no edges.
use Rattle.std.proofs.Common.{◌≡◌, ◌++◌, [], map, replicate}
use Rattle.plain_size.specs.Edges.{ends_in}
use Rattle.plain_size.proofs.cones.edges.Given as goal

abbrev pub invariant-loop : goal.invariant-loop
invariant-loop l = l.graph ≡ map (ends_in l.nodes) l.reads ++ replicate l.counter []
