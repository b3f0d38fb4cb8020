-- The nodes of the nets so far.
use Rattle.std.proofs.Common.{◌≡◌, take}
use Rattle.plain_size.specs.Edges.{ends_in}
use Rattle.plain_size.proofs.cones.ends.Given as goal

abbrev pub invariant-loop-net : goal.invariant-loop-net
invariant-loop-net l = l.ends.items ≡ ends_in l.nodes (take l.net-index l.nets)
