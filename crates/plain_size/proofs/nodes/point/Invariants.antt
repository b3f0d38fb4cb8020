-- The nets so far are pointed at the node.
use Rattle.std.proofs.Common.{take}
use Rattle.plain_size.specs.Nodes.{ArePointed, numbers}
use Rattle.plain_size.proofs.nodes.point.Given as goal

abbrev pub invariant-loop-net : goal.invariant-loop-net
invariant-loop-net l = ArePointed (numbers (take l.net-index l.nets)) l.node l.initial.nodes l.nodes
