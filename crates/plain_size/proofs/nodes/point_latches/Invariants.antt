-- The latches so far are pointed at the node.
use Rattle.std.proofs.Common.{take, ◌∷◌, []}
use Rattle.plain_size.specs.Nodes.{ArePointed, shown_by}
use Rattle.plain_size.proofs.nodes.point_latches.Given as goal

abbrev pub invariant-loop-i : goal.invariant-loop-i
invariant-loop-i l = ArePointed (shown_by l.shown (take l.i-index l.word ∷ []) 0) l.node l.initial.nodes l.nodes
