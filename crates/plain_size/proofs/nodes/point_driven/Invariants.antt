-- The nets that the statements so far drive are pointed at them.
use Rattle.std.proofs.Common.{◌≡◌, ◌<◌, ℕ, List, length}
use Rattle.plain_size.specs.Nodes.{AreNodes, driven_by}
use Rattle.plain_size.proofs.nodes.point_driven.Given as goal

abbrev pub invariant-loop-j : goal.invariant-loop-j
invariant-loop-j l = record {
  size : length l.nodes ≡ length l.m.names;
  nodes : (lead : ℕ → List ℕ) → ((j : ℕ) → j < length l.m.statements.items → lead j ≡ driven_by l.m.statements.items l.survey.drives j)
      → AreNodes (length l.m.names) 0 lead l.initial.nodes → AreNodes (length l.m.names) l.j lead l.nodes;
}
