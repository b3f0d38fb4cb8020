-- The nets that the latches of the words so far show are pointed at the words.
use Rattle.std.proofs.Common.{◌≡◌, ◌<◌, ◌+◌, ℕ, List, Vec, length, map}
use Rattle.std.specs.declared.alloc.Global.{Global}
use Rattle.plain_size.specs.Nodes.{AreNodes, shown_by}
use Rattle.plain_size.proofs.nodes.point_shown.Given as goal

abbrev pub invariant-loop-w : goal.invariant-loop-w
invariant-loop-w l = record {
  size : length l.nodes ≡ length l.initial.nodes;
  nodes : (lead : ℕ → List ℕ) → ((w : ℕ) → w < length l.words → lead (l.first + w) ≡ shown_by l.shown (map (λ (v : Vec ℕ Global). v.items) l.words) w)
      → AreNodes (length l.initial.nodes) l.first lead l.initial.nodes → AreNodes (length l.initial.nodes) (l.first + l.w) lead l.nodes;
}
