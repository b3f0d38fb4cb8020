-- The nodes that lead to those from some place on have their roots.
use Rattle.net_cycles.proofs.RootLemmas.{Rooted}
use Rattle.net_cycles.proofs.roots.find_roots.Given as goal

abbrev pub invariant-loop-place : goal.invariant-loop-place
invariant-loop-place l = Rooted l.back l.order l.place l.roots.marks.items l.roots.roots.items

abbrev pub decreases-loop-place : goal.decreases-loop-place
decreases-loop-place l = l.place
