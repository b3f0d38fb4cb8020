-- What is marked is reached, and its ends are marked or wait.
use Rattle.std.proofs.Common.{◌+◌, ◌*◌, ◌^◌, not, length, count_by}
use Rattle.net_cycles.proofs.RootLemmas.{Gathering}
use Rattle.net_cycles.proofs.roots.Roots.gather.Given as goal

abbrev pub invariant-loop-node : goal.invariant-loop-node
invariant-loop-node l = Gathering l.back l.root l.initial.self.marks.items l.initial.self.roots.items l.self.marks.items l.self.roots.items l.waiting.items

-- A node that is marked puts less than 2 ^ 64 nodes on the stack.
abbrev pub decreases-loop-node : goal.decreases-loop-node
decreases-loop-node l = count_by not l.self.marks.items * 2 ^ 64 + length l.waiting.items
