-- Each node has been left, is open or is to be entered.
use Rattle.std.proofs.Common.{◌+◌, ◌*◌, ◌^◌, not, length, count_by}
use Rattle.net_cycles.proofs.FinishLemmas.{Finishes}
use Rattle.net_cycles.proofs.finish.finish.Given as goal

abbrev pub invariant-loop-visit : goal.invariant-loop-visit
invariant-loop-visit l = Finishes l.graph l.marks.items l.stack.items l.order.items

-- A node that is entered puts less than 2 ^ 64 visits on the stack.
abbrev pub decreases-loop-visit : goal.decreases-loop-visit
decreases-loop-visit l = count_by not l.marks.items * 2 ^ 64 + length l.stack.items
