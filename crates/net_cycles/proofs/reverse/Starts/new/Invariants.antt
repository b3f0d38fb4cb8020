-- No list has a node.
use Rattle.std.proofs.Common.{◌≡◌, [], map, replicate}
use Rattle.net_cycles.proofs.reverse.Starts.new.Given as goal

abbrev pub invariant-loop-node : goal.invariant-loop-node
invariant-loop-node l = map (λ v. v.items) l.lists.items ≡ replicate l.node []
