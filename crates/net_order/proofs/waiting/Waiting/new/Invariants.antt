-- No item waits.
use Rattle.std.proofs.Common.{◌≡◌, [], map, replicate}
use Rattle.net_order.proofs.waiting.Waiting.new.Given as goal

abbrev pub invariant-loop-net : goal.invariant-loop-net
invariant-loop-net l = map (λ v. v.items) l.lists.items ≡ replicate l.net []
