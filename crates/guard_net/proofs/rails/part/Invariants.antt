use Rattle.std.proofs.Common.{◌≡◌, take}
use Rattle.guard_net.proofs.rails.part.Given as goal

abbrev pub invariant-loop-n : goal.invariant-loop-n
invariant-loop-n l = l.found.items ≡ take l.n-index l.n-items
