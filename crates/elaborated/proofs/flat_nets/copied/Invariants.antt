use Rattle.std.proofs.Common.{◌≡◌, ◌-◌, ◌≤◌, take}
use Rattle.elaborated.proofs.flat_nets.copied.Given as goal

abbrev pub invariant-loop-n : goal.invariant-loop-n
invariant-loop-n l = (l.net.leaves ≤ l.n) × (l.copy ≡ record { leaves = l.net.leaves; gates = take (l.n - l.net.leaves) l.net.gates })
