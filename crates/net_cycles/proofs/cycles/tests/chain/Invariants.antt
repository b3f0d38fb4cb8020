-- The nodes so far have ends within.
use Rattle.std.proofs.Common.{◌≡◌, ◌<◌, length, All}
use Rattle.net_cycles.proofs.cycles.tests.chain.Given as goal

abbrev pub invariant-loop-node : goal.invariant-loop-node
invariant-loop-node l = record { size : length l.graph ≡ l.node; rows : All (λ ends. All (λ k. k < l.nodes) ends) l.graph }
