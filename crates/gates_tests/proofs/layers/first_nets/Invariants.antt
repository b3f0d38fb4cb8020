use Rattle.std.proofs.Common.{◌≡◌, ◌<◌, map, length}
use Rattle.std.specs.List.{AllByRecursion}
use Rattle.gate_net.specs.Gate.{net_number}
use Rattle.gates_tests.proofs.layers.first_nets.Given as goal

abbrev pub invariant-loop-n : goal.invariant-loop-n
invariant-loop-n l = record {
  count : length l.nets.items ≡ l.n;
  below : AllByRecursion (λ n. n < l.count) (map net_number l.nets.items);
}
