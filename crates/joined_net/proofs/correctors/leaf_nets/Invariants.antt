use Rattle.std.proofs.Common.{◌≡◌, map}
use Rattle.std.specs.List.{range_with_len}
use Rattle.gate_net.specs.Gate.{net_number}
use Rattle.joined_net.proofs.correctors.leaf_nets.Given as goal

abbrev pub invariant-loop-i : goal.invariant-loop-i
invariant-loop-i l = map net_number l.leaf.items ≡ range_with_len 0 l.i
