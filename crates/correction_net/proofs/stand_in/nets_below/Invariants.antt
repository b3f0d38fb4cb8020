use Rattle.std.proofs.Common.{◌≡◌, map}
use Rattle.std.specs.List.{range_with_len}
use Rattle.gate_net.specs.Gate.{net_number}
use Rattle.correction_net.proofs.stand_in.nets_below.Given as goal

abbrev pub invariant-loop-n : goal.invariant-loop-n
invariant-loop-n l = map net_number l.nets.items ≡ range_with_len 0 l.n
