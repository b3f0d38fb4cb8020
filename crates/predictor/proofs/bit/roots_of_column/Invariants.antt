use Rattle.std.proofs.Common.{◌≡◌, map, take}
use Rattle.gate_net.specs.Gate.{net_number}
use Rattle.predictor.proofs.Checks.{chosen_roots}
use Rattle.predictor.proofs.bit.roots_of_column.Given as goal

abbrev pub invariant-loop-i : goal.invariant-loop-i
invariant-loop-i l = map net_number l.chosen.items ≡ chosen_roots l.code.rows l.j (take l.i (map net_number l.roots))
