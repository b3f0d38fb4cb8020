use Rattle.std.proofs.Common.{◌≡◌, ◌+◌}
use Rattle.gate_net.specs.GateNet.{net_count}
use Rattle.gates_tests.proofs.check_bits.inverters.Given as goal

abbrev pub invariant-loop-i : goal.invariant-loop-i
invariant-loop-i l = (l.net.leaves ≡ 4) × (net_count l.net ≡ 4 + l.i)
