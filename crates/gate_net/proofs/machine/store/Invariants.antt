use Rattle.std.proofs.Common.{◌≡◌, map, take}
use Rattle.gate_net.specs.Machine.{latch_row}
use Rattle.gate_net.specs.GateNet.{net_bit}
use Rattle.gate_net.proofs.machine.store.Given as goal

abbrev pub invariant-loop-i : goal.invariant-loop-i
invariant-loop-i l = take l.i l.state ≡ map (net_bit l.row) (map (λ q. q.d) (map latch_row (take l.i l.latches)))
