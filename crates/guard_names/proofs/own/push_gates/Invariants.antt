use Rattle.std.proofs.Common.{◌≡◌, ◌++◌, map, drop}
use Rattle.gate_net.specs.Gate.{net_number}
use Rattle.guard_names.specs.Labels.{beside_gates}
use Rattle.guard_names.proofs.own.push_gates.Given as goal

abbrev pub invariant-loop-i : goal.invariant-loop-i
invariant-loop-i l = record {
  nets : map net_number l.initial.nets.items ++ beside_gates l.leaves (map net_number l.outputs) (map net_number l.outputs)
      ≡ map net_number l.nets.items ++ beside_gates l.leaves (map net_number (drop l.i l.outputs)) (map net_number (drop l.i l.outputs));
  labels : l.initial.labels.items ++ beside_gates l.leaves l.shown (map net_number l.outputs)
      ≡ l.labels.items ++ beside_gates l.leaves (drop l.i l.shown) (map net_number (drop l.i l.outputs));
}
