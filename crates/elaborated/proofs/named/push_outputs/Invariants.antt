use Rattle.std.proofs.Common.{◌≡◌, ◌++◌, map, take}
use Rattle.gate_net.specs.Gate.{net_number}
use Rattle.named_netlist.specs.declared.label.Label.TheVariants.{Given}
use Rattle.elaborated.specs.Flat.{at_gates}
use Rattle.elaborated.proofs.named.push_outputs.Given as goal

abbrev pub invariant-loop-i : goal.invariant-loop-i
invariant-loop-i l = l.labels.items ≡ l.initial.labels.items ++ map (λ n. Given n) (at_gates l.leaves (take l.i l.names) (map net_number (take l.i l.nets)))
