use Rattle.std.proofs.Common.{◌≡◌, ◌++◌, map, take}
use Rattle.gate_net.specs.Gate.{net_number}
use Rattle.gate_net.specs.GateNet.{net_count}
use Rattle.predictor.proofs.Checks.{chosen_roots}
use Rattle.alarm_rails.specs.Syndromes.{added_gates, whole_sum}
use Rattle.alarm_rails.proofs.rails.add_sum.Given as goal

abbrev pub invariant-loop-i : goal.invariant-loop-i
invariant-loop-i l = record {
  gates : l.dst ≡ record l.fn.dst { gates = l.fn.dst.gates ++ added_gates (net_count l.fn.dst) l.fn.check.0 (chosen_roots l.code.rows l.j (take l.i (map net_number l.places))) };
  sum : l.sum.0 ≡ whole_sum (net_count l.fn.dst) l.fn.check.0 (chosen_roots l.code.rows l.j (take l.i (map net_number l.places)));
}
