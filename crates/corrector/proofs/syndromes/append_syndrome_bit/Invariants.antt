use Rattle.std.proofs.Common.{◌≡◌, ◌+◌, ◌∷◌, length, map, take}
use Rattle.netlist_spec.specs.Covers.{differ, parity}
use Rattle.gate_net.specs.Gate.{net_number}
use Rattle.gate_net.specs.GateNet.{net_count}
use Rattle.predictor.proofs.Checks.{chosen_roots}
use Rattle.corrector.specs.Computed.{IsComputed}
use Rattle.corrector.proofs.syndromes.append_syndrome_bit.Given as goal

abbrev pub invariant-loop-i : goal.invariant-loop-i
invariant-loop-i l = record {
  computed : IsComputed l.fn.net l.net (l.fn.check.0 ∷ map net_number l.places) l.sum.0 (λ v. differ (v l.fn.check.0) (parity (map v (chosen_roots l.code.rows l.j (take l.i (map net_number l.places))))));
  cost : net_count l.net ≡ net_count l.fn.net + length (chosen_roots l.code.rows l.j (take l.i (map net_number l.places)));
}
