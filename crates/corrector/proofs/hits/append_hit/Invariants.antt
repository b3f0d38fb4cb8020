use Rattle.std.proofs.Common.{◌≡◌, ◌+◌, ◌&&◌, ◌∷◌, map, take}
use Rattle.gate_net.specs.Gate.{net_number}
use Rattle.gate_net.specs.GateNet.{net_count}
use Rattle.reduction.proofs.Inputs.{bits_at}
use Rattle.corrector.specs.Computed.{IsComputed}
use Rattle.corrector.specs.Hits.{spells}
use Rattle.corrector.proofs.hits.append_hit.Given as goal

abbrev pub invariant-loop-j : goal.invariant-loop-j
invariant-loop-j l = record {
  computed : IsComputed l.fn.net l.net (l.fn.always.0 ∷ map net_number l.syndrome) l.all.0 (λ v. v l.fn.always.0 && spells l.wanted.0 (bits_at v (take l.j l.syndrome)));
  cost : net_count l.net ≡ net_count l.fn.net + l.j;
}
