use Rattle.std.proofs.Common.{◌≡◌, ◌+◌, ◌*◌, true, length, map, take}
use Rattle.gate_net.specs.Gate.{net_number}
use Rattle.gate_net.specs.GateNet.{net_count}
use Rattle.corrector.specs.Computed.{IsComputed, AreComputed}
use Rattle.corrector.specs.Hits.{hit_nets, spells}
use Rattle.corrector.proofs.hits.append_hits.Given as goal

abbrev pub invariant-loop-pattern : goal.invariant-loop-pattern
invariant-loop-pattern l = record {
  always : IsComputed l.fn.net l.net (map net_number l.syndrome) l.always.0 (λ v. true);
  computed : AreComputed l.fn.net l.net (map net_number l.syndrome) (hit_nets l.hits.items) (λ v. map (λ p. spells p.syndrome.0 (map v (map net_number l.syndrome))) (take l.pattern-index l.pats));
  errors : map (λ h. h.error.0) l.hits.items ≡ map (λ p. p.error.0) (take l.pattern-index l.pats);
  cost : net_count l.net ≡ net_count l.fn.net + 1 + l.pattern-index * length l.syndrome;
}
