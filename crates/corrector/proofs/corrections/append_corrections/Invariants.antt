use Rattle.std.proofs.Common.{◌≡◌, ◌+◌, ◌++◌, ℕ, Bool, false, length, map, take}
use Rattle.std.specs.List.{enumerate_from}
use Rattle.netlist_spec.specs.Covers.{differ}
use Rattle.gate_net.specs.Gate.{net_number}
use Rattle.gate_net.specs.GateNet.{net_count}
use Rattle.reduction.proofs.Inputs.{bits_at}
use Rattle.corrector.specs.Computed.{IsComputed, AreComputed}
use Rattle.corrector.specs.Hits.{hit_nets, hits_at, some_hit}
use Rattle.corrector.proofs.corrections.append_corrections.Given as goal

abbrev pub invariant-loop-i : goal.invariant-loop-i
invariant-loop-i l = record {
  never : IsComputed l.fn.net l.net (map net_number l.places ++ hit_nets l.hits) l.never.0 (λ v. false);
  computed : AreComputed l.fn.net l.net (map net_number l.places ++ hit_nets l.hits) (map net_number l.nets.items) (λ v. map (λ (p : ℕ × Bool). differ p.1 (some_hit p.0 l.hits v)) (enumerate_from 0 (bits_at v (take l.i l.places))));
  count : length l.nets.items ≡ l.i;
  cost : net_count l.net ≡ net_count l.fn.net + 1 + l.i + hits_at l.i l.hits;
}
