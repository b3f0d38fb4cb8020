use Rattle.std.proofs.Common.{◌≡◌, ◌+◌, ◌||◌, ◌∷◌, take}
use Rattle.std.specs.Prelude.{count_by}
use Rattle.netlist_spec.specs.Covers.{has_bit}
use Rattle.gate_net.specs.GateNet.{net_count}
use Rattle.corrector.specs.Computed.{IsComputed}
use Rattle.corrector.specs.Hits.{hit_nets, some_hit}
use Rattle.corrector.proofs.corrections.append_error.Given as goal

abbrev pub invariant-loop-hit : goal.invariant-loop-hit
invariant-loop-hit l = record {
  computed : IsComputed l.fn.net l.net (l.fn.never.0 ∷ hit_nets l.hits) l.error.0 (λ v. v l.fn.never.0 || some_hit l.i (take l.hit-index l.hits) v);
  cost : net_count l.net ≡ net_count l.fn.net + count_by (λ h. has_bit h.error.0 l.i) (take l.hit-index l.hits);
}
