use Rattle.std.proofs.Common.{◌≡◌, ◌+◌, ◌∷◌, ◌++◌, map, take}
use Rattle.gate_net.specs.Gate.{net_number}
use Rattle.gate_net.specs.GateNet.{net_count}
use Rattle.cone_split.specs.Copies.{first_sum, added_gates}
use Rattle.cone_split.proofs.sum.append_sum.Given as goal

abbrev pub invariant-loop-n : goal.invariant-loop-n
invariant-loop-n l = record {
  gates : l.dst ≡ record l.fn.dst { gates = l.fn.dst.gates ++ first_sum (map net_number l.nets) ∷ added_gates (net_count l.fn.dst) (map net_number (take l.n-index l.rest)) };
  last : l.last.0 ≡ net_count l.fn.dst + l.n-index;
}
