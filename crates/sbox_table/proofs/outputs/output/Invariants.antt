use Rattle.std.proofs.Common.{map, ◌+◌, ◌≤◌, ◌&&◌, false}
use Rattle.std.specs.Prelude.{slice_index, slice_index_or}
use Rattle.std.specs.List.{list_any, range_with_len}
use Rattle.netlist_spec.specs.Covers.{has_bit}
use Rattle.gate_net.specs.Gate.{net_number}
use Rattle.gate_net.specs.GateNet.{net_count}
use Rattle.reduction.specs.Appended.{ReadsInputsAlone}
use Rattle.reduction.proofs.Appended.{IsJoined}
use Rattle.reduction.proofs.Inputs.{bits_at}
use Rattle.sbox_table.proofs.outputs.output.Given as goal

abbrev pub invariant-loop-k : goal.invariant-loop-k
invariant-loop-k l = record {
  joined : IsJoined l.fn.net l.net false l.any (λ v. list_any (λ q. has_bit (slice_index l.rows q) l.j && slice_index_or (bits_at v l.terms) q false) (range_with_len 0 l.k));
  reads : ReadsInputsAlone l.fn.net l.net (map net_number l.terms);
  cost : net_count l.net ≤ net_count l.fn.net + l.k;
}
