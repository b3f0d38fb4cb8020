use Rattle.std.proofs.Common.{◌+◌, ◌/◌, ◌^◌, ◌≤◌, false, take, map}
use Rattle.std.specs.Prelude.{count_ones}
use Rattle.netlist_spec.specs.Covers.{parity, selected}
use Rattle.gate_net.specs.Gate.{net_number}
use Rattle.gate_net.specs.GateNet.{net_count}
use Rattle.reduction.specs.Appended.{ReadsInputsAlone}
use Rattle.reduction.proofs.Appended.{IsJoined}
use Rattle.reduction.proofs.Inputs.{bits_at}
use Rattle.linear_layer.proofs.parities.parity_of.Given as goal

abbrev pub invariant-loop-j : goal.invariant-loop-j
invariant-loop-j l = record {
  joined : IsJoined l.fn.net l.net false l.sum (λ v. parity (selected l.row (bits_at v (take l.j l.ins))));
  reads : ReadsInputsAlone l.fn.net l.net (map net_number l.ins);
  cost : net_count l.net + count_ones (l.row / 2 ^ l.j) ≤ net_count l.fn.net + count_ones l.row;
}
