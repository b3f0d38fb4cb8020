use Rattle.std.proofs.Common.{◌≡◌, ◌+◌, ◌≤◌, take, map, length}
use Rattle.std.specs.Prelude.{count_ones, sum_by}
use Rattle.netlist_spec.specs.Covers.{parity, selected}
use Rattle.gate_net.specs.Gate.{net_number}
use Rattle.gate_net.specs.GateNet.{net_count}
use Rattle.reduction.specs.Appended.{ReadsInputsAlone}
use Rattle.reduction.proofs.Outputs.{AreAnswered}
use Rattle.reduction.proofs.Inputs.{bits_at}
use Rattle.linear_layer.proofs.parities.parities.Given as goal

abbrev pub invariant-loop-row : goal.invariant-loop-row
invariant-loop-row l = record {
  count : length l.outs.items ≡ l.row-index;
  answered : AreAnswered l.fn.net l.net l.outs.items (λ v. map (λ r. parity (selected r (bits_at v l.ins))) (take l.row-index l.rows));
  reads : ReadsInputsAlone l.fn.net l.net (map net_number l.ins);
  cost : net_count l.net ≤ net_count l.fn.net + sum_by count_ones (take l.row-index l.rows) + l.row-index;
}
