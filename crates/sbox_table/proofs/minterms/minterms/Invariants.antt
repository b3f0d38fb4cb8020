use Rattle.std.proofs.Common.{◌≡◌, ◌==◌, ◌+◌, ◌*◌, ◌^◌, ◌≤◌, take, map, length}
use Rattle.std.specs.List.{range_with_len}
use Rattle.netlist_spec.specs.Covers.{number_of}
use Rattle.gate_net.specs.Gate.{net_number}
use Rattle.gate_net.specs.GateNet.{net_count}
use Rattle.reduction.specs.Appended.{ReadsInputsAlone}
use Rattle.reduction.proofs.Outputs.{AreAnswered}
use Rattle.reduction.proofs.Inputs.{bits_at}
use Rattle.sbox_table.proofs.minterms.minterms.Given as goal

abbrev pub invariant-loop-n : goal.invariant-loop-n
invariant-loop-n l = record {
  count : length l.all.items ≡ 2 ^ l.n-index;
  answered : AreAnswered l.fn.net l.net l.all.items (λ v. map (λ k. number_of (bits_at v (take l.n-index l.ins)) == k) (range_with_len 0 (2 ^ l.n-index)));
  reads : ReadsInputsAlone l.fn.net l.net (map net_number l.ins);
  cost : net_count l.net + 1 ≤ net_count l.fn.net + 2 * 2 ^ l.n-index;
}
