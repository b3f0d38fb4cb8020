use Rattle.std.proofs.Common.{◌≡◌, ◌+◌, ◌*◌, ◌≤◌, map, length}
use Rattle.std.specs.List.{range_with_len}
use Rattle.gate_net.specs.Gate.{net_number}
use Rattle.gate_net.specs.GateNet.{net_count}
use Rattle.reduction.specs.Appended.{ReadsInputsAlone}
use Rattle.reduction.proofs.Outputs.{AreAnswered}
use Rattle.reduction.proofs.Inputs.{bits_at}
use Rattle.sbox_table.specs.Tables.{output_bit}
use Rattle.sbox_table.proofs.outputs.outputs.Given as goal

abbrev pub invariant-loop-j : goal.invariant-loop-j
invariant-loop-j l = record {
  count : length l.outs.items ≡ l.j;
  answered : AreAnswered l.fn.net l.net l.outs.items (λ v. map (output_bit l.rows (bits_at v l.terms)) (range_with_len 0 l.j));
  reads : ReadsInputsAlone l.fn.net l.net (map net_number l.terms);
  cost : net_count l.net ≤ net_count l.fn.net + l.j * (length l.rows + 1);
}
