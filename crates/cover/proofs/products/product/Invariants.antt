use Rattle.std.proofs.Common.{◌+◌, ◌≤◌, true, take, map}
use Rattle.netlist_spec.specs.Covers.{row_fits}
use Rattle.gate_net.specs.Gate.{net_number}
use Rattle.gate_net.specs.GateNet.{net_count}
use Rattle.reduction.specs.Appended.{ReadsInputsAlone}
use Rattle.reduction.proofs.Appended.{IsJoined}
use Rattle.reduction.proofs.Inputs.{bits_at}
use Rattle.cover.specs.Cover.{row_of}
use Rattle.cover.proofs.products.product.Given as goal

abbrev pub invariant-loop-i : goal.invariant-loop-i
invariant-loop-i l = record {
  joined : IsJoined l.fn.net l.net true l.all (λ v. row_fits (row_of l.row) (bits_at v (take l.i l.ins)));
  reads : ReadsInputsAlone l.fn.net l.net (map net_number l.ins);
  cost : net_count l.net ≤ net_count l.fn.net + l.i;
}
