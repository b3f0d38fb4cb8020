use Rattle.std.proofs.Common.{◌+◌, ◌*◌, ◌≤◌, false, take, map, length}
use Rattle.std.specs.List.{list_any}
use Rattle.netlist_spec.specs.Covers.{row_fits}
use Rattle.gate_net.specs.Gate.{net_number}
use Rattle.gate_net.specs.GateNet.{net_count}
use Rattle.reduction.specs.Appended.{ReadsInputsAlone}
use Rattle.reduction.proofs.Appended.{IsJoined}
use Rattle.reduction.proofs.Inputs.{bits_at}
use Rattle.cover.specs.Cover.{row_of}
use Rattle.cover.proofs.products.some_product.Given as goal

abbrev pub invariant-loop-row : goal.invariant-loop-row
invariant-loop-row l = record {
  joined : IsJoined l.fn.net l.net false l.any (λ v. list_any (λ r. row_fits r (bits_at v l.ins)) (map row_of (take l.row-index l.rows)));
  reads : ReadsInputsAlone l.fn.net l.net (map net_number l.ins);
  cost : net_count l.net ≤ net_count l.fn.net + l.row-index * (length l.ins + 2);
}
