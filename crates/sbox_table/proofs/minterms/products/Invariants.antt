use Rattle.std.proofs.Common.{◌∷◌, ◌≡◌, ◌+◌, ◌*◌, take, map, length}
use Rattle.netlist_spec.specs.Covers.{has_bit}
use Rattle.netlist_spec.specs.Gates.{bit_number}
use Rattle.gate_net.specs.Gate.{net_number}
use Rattle.gate_net.specs.GateNet.{net_count}
use Rattle.reduction.specs.Appended.{ReadsInputsAlone}
use Rattle.reduction.proofs.Outputs.{AreAnswered}
use Rattle.reduction.proofs.Inputs.{bits_at}
use Rattle.sbox_table.proofs.minterms.products.Given as goal

abbrev pub invariant-loop-m : goal.invariant-loop-m
invariant-loop-m l = record {
  count : length l.all.items ≡ l.m-index;
  answered : AreAnswered l.fn.net l.net l.all.items (λ v. map (λ b. has_bit l.op (2 * bit_number b + bit_number (v l.n.0))) (bits_at v (take l.m-index l.terms)));
  reads : ReadsInputsAlone l.fn.net l.net (l.n.0 ∷ map net_number l.terms);
  cost : net_count l.net ≡ net_count l.fn.net + l.m-index;
}
