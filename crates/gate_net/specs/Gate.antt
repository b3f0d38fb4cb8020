-- What a gate stands for.
use Rattle.std.specs.Prelude.{ℕ}
use Rattle.netlist_spec.specs.Gates.{GateForm, constant, one, two}
use Rattle.gate_net.specs.declared.gate.NetId.{NetId}
use Rattle.gate_net.specs.declared.gate.Gate.{Gate}
use Rattle.gate_net.specs.declared.gate.Gate.TheVariants.{Const, One, Two}

abbrev pub net_number : NetId → ℕ
net_number n = n.0

abbrev pub gate_form : Gate → GateForm
gate_form (Const b) = constant b
gate_form (One inv a) = one inv (net_number a)
gate_form (Two op a b) = two op (net_number a) (net_number b)
