use Rattle.std.proofs.Common.{◌≡◌, map, take}
use Rattle.gate_net.specs.Gate.{gate_form}
use Rattle.gate_net.specs.GateNet.{net_bit}
use Rattle.gate_net.proofs.Evaluation.{Answered}
use Rattle.gate_net.proofs.net.GateNet.answer_gates.Given as goal

abbrev pub invariant-loop-i : goal.invariant-loop-i
invariant-loop-i l = record {
  leaves : take l.first l.row ≡ take l.first l.fn.row;
  gates : Answered l.first (map gate_form (take l.i l.gate-items)) (net_bit l.row);
}
