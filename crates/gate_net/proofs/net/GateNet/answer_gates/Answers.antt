use Rattle.std.proofs.Common.{◌≡◌, ◌∙◌, ap, subst, ◌+◌, map, take, length, arith}
use Rattle.std.proofs.lemmas.List.{take-set-le, take_all, length-map}
use Rattle.netlist_spec.specs.Gates.{GateList, AnswersWithin}
use Rattle.gate_net.specs.Gate.{gate_form}
use Rattle.gate_net.specs.GateNet.{net_bit, net_count}
use Rattle.gate_net.proofs.Evaluation.{reads_here, answers_more, within}
use Rattle.gate_net.proofs.net.GateNet.answer_gates.Goals as goal

pub answer-requires : goal.answer-requires
answer-requires c =
    let items = c.deref-gate-items.result.now in
    let viewed : c.self.inside.leaves + length (map gate_form c.self.inside.gates.items) ≡ net_count c.args.self.now = ap net_count c.self.view_is in
    let long = length-map c.self.inside.gates.items gate_form in
    reads_here gate_form items c.loop-i.i c.gate-item.result c.loop-i-test.true c.gate-item.is c.self.inside.leaves
    (rw c.deref-gate-items.ensures.value c.self.invariant.gates)
    (length c.loop-i.row) (omega arith)

pub loop-i-preserved : goal.loop-i-preserved
loop-i-preserved c =
    let items = c.deref-gate-items.result.now in
    let viewed : c.self.inside.leaves + length (map gate_form c.self.inside.gates.items) ≡ net_count c.args.self.now = ap net_count c.self.view_is in
    let long = length-map c.self.inside.gates.items gate_form in
    record {
      leaves = take-set-le _ _ _ _ (omega arith) ∙ c.loop-i.invariant.leaves;
      gates =
          answers_more gate_form items c.loop-i.i c.gate-item.result c.loop-i-test.true c.gate-item.is c.self.inside.leaves
          (rw c.deref-gate-items.ensures.value c.self.invariant.gates)
          c.loop-i.row (omega arith) c.answer.result c.answer.ensures c.loop-i.invariant.gates;
    }

pub returns : goal.returns
returns c =
    let all = take_all c.loop-i.i c.deref-gate-items.result.now c.loop-i-test.false ∙ c.deref-gate-items.ensures.value in
    let Leaves : GateList → Type 0 = λ net. take net.leaves c.loop-i.row ≡ take net.leaves c.args.row.now in
    let Gates : GateList → Type 0 = λ net. AnswersWithin net net.leaves (net_count net) (net_bit c.loop-i.row) in
    record {
      leaves = subst Leaves c.self.view_is c.loop-i.invariant.leaves;
      gates =
          subst Gates c.self.view_is
          (within (map gate_form c.self.inside.gates.items) c.self.inside.leaves c.self.inside.leaves (c.self.inside.leaves + length (map gate_form c.self.inside.gates.items)) (net_bit c.loop-i.row)
          (rw all at c.loop-i.invariant.gates));
    }
