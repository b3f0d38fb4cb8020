use Rattle.std.proofs.Common.{◌∙◌, ap, take, drop, length, ◌++◌, List, Bool, arith}
use Rattle.std.proofs.lemmas.List.{take-append-le, take_all}
use Rattle.gate_net.proofs.Evaluation.{bits_read}
use Rattle.gate_net.proofs.net.GateNet.eval_into.Goals as goal

pub returns : goal.returns
returns c =
    let n = c.args.self.now.leaves in
    let rest = drop (length c.args.leaves.now) c.args.row.now in
    record {
      inputs =
          bits_read c.answer_gates.new.row 0 n (omega arith)
          ∙ (c.answer_gates.ensures.leaves
          ∙ (ap (λ (front : List Bool). take n (front ++ rest)) c.copy_from_slice.ensures.after
          ∙ (take-append-le n c.args.leaves.now rest (omega arith) ∙ take_all n c.args.leaves.now (omega arith))));
      gates = c.answer_gates.ensures.gates;
    }
